-- What stands at the front of the unread bytes, from the bytes that were read there.
use Rattle.std.proofs.Common.{◌≡◌, ℕ, ◌+◌, ◌-◌, ◌<◌, ◌≤◌, ◌⊎◌, List, ◌∷◌, ◌++◌, length, get_or, take, drop, Some, None, sym, ap, ◌∙◌, subst, inl, inr, arith}
use Rattle.std.specs.List.{between, AllByRecursion}
use Rattle.std.proofs.lemmas.List.Edits.{length-between}
use Rattle.std.proofs.lemmas.List.{drop_more, drop-drop, length-drop, take-append-drop}
use Rattle.sheet.specs.Refusals.{BadLength, BadNameByte, name_bytes}
use Rattle.sheet.specs.Spelling.{Entry, Printable, entry_bytes, four_bytes}
use Rattle.sheet.proofs.Printing.{FirstUnprintable}

module _ (bytes : List ℕ) (at : ℕ) (inside : at < length bytes) where
  front : drop at bytes ≡ get_or bytes at 0 ∷ drop (at + 1) bytes
  front = drop_more bytes at 0 inside

  -- a length byte that is refused
  pub bad-length : (get_or bytes at 0 < 12) ⊎ ((32 < get_or bytes at 0) ⊎ (length bytes - at ≤ get_or bytes at 0)) → BadLength (drop at bytes)
  bad-length (inl few) = subst BadLength (sym front) (inl few)
  bad-length (inr (inl many)) = subst BadLength (sym front) (inr (inl many))
  bad-length (inr (inr past)) =
      let rest : length (drop (at + 1) bytes) ≡ length bytes - (at + 1) = length-drop (at + 1) bytes in
      subst BadLength (sym front) (inr (inr (omega arith)))

  -- what a reader knows of a length byte n that it did not refuse
  module _ (n : ℕ) (count : n ≡ get_or bytes at 0) (few : 12 ≤ n) (many : n ≤ 32) (past : n < length bytes - at) where
    whole : BadLength (drop at bytes) → ⊥
    whole bad = refuted (subst BadLength front bad)
      where
        rest : length (drop (at + 1) bytes) ≡ length bytes - (at + 1)
        rest = length-drop (at + 1) bytes

        refuted : BadLength (get_or bytes at 0 ∷ drop (at + 1) bytes) → ⊥
        refuted (inl h) = omega arith
        refuted (inr (inl h)) = omega arith
        refuted (inr (inr h)) = omega (arith, rest)

    name_there : name_bytes (drop at bytes) ≡ between (at + 1 + 12) (at + 1 + n) bytes
    name_there =
        let long : get_or bytes at 0 - 12 ≡ at + 1 + n - (at + 1 + 12) = omega arith in
        ap name_bytes front ∙ ap (take (get_or bytes at 0 - 12)) (drop-drop 12 (at + 1) bytes) ∙ ap (λ k. take k (drop (at + 1 + 12) bytes)) long

    pub bad-name : (i : ℕ) → FirstUnprintable (between (at + 1 + 12) (at + 1 + n) bytes) (Some i) → BadNameByte (drop at bytes) i
    bad-name i found =
        let there = subst (λ name. FirstUnprintable name (Some i)) (sym name_there) found in
        record { whole = whole; inside = there.0; fine_before = there.1; bad = there.2 }

    module _ (e : Entry) (name : e.name ≡ between (at + 13) (at + 1 + n) bytes) where
      pub name-long : length e.name ≡ n - 12
      name-long = ap length name ∙ length-between bytes (at + 13) (at + 1 + n) (omega arith) ∙ (omega arith)

      pub name_prints : FirstUnprintable (between (at + 1 + 12) (at + 1 + n) bytes) None → AllByRecursion Printable e.name
      name_prints fine =
          let from : at + 1 + 12 ≡ at + 13 = omega arith in
          subst (AllByRecursion Printable) (ap (λ k. between k (at + 1 + n) bytes) from ∙ sym name) fine

      -- a whole record, and what follows it
      pub entry_there :
          drop (at + 1) bytes ≡ four_bytes e.work ++ drop (at + 5) bytes
          → drop (at + 5) bytes ≡ four_bytes e.limit ++ drop (at + 9) bytes
          → drop (at + 9) bytes ≡ four_bytes e.gap ++ drop (at + 13) bytes
          → drop at bytes ≡ entry_bytes e ++ drop (at + 1 + n) bytes
      entry_there work limit gap =
          let k = at + 1 + n - (at + 13) in
          let size : get_or bytes at 0 ≡ 12 + length e.name = omega (arith, name-long) in
          let reach : at + 13 + k ≡ at + 1 + n = omega arith in
          let halves = take-append-drop k (drop (at + 13) bytes) in
          let after = drop-drop k (at + 13) bytes ∙ ap (λ j. drop j bytes) reach in
          let tail : drop (at + 13) bytes ≡ e.name ++ drop (at + 1 + n) bytes = sym halves ∙ ap (λ ys. take k (drop (at + 13) bytes) ++ ys) after ∙ ap (λ ys. ys ++ drop (at + 1 + n) bytes) (sym name) in
          cc front
