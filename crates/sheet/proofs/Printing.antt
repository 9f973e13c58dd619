-- The first place of a list that passes a test, and the first byte of a name that is not printable.
use Rattle.std.proofs.Common.{◌≡◌, ℕ, ◌<◌, Bool, true, false, List, length, take, get_or, length-take-le, Some, None, Option, sym, subst, arith}
use Rattle.std.specs.Prelude.{nat_lt, position, slice_index}
use Rattle.std.specs.List.{AllByRecursion, position_or_len}
use Rattle.std.proofs.ByRecursion.{All-from_get_or}
use Rattle.std.proofs.lemmas.Bool.Decides.{nat_tests}
use Rattle.std.proofs.lemmas.Bool.{cond_both, ltb-true, ltb-false}
use Rattle.std.proofs.lemmas.List.{get_or-take}
use Rattle.std.proofs.lemmas.List.Sums.{fails_before_first, passes_at_first}
use Rattle.sheet.specs.Spelling.{Printable}
use Rattle.sheet.specs.Steps.{unprintable}

-- What holds of the first place that passes, and of none where no place does, holds of the position.
pub position_such :
    {X : Type 0} (p : X → Bool) (xs : List X) (d : X) (P : Option ℕ → Type 0)
    → ((i : ℕ) → i < length xs → ((k : ℕ) → k < i → p (get_or xs k d) ≡ false) → p (get_or xs i d) ≡ true → P (Some i))
    → (((k : ℕ) → k < length xs → p (get_or xs k d) ≡ false) → P None)
    → P (position p xs)
position_such p xs d P found none =
    let n : ℕ = position_or_len p xs in
    cond_both (nat_lt n (length xs)) (Some n) None P
    (λ t.
    let inside = ltb-true n (length xs) t in
    found n inside (λ k. fails_before_first p xs k d) (passes_at_first p xs d inside))
    (λ t. none (λ k h. let past = ltb-false n (length xs) t in fails_before_first p xs k d (omega arith)))

-- The first byte that is not printable, or none.
abbrev pub FirstUnprintable : List ℕ → Option ℕ → Type 0
FirstUnprintable name None = AllByRecursion Printable name
FirstUnprintable name (Some i) =
    (i < length name) × AllByRecursion Printable (take i name) × (Printable (slice_index name i) → ⊥)

printable : (byte : ℕ) → unprintable byte ≡ false → Printable byte
printable byte e = (grind (arith, nat_tests), grind (arith, nat_tests))

not_printable : (byte : ℕ) → unprintable byte ≡ true → Printable byte → ⊥
not_printable byte e h = grind (arith, nat_tests)

pub first_unprintable : (name : List ℕ) (found : Option ℕ) → found ≡ position unprintable name → FirstUnprintable name found
first_unprintable name found e =
    subst (FirstUnprintable name) (sym e) (position_such unprintable name 0 (FirstUnprintable name)
    (λ i inside before here. (
      inside,
      All-from_get_or Printable (take i name) 0 (λ k h.
          let short : k < i = omega (arith, length-take-le {A = ℕ}) in
          rw get_or-take (printable (get_or name k 0) (before k short))),
      not_printable (get_or name i 0) here,
    ))
    (λ before. All-from_get_or Printable name 0 (λ k h. printable (get_or name k 0) (before k h))))
