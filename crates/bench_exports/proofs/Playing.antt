-- Lines that are played one after the other.
use Rattle.std.proofs.Common.{◌≡◌, ℕ, ◌+◌, ◌<◌, ◌≤◌, List, [], ◌∷◌, ◌++◌, length, get_or, take, drop, set, sym, ap, ◌∙◌, arith}
use Rattle.std.proofs.lemmas.List.{append_assoc, append-nil, drop_all, drop_more, drop-set-lt, take_all, take_more_set}
use Rattle.board.specs.PlainBoard.{PlainBoard, after_call, answer_to}
use Rattle.bench_exports.specs.Playing.{call_said, played, told}
use Rattle.bench_exports.specs.declared.play.Line.{Line}

-- The first i lines have their answers, and the rest will.
abbrev pub HalfPlayed : PlainBoard → List Line → ℕ → PlainBoard → List Line → Type 0
HalfPlayed b₀ lines₀ i b lines = take i lines ++ played b (drop i lines) ≡ played b₀ lines₀

module _ (b₀ : PlainBoard) (lines₀ : List Line) (i : ℕ) (b : PlainBoard) (lines : List Line) (half : HalfPlayed b₀ lines₀ i b lines) where
  pub all-played : length lines ≤ i → lines ≡ played b₀ lines₀
  all-played h =
      sym (append-nil lines)
      ∙ (ap (λ (front : List Line). front ++ []) (sym (take_all i lines h))
      ∙ (ap (λ (rest : List Line). take i lines ++ played b rest) (sym (drop_all i lines h)) ∙ half))

  pub one-played :
      (d : Line) → i < length lines → (b' : PlainBoard) → b' ≡ after_call b (call_said (get_or lines i d))
      → (line : Line) → line ≡ told (get_or lines i d) (answer_to b (call_said (get_or lines i d)))
      → HalfPlayed b₀ lines₀ (i + 1) b' (set lines i line)
  one-played d h b' after line is =
      let rest = drop (i + 1) lines in
      let behind : drop (i + 1) (set lines i line) ≡ rest = drop-set-lt (i + 1) lines i line (omega arith) in
      let here = drop_more lines i d h in
      ap (λ (front : List Line). front ++ played b' (drop (i + 1) (set lines i line))) (take_more_set lines i line h)
      ∙ (ap (λ (more : List Line). (take i lines ++ line ∷ []) ++ played b' more) behind
      ∙ (append_assoc (take i lines) (line ∷ []) (played b' rest)
      ∙ (ap (λ (x : Line). take i lines ++ (x ∷ played b' rest)) is
      ∙ (ap (λ (v : PlainBoard). take i lines ++ (told (get_or lines i d) (answer_to b (call_said (get_or lines i d))) ∷ played v rest)) after
      ∙ (ap (λ (more : List Line). take i lines ++ played b more) (sym here) ∙ half)))))
