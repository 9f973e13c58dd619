-- What is left to read of a text, as lines.
use Rattle.std.specs.Prelude.{◌≡◌, ℕ, List, [], ◌∷◌, Option, MatchOption}
use Rattle.std.specs.Borrow.{Bor}
use Rattle.words.specs.Spelling.{lines_of}
use Rattle.words.specs.declared.lines.Lines.{Lines}

abbrev pub lines_left : Lines → List (List ℕ)
lines_left lines = lines_of lines.rest.now

-- The first of these lines was handed out, and these are left.
abbrev pub NextLine : List (List ℕ) → Option (Bor (List ℕ)) → List (List ℕ) → Type 0
NextLine before found after = MatchOption found ((before ≡ []) × (after ≡ [])) (λ line. before ≡ line.now ∷ after)
