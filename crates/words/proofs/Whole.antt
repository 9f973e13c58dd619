-- The lines of a text, put together again.
use Rattle.std.proofs.Common.{◌≡◌, ℕ, ◌≢◌, ◌⊎◌, List, [], ◌∷◌, ◌++◌, length, sym, refl, ap, subst, ⊎_elim, arith}
use mathlib.Core.Logic.◌⊎◌.{inl, inr}
use Rattle.std.proofs.lemmas.List.{length-append}
use Rattle.std.proofs.lemmas.Bool.{cases_eq}
use Rattle.std.specs.List.{AllByRecursion}
use Rattle.words.proofs.Feeds.{first_is_other}
use Rattle.words.specs.Spelling.{NoFeed, TextIsItsLines, begun_with, lines_of, text_of}

-- What is said of a text and its lines.
abbrev Whole : List ℕ → List (List ℕ) → Type 0
Whole text lines = AllByRecursion NoFeed lines × ((text_of lines ≡ text) ⊎ (text_of lines ≡ text ++ 10 ∷ []))

-- An empty line more in front.
fed : (text : List ℕ) (lines : List (List ℕ)) → Whole text lines → Whole (10 ∷ text) ([] ∷ lines)
fed text lines w = ((tt, w.0), ⊎_elim (λ e. inl (ap (λ (t : List ℕ). 10 ∷ t) e)) (λ e. inr (ap (λ (t : List ℕ). 10 ∷ t) e)) w.1)

-- One byte more in front of the first line. No lines belong to the empty text alone.
begun : (byte : ℕ) → byte ≢ 10 → (text : List ℕ) (lines : List (List ℕ)) → Whole text lines → Whole (byte ∷ text) (begun_with byte lines)
begun byte other text [] w =
    (((other, tt), tt), ⊎_elim (λ e. inr (ap (λ (t : List ℕ). byte ∷ t ++ 10 ∷ []) e)) (λ e. absurd (omega (arith, ap length e, length-append text (10 ∷ [])))) w.1)
begun byte other text (line ∷ lines) w =
    (((other, w.0.0), w.0.1), ⊎_elim (λ e. inl (ap (λ (t : List ℕ). byte ∷ t) e)) (λ e. inr (ap (λ (t : List ℕ). byte ∷ t) e)) w.1)

pub text_is_its_lines : TextIsItsLines
text_is_its_lines [] = (tt, inl refl)
text_is_its_lines (byte ∷ text) =
    let rest = text_is_its_lines text in
    ⊎_elim
    (λ is. subst (λ (b : ℕ). Whole (b ∷ text) (lines_of (b ∷ text))) (sym is) (fed text (lines_of text) rest))
    (λ other. subst (Whole (byte ∷ text)) (sym (first_is_other byte text other)) (begun byte other text (lines_of text) rest))
    (cases_eq byte 10)
