-- The headings stand in the first four lines.
use Rattle.std.proofs.Common.{◌≡◌, ℕ, suc, List, [], ◌∷◌, drop, None, Ok, Err, Option, Result, ap, ◌∙◌, subst}
use Rattle.std.specs.Option.{ok_or}
use Rattle.std.specs.Result.{IsErrAnd}
use Rattle.script.specs.declared.opening.OpeningError.{OpeningError}
use Rattle.script.specs.declared.opening.OpeningError.TheVariants.{NotUnderstood}
use Rattle.script.specs.Opening.{line_at}

-- what follows the first line
step : (lines rest : List (List ℕ)) (k : ℕ) → rest ≡ drop 1 lines → line_at rest k ≡ line_at lines (suc k)
step [] rest k is = ap (λ ls. line_at ls k) is
step (line ∷ lines) rest k is = ap (λ ls. line_at ls k) is

pub second-line : (lines a : List (List ℕ)) → a ≡ drop 1 lines → line_at a 0 ≡ line_at lines 1
second-line lines a a_is = step lines a 0 a_is

pub third-line : (lines a b : List (List ℕ)) → a ≡ drop 1 lines → b ≡ drop 1 a → line_at b 0 ≡ line_at lines 2
third-line lines a b a_is b_is = step a b 0 b_is ∙ step lines a 1 a_is

pub fourth_line : (lines a b c : List (List ℕ)) → a ≡ drop 1 lines → b ≡ drop 1 a → c ≡ drop 1 b → line_at c 0 ≡ line_at lines 3
fourth_line lines a b c a_is b_is c_is = step b c 0 c_is ∙ step a b 1 b_is ∙ step lines a 2 a_is

-- what was read of a line, at another name of the line and of what was found
pub read_at : {A : Type 0} (R : List ℕ → Option A → Type 0) {line line' : List ℕ} {found found' : Option A} → line ≡ line' → found ≡ found' → R line found → R line' found'
read_at R {line' = line'} {found = found} same is read = subst (R line') is (subst (λ l. R l found) same read)

-- the refusal of what was not found
pub refusal_is : {A B : Type 0} (found : Option A) (line : ℕ) (e : OpeningError) (r : Result B OpeningError)
    → Err e ≡ ok_or found (NotUnderstood line) → found ≡ None → IsErrAnd r (λ given. given ≡ e) → r ≡ Err (NotUnderstood line)
refusal_is {A = A} found line e (Err given) e_is none given_is = let is = ap (λ (o : Option A). ok_or o (NotUnderstood line)) none in cc
refusal_is found line e (Ok found') e_is none given_is = absurd given_is
