-- A line that begins with a word is the word and what follows it.
use Rattle.std.proofs.Common.{◌≡◌, ℕ, List, [], ◌∷◌, ◌++◌, IfOk, Some, None, Ok, Err, Option, Result, sym, ◌∙◌, subst, arith}
use Rattle.std.specs.Global.{Vec}
use Rattle.words.specs.Spelling.{Hex, HexRead, HexedRead, Number, NumberRead, NumberedRead}

-- two rests after one word are the same
pub same_rest : (word a b : List ℕ) → word ++ a ≡ word ++ b → a ≡ b
same_rest [] a b same = same
same_rest (byte ∷ word) a b same = same_rest word a b (cc)

pub numbered_after : (line word digits : List ℕ) (most : ℕ) → line ≡ word ++ digits → (r : Option ℕ) → NumberRead digits most r → NumberedRead line word most r
numbered_after line word digits most line_is (Some n) read =
    record { digits = digits; line_is = line_is; number = read.0; in_range = read.1 }
numbered_after line word digits most line_is None read = λ n found.
    let same = same_rest word found.digits digits (sym found.line_is ∙ line_is) in
    let over = read n (subst (λ ds. Number ds n) same found.number) in
    let within = found.in_range in
    omega arith

pub hexed_after : {E : Type 0} (line word digits : List ℕ) → line ≡ word ++ digits → (r : Result (Option (Vec ℕ)) E) → IfOk r (HexRead digits) → IfOk r (HexedRead line word)
hexed_after line word digits line_is (Ok (Some bytes)) read = record { digits = digits; line_is = line_is; hex = read }
hexed_after line word digits line_is (Ok None) read = λ bytes found.
    let same = same_rest word found.digits digits (sym found.line_is ∙ line_is) in
    read bytes (subst (λ ds. Hex ds bytes) same found.hex)
hexed_after line word digits line_is (Err fault) read = tt
