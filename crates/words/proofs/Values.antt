-- The value of digits grows with each digit.
use Rattle.std.proofs.Common.{◌≡◌, ℕ, zero, suc, ◌+◌, ◌*◌, ◌<◌, ◌≤◌, List, [], ◌∷◌, length, get_or, take, ⊎_elim, arith}
use Rattle.std.proofs.lemmas.Bool.{cases_lt}
use Rattle.std.specs.Str.Parse.{AllDigits, digits_value, digits_value_after}
use Rattle.std.specs.Char.{digit_value}
use Rattle.std.proofs.lemmas.Int.Digits.{digits_value_more}
use Rattle.words.specs.Spelling.{Number}

-- digits that follow never lower the value
pub value_grows : (bytes : List ℕ) (n : ℕ) → n ≤ digits_value_after 10 n bytes
value_grows [] n = omega arith
value_grows (byte ∷ bytes) n =
    let more = value_grows bytes (n * 10 + digit_value byte) in omega arith

pub value_of_front : (bytes : List ℕ) (k n : ℕ) → digits_value_after 10 n (take k bytes) ≤ digits_value_after 10 n bytes
value_of_front [] zero n = omega arith
value_of_front [] (suc k) n = omega arith
value_of_front (byte ∷ bytes) zero n = value_grows (byte ∷ bytes) n
value_of_front (byte ∷ bytes) (suc k) n = value_of_front bytes k (n * 10 + digit_value byte)

pub digit_at : (bytes : List ℕ) (k : ℕ) → AllDigits 10 bytes → k < length bytes → digit_value (get_or bytes k 0) < 10
digit_at [] k all below = absurd (omega arith)
digit_at (byte ∷ bytes) zero all below = all.0
digit_at (byte ∷ bytes) (suc k) all below = digit_at bytes k all.1 (omega arith)

-- what is no digit, or passes the most, ends the search for a number
pub number-stops : (bytes : List ℕ) (k value most : ℕ) → k < length bytes → value ≡ digits_value 10 (take k bytes)
    → ¬ ((digit_value (get_or bytes k 0) < 10) × (value * 10 + digit_value (get_or bytes k 0) ≤ most))
    → (n : ℕ) → Number bytes n → most < n
number-stops bytes k value most inside value_is stopped n number =
    let digit = digit_at bytes k number.digits inside in
    let front = value_of_front bytes (k + 1) 0 in
    let more = digits_value_more 10 bytes k inside in
    let whole = number.value_is in
    ⊎_elim (λ over. over) (λ within. absurd (stopped (digit, omega arith))) (cases_lt most n)
