-- Bytes that are read as a number are the bytes that spell it.
use Rattle.std.proofs.Common.{◌≡◌, ℕ, ◌+◌, ◌*◌, ◌/◌, ◌%◌, ◌<◌, ◌≤◌, List, [], ◌∷◌, ◌++◌, length, get_or, drop, ap, ◌∙◌, arith}
use Rattle.std.proofs.lemmas.List.{drop_more}
use Rattle.sheet.specs.Spelling.{four_bytes}

pub four_spelled : (a b c d r : ℕ) → a < 256 → b < 256 → c < 256 → d < 256
    → r ≡ a * 16777216 + b * 65536 + c * 256 + d → a ∷ b ∷ c ∷ d ∷ [] ≡ four_bytes r
four_spelled a b c d r la lb lc ld e =
    let ea : a ≡ r / 16777216 = omega arith in
    let eb : b ≡ (r / 65536) % 256 = omega arith in
    let ec : c ≡ (r / 256) % 256 = omega arith in
    let ed : d ≡ r % 256 = omega arith in
    cc

four_drop : (xs : List ℕ) (i : ℕ) → i + 4 ≤ length xs
    → drop i xs ≡ get_or xs i 0 ∷ get_or xs (i + 1) 0 ∷ get_or xs (i + 2) 0 ∷ get_or xs (i + 3) 0 ∷ drop (i + 4) xs
four_drop xs i within =
    let h0 = drop_more xs i 0 (omega arith) in
    let h1 = drop_more xs (i + 1) 0 (omega arith) in
    let h2 = drop_more xs (i + 2) 0 (omega arith) in
    let h3 = drop_more xs (i + 3) 0 (omega arith) in
    let s1 : i + 1 + 1 ≡ i + 2 = omega arith in
    let s2 : i + 2 + 1 ≡ i + 3 = omega arith in
    let s3 : i + 3 + 1 ≡ i + 4 = omega arith in
    cc

-- Four bytes at i, each below 256, and then the rest.
pub four_front : (xs : List ℕ) (i r : ℕ) → i + 4 ≤ length xs
    → get_or xs i 0 < 256 → get_or xs (i + 1) 0 < 256 → get_or xs (i + 2) 0 < 256 → get_or xs (i + 3) 0 < 256
    → r ≡ get_or xs i 0 * 16777216 + get_or xs (i + 1) 0 * 65536 + get_or xs (i + 2) 0 * 256 + get_or xs (i + 3) 0
    → drop i xs ≡ four_bytes r ++ drop (i + 4) xs
four_front xs i r within l0 l1 l2 l3 e =
    four_drop xs i within ∙ ap (λ ys. ys ++ drop (i + 4) xs) (four_spelled _ _ _ _ r l0 l1 l2 l3 e)
