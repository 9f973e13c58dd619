-- The byte of some bits grows bit by bit, and each of its bits is the one that it was made from.
use Rattle.std.proofs.Common.{◌≡◌, ℕ, zero, suc, ◌+◌, ◌*◌, ◌/◌, ◌%◌, ◌^◌, ◌<◌, ◌≤◌, Bool, true, false, cond, eqb, List, [], ◌∷◌, ◌++◌, map, length, get_or, sym, refl, ap, ◌∙◌, zero-add, div-one, add-one, arith}
use native.Mathlib.Nat.{div-div-eq-div-mul, pow-succ', zero-div}
use Rattle.std.proofs.lemmas.List.{get_or_past, map_push}
use Rattle.std.proofs.lemmas.Bool.{eq-eqb, ne_eqb}
use Rattle.board.specs.PlainBoard.{bit, byte_of, count_from}
use Rattle.board.proofs.Counted.{counted-at, length-counted}

count_push : (from n : ℕ) → count_from from (suc n) ≡ count_from from n ++ ((from + n) ∷ [])
count_push from zero = ap {B = List ℕ} (λ (n : ℕ). n ∷ []) (omega arith)
count_push from (suc n) =
    ap {B = List ℕ} (λ (ns : List ℕ). from ∷ ns) (count_push (suc from) n)
    ∙ ap {B = List ℕ} (λ (last : ℕ). from ∷ (count_from (suc from) n ++ (last ∷ []))) (omega arith)

-- One more is counted.
pub counted-more : {X : Type 0} (f : ℕ → X) (n : ℕ) → map f (count_from 0 (n + 1)) ≡ map f (count_from 0 n) ++ (f n ∷ [])
counted-more f n =
    ap (λ (m : ℕ). map f (count_from 0 m)) (add-one n)
    ∙ (ap (map f) (count_push 0 n)
    ∙ (map_push f (count_from 0 n) (0 + n) ∙ ap (λ (last : ℕ). map f (count_from 0 n) ++ (f last ∷ [])) (zero-add n)))

byte_push : (bs : List Bool) (b : Bool) → byte_of (bs ++ (b ∷ [])) ≡ byte_of bs + cond b (2 ^ length bs) 0
byte_push [] true = refl
byte_push [] false = refl
byte_push (a ∷ bs) true = omega (arith, byte_push bs true, pow-succ' 2 (length bs))
byte_push (a ∷ bs) false = omega (arith, byte_push bs false)

-- The byte of the bits so far, and one more.
pub byte_more :
    (f : ℕ → Bool) (n : ℕ)
    → byte_of (map f (count_from 0 (n + 1))) ≡ byte_of (map f (count_from 0 n)) + cond (f n) (2 ^ n) 0
byte_more f n =
    ap byte_of (counted-more f n)
    ∙ (byte_push (map f (count_from 0 n)) (f n)
    ∙ ap (λ (k : ℕ). byte_of (map f (count_from 0 n)) + cond (f n) (2 ^ k) 0) (length-counted f n))

byte_below : (bs : List Bool) → byte_of bs < 2 ^ length bs
byte_below [] = omega arith
byte_below (true ∷ bs) = omega (arith, byte_below bs, pow-succ' 2 (length bs))
byte_below (false ∷ bs) = omega (arith, byte_below bs, pow-succ' 2 (length bs))

pub byte_small : (f : ℕ → Bool) (n : ℕ) → byte_of (map f (count_from 0 n)) < 2 ^ n
byte_small f n = rw (ap (λ (k : ℕ). 2 ^ k) (length-counted f n)) at (byte_below (map f (count_from 0 n)))

half_of : (b : Bool) (n : ℕ) → (cond b 1 0 + 2 * n) / 2 ≡ n
half_of true n = omega arith
half_of false n = omega arith

parity_of : (b : Bool) (n : ℕ) → eqb ((cond b 1 0 + 2 * n) % 2) 1 ≡ b
parity_of true n = eq-eqb ((1 + 2 * n) % 2) 1 (omega arith)
parity_of false n = ne_eqb ((0 + 2 * n) % 2) 1 (λ e. omega arith)

bit_of_byte : (bs : List Bool) (k : ℕ) → bit (byte_of bs) k ≡ get_or bs k false
bit_of_byte [] k = ap (λ (n : ℕ). eqb (n % 2) 1) (zero-div (2 ^ k))
bit_of_byte (b ∷ bs) zero =
    ap (λ (n : ℕ). eqb (n % 2) 1) (div-one (cond b 1 0 + 2 * byte_of bs)) ∙ parity_of b (byte_of bs)
bit_of_byte (b ∷ bs) (suc k) =
    ap (λ (n : ℕ). eqb (n % 2) 1)
    (ap (λ (d : ℕ). (cond b 1 0 + 2 * byte_of bs) / d) (pow-succ' 2 k)
    ∙ (sym (div-div-eq-div-mul (cond b 1 0 + 2 * byte_of bs) 2 (2 ^ k)) ∙ ap (λ (n : ℕ). n / 2 ^ k) (half_of b (byte_of bs))))
    ∙ bit_of_byte bs k

-- Bit k of the byte is the k-th that was counted, and no bit is set past them.
pub bit-counted : (f : ℕ → Bool) (n k : ℕ) → k < n → bit (byte_of (map f (count_from 0 n))) k ≡ f k
bit-counted f n k h = bit_of_byte (map f (count_from 0 n)) k ∙ counted-at f n k false h

pub bit_past : (f : ℕ → Bool) (n k : ℕ) → n ≤ k → bit (byte_of (map f (count_from 0 n))) k ≡ false
bit_past f n k h =
    bit_of_byte (map f (count_from 0 n)) k ∙ get_or_past (map f (count_from 0 n)) k false (omega (arith, length-counted f n))
