-- A byte that is made bit by bit, from the last lane down.
use Rattle.std.proofs.Common.{◌≡◌, ℕ, zero, suc, ◌+◌, ◌-◌, ◌*◌, ◌<◌, ◌≤◌, Bool, true, false, cond, List, [], ◌∷◌, map, length, sym, ap, ◌∙◌, arith}
use Rattle.std.proofs.lemmas.List.{length-map}
use Rattle.board.specs.PlainBoard.{byte_of, count_from}
use Rattle.board.proofs.Counted.{length-count}

abbrev doubled : ℕ → ℕ
doubled zero = 1
doubled (suc n) = doubled n + doubled n

byte_below : (bs : List Bool) (n : ℕ) → length bs ≤ n → byte_of bs < doubled n
byte_below [] zero h = omega arith
byte_below [] (suc n) h = omega (arith, byte_below [] n (omega arith))
byte_below (b ∷ bs) zero h = absurd (omega arith)
byte_below (true ∷ bs) (suc n) h = omega (arith, byte_below bs n (omega arith))
byte_below (false ∷ bs) (suc n) h = omega (arith, byte_below bs n (omega arith))

-- The bits of the lanes from this one on.
abbrev pub byte_from : (ℕ → Bool) → ℕ → ℕ → ℕ
byte_from f lanes lane = byte_of (map f (count_from lane (lanes - lane)))

pub byte_fits : (f : ℕ → Bool) (lanes lane : ℕ) → lanes ≤ 4 → byte_from f lanes lane < 128
byte_fits f lanes lane h =
    let bits = map f (count_from lane (lanes - lane)) in
    let few = byte_below bits 4 (omega (arith, length-map (count_from lane (lanes - lane)) f, length-count lane (lanes - lane))) in omega arith

pub byte_all : (f : ℕ → Bool) (lanes : ℕ) → byte_from f lanes 0 ≡ byte_of (map f (count_from 0 lanes))
byte_all f lanes = let all : lanes - 0 ≡ lanes = omega arith in ap (λ n. byte_of (map f (count_from 0 n))) all

pub byte_more : (f : ℕ → Bool) (lanes lane : ℕ) → 0 < lane → lane ≤ lanes → cond (f (lane - 1)) 1 0 + 2 * byte_from f lanes lane ≡ byte_from f lanes (lane - 1)
byte_more f lanes lane h k =
    let low = lane - 1 in
    let left : lanes - low ≡ suc (lanes - lane) = omega arith in
    let next : suc low ≡ lane = omega arith in
    ap (λ (n : ℕ). cond (f low) 1 0 + 2 * byte_of (map f (count_from n (lanes - lane)))) (sym next)
    ∙ ap (λ n. byte_of (map f (count_from low n))) (sym left)
