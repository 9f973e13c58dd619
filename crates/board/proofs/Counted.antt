-- Lists that are counted out: how long they are, and what stands at a place.
use Rattle.std.proofs.Common.{◌≡◌, ℕ, zero, suc, ◌+◌, ◌<◌, map, length, get_or, refl, ap, ◌∙◌, zero-add, arith}
use Rattle.std.proofs.lemmas.List.{length-map}
use Rattle.board.specs.PlainBoard.{count_from}

pub length-count : (from n : ℕ) → length (count_from from n) ≡ n
length-count from zero = refl
length-count from (suc n) = ap suc (length-count (suc from) n)

pub length-counted : {X : Type 0} (f : ℕ → X) (n : ℕ) → length (map f (count_from 0 n)) ≡ n
length-counted f n = length-map (count_from 0 n) f ∙ length-count 0 n

get_or-counted :
    {X : Type 0} (f : ℕ → X) (from n k : ℕ) (d : X) → k < n → get_or (map f (count_from from n)) k d ≡ f (from + k)
get_or-counted f from zero k d h = absurd (omega arith)
get_or-counted f from (suc n) zero d h = ap f (omega arith)
get_or-counted f from (suc n) (suc k) d h = get_or-counted f (suc from) n k d (omega arith) ∙ ap f (omega arith)

pub counted-at : {X : Type 0} (f : ℕ → X) (n k : ℕ) (d : X) → k < n → get_or (map f (count_from 0 n)) k d ≡ f k
counted-at f n k d h = get_or-counted f 0 n k d h ∙ ap f (zero-add k)
