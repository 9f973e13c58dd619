-- A loop over a row that adds up a bounded number of each task has their sum, and the sum is bounded.
use Rattle.std.specs.Prelude.{◌≡◌, ℕ, ◌+◌, ◌*◌, ◌<◌, ◌≤◌, List, [], ◌∷◌, length, take, sum_by, slice_index_or}
use Rattle.std.proofs.Common.{ap, ◌∙◌, add-mul, one-mul, arith}
use Rattle.std.proofs.lemmas.Nat.{mul-le}
use Rattle.std.proofs.lemmas.List.{take_all}
use Rattle.std.proofs.lemmas.List.Sums.{sum_by-cons, sum_by_more}
use Rattle.std.specs.List.{AllByRecursion}

-- So far: the sum of the first i, which are at most m each.
pub record Total {X : Type 0} (f : X → ℕ) (m : ℕ) (xs : List X) (i sum : ℕ) : Type 0 where
  pub value : sum ≡ sum_by f (take i xs)
  pub bound : sum ≤ i * m

module _ {X : Type 0} (f : X → ℕ) (m : ℕ) (xs : List X) (i sum : ℕ) (so_far : Total f m xs i sum) where
  pub total_goes : (d : X) (term : ℕ) → i < length xs → term ≡ f (slice_index_or xs i d) → term ≤ m → Total f m xs (i + 1) (sum + term)
  total_goes d term inside is small =
      record { value = let more = sum_by_more f xs i d inside in omega (arith, so_far.value, more, is); bound = omega (arith, add-mul i 1 m, one-mul m, so_far.bound) }

  pub total_ends : (n : ℕ) → length xs ≤ i → i ≤ n → (sum ≡ sum_by f xs) × (sum ≤ n * m)
  total_ends n past short = (so_far.value ∙ ap (sum_by f) (take_all i xs past), omega (arith, so_far.bound, mul-le i m n m short (omega arith)))

-- A sum grows with its terms.
pub sum_by_grows : {X : Type 0} (f g : X → ℕ) (xs : List X) → AllByRecursion (λ x. f x ≤ g x) xs → sum_by f xs ≤ sum_by g xs
sum_by_grows f g [] h = omega arith
sum_by_grows f g (x ∷ xs) h = omega (arith, sum_by-cons f x xs, sum_by-cons g x xs, h.0, sum_by_grows f g xs h.1)
