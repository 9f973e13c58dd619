-- A loop that writes what a function makes of each element into another list leaves the mapped list there;
-- and a row with raised works is a raised row.
use Rattle.std.specs.Prelude.{◌≡◌, ℕ, ◌+◌, ◌<◌, List, [], ◌∷◌, ◌++◌, map, length, take, slice_index_or, slice_set, refl}
use Rattle.std.proofs.Common.{ap, sym, ◌∙◌, arith}
use Rattle.fit.specs.Tests.{raised}
use Rattle.fit.specs.Theorems.{Raised}
use Rattle.std.proofs.lemmas.List.{map_more, take_all, take_more_set}
use Rattle.tasks.specs.declared.record.TaskRecord.{TaskRecord}

module _ {X Y : Type 0} (f : X → Y) (xs : List X) (ys : List Y) (i : ℕ) where
  pub copy_goes : (d : X) (y : Y)
      → i < length xs → i < length ys → y ≡ f (slice_index_or xs i d) → take i ys ≡ map f (take i xs) → take (i + 1) (slice_set ys i y) ≡ map f (take (i + 1) xs)
  copy_goes d y inside room is so_far =
      take_more_set ys i y room ∙ ap (λ l. l ++ (y ∷ [])) so_far ∙ ap (λ z. map f (take i xs) ++ (z ∷ [])) is ∙ sym (map_more f xs i d inside)

  pub copy_ends : length xs ≡ i → take i ys ≡ map f (take i xs) → take (length xs) ys ≡ map f xs
  copy_ends all so_far = ap (λ n. take n ys) all ∙ so_far ∙ ap (map f) (take_all i xs (omega arith))

-- The asked task at the end, too.
pub raised_lane : (cost : ℕ) (row : List TaskRecord) (asked : TaskRecord)
    → Raised (row ++ (asked ∷ [])) (map (raised cost) row ++ (raised cost asked ∷ []))
raised_lane cost [] asked = ((omega arith, refl, refl), tt)
raised_lane cost (t ∷ row) asked = ((omega arith, refl, refl), raised_lane cost row asked)
