-- The rounded-up quotient is the least number of gaps that covers a time, and grows with the time.
use Rattle.std.specs.Prelude.{ℕ, ◌+◌, ◌*◌, ◌<◌, ◌≤◌, List, sum_by}
use Rattle.std.proofs.Common.{lt_of_mul-lt-mul_right, mul-le-mul_right, arith}
use Rattle.fit.specs.Totals.{sum_by_grows}
use Rattle.fit.specs.Tests.{Askable, RoundingUpCovers, requests, rounded_up}
use Rattle.std.proofs.lemmas.Grind.{div_ceil_times}
use Rattle.std.proofs.ByRecursion.{All-weaker}
use Rattle.tasks.specs.Task.{Bounded, widest_grid}
use Rattle.tasks.specs.declared.record.TaskRecord.{TaskRecord}

module _ (time gap : ℕ) (some : 1 ≤ gap) where
  pub covers : time ≤ rounded_up time gap * gap
  covers = (div_ceil_times time gap some).0

  pub least : (k : ℕ) → time ≤ k * gap → rounded_up time gap ≤ k
  least k h =
      let below : rounded_up time gap < k + 1 = lt_of_mul-lt-mul_right gap (omega (arith, (div_ceil_times time gap some).1)) in
      omega (arith, below)

pub rounding_up_covers : RoundingUpCovers
rounding_up_covers time gap some = record { covers = covers time gap some; least = least time gap some }

pub rounded_up_grows : (a b gap : ℕ) → 1 ≤ gap → a ≤ b → rounded_up a gap ≤ rounded_up b gap
rounded_up_grows a b gap some h = least a gap some (rounded_up b gap) (omega (arith, covers b gap some))

pub requests_grow : (a b : ℕ) (t : TaskRecord) → 1 ≤ t.gap → a ≤ b → requests a t ≤ requests b t
requests_grow a b t some h = mul-le-mul_right t.work (rounded_up_grows a b t.gap some h)

-- What is asked for within a time is no more than what a later time with room has room for.
pub no_sooner : (row : List TaskRecord) (asked : TaskRecord) (a b : ℕ)
    → Askable row asked → a ≤ b → asked.work + sum_by (requests b) row ≤ b → asked.work + sum_by (requests a) row ≤ b
no_sooner row asked a b may h room =
    omega (arith, sum_by_grows (requests a) (requests b) row (All-weaker (Bounded widest_grid) (λ t. requests a t ≤ requests b t) (λ t k. requests_grow a b t (omega arith) h) row may.row_bounded))
