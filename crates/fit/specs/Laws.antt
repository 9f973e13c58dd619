-- A yes of the linear or the exact test keeps the law of a fit test, by the share rule and the exact rule.
use Rattle.std.specs.Prelude.{◌≡◌, ℕ, ◌*◌, ◌/◌, ◌≤◌, List, [], ◌∷◌, ◌++◌, length}
use Rattle.std.proofs.Common.{ap, arith}
use Rattle.fit.specs.Counts.{exact_rule}
use Rattle.fit.specs.Rounding.{covers}
use Rattle.fit.specs.Safe.{bounded_is_proper, safe_if_none_waits}
use Rattle.fit.specs.Shares.{share_rule}
use Rattle.fit.specs.Lane.{SafeTask}
use Rattle.fit.specs.Tests.{ExactYes, LinearYes, rounded_up, share}
use Rattle.fit.specs.Theorems.{Covers, Proper}
use Rattle.std.proofs.lemmas.Nat.{div-add-mod'}
use Rattle.std.proofs.ByRecursion.{All-weaker}
use Rattle.std.specs.List.{AllByRecursion}
use Rattle.tasks.specs.Task.{Bounded, GridRange, OnGrid, widest_grid}
use Rattle.tasks.specs.declared.record.TaskRecord.{TaskRecord}

all_proper : (row : List TaskRecord) → AllByRecursion (Bounded widest_grid) row → AllByRecursion Proper row
all_proper = All-weaker (Bounded widest_grid) Proper (bounded_is_proper widest_grid)

-- Where the gap divides the grid, the share is the fraction itself.
pub share_exact : (grid : ℕ) (t : TaskRecord) → OnGrid grid t → share grid t * t.gap ≡ grid * t.work
share_exact grid t on = omega (arith, ap (λ n. t.work * n) whole)
  where
    whole : grid / t.gap * t.gap ≡ grid
    whole = omega (arith, div-add-mod' grid t.gap, on)

share_covers : (grid : ℕ) (t : TaskRecord) → OnGrid grid t → Covers grid (share grid) t
share_covers grid t on = omega (arith, share_exact grid t on)

pub linear_safe : (grid : ℕ) (row : List TaskRecord) (asked : TaskRecord)
    → GridRange grid → LinearYes grid row asked → SafeTask (row ++ (asked ∷ [])) (length row)
linear_safe grid row asked range h =
    safe_if_none_waits row asked asked.limit (omega arith)
    (share_rule grid (share grid) row asked asked.limit range.0 (all_proper row h.askable.row_bounded) (bounded_is_proper widest_grid asked h.askable.asked_bounded)
    (All-weaker (OnGrid grid) (Covers grid (share grid)) (share_covers grid) row h.row_on_grid) (share_covers grid asked h.asked_on_grid)
    h.in_time h.shares)

pub exact_safe : (row : List TaskRecord) (asked : TaskRecord)
    → ExactYes row asked → SafeTask (row ++ (asked ∷ [])) (length row)
exact_safe row asked h =
    let time = h.enough_time.time in
    safe_if_none_waits row asked time h.enough_time.to_limit
    (exact_rule row asked time (λ t. rounded_up time t.gap) (omega arith) (all_proper row h.askable.row_bounded) (bounded_is_proper widest_grid asked h.askable.asked_bounded)
    (All-weaker (Bounded widest_grid) (λ t. time ≤ rounded_up time t.gap * t.gap) (λ t b. covers time t.gap (omega arith)) row
    h.askable.row_bounded)
    h.enough_time.room)
