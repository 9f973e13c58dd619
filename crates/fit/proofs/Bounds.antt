-- What the numbers of a bounded task, and their sums over a row, cannot pass.
use Rattle.std.proofs.Common.{ℕ, ◌+◌, ◌*◌, ◌/◌, ◌^◌, ◌≤◌, List, length, sum_by, arith}
use Rattle.fit.specs.Tests.{line, requests, rounded_up, share}
use Rattle.fit.specs.Rounding.{rounding_up_covers}
use Rattle.std.proofs.lemmas.Nat.{mul-le, div-add-mod'}
use Rattle.std.proofs.lemmas.List.Elements.{All-weaker}
use Rattle.std.proofs.lemmas.List.Sums.{sum_by-le}
use Rattle.std.specs.List.{All}
use Rattle.tasks.specs.Task.{Bounded, GridRange, widest_grid}
use Rattle.tasks.specs.declared.record.TaskRecord.{TaskRecord}

-- A share is at most the whole grid, since the work is at most the gap.
pub share-bound : (grid : ℕ) (t : TaskRecord) → Bounded widest_grid t → share grid t ≤ grid
share-bound grid t h = omega (arith, mul-le t.work (grid / t.gap) t.gap (grid / t.gap) h.0.2 (omega arith), div-add-mod' grid t.gap)

-- A line and the requests within a time of at most `most`.
pub line-bound : (grid time most : ℕ) → GridRange grid → time ≤ most → (t : TaskRecord) → Bounded widest_grid t → line grid time t ≤ 2 ^ 44 + 2 ^ 24 * most
line-bound grid time most g s t h =
    omega (arith, mul-le grid t.work (2 ^ 24) (2 ^ 20) g.1 (omega arith), mul-le (share grid t) time (2 ^ 24) most (omega (arith, share-bound grid t h)) s)

pub requests-bound : (time most : ℕ) → time ≤ most → (t : TaskRecord) → Bounded widest_grid t → requests time t ≤ most * 2 ^ 20
requests-bound time most s t h =
    mul-le (rounded_up time t.gap) t.work most (2 ^ 20) ((rounding_up_covers time t.gap (omega arith)).least most (time_within time most t.gap s (omega arith))) (omega arith)
  where
    time_within : (time most gap : ℕ) → time ≤ most → 1 ≤ gap → time ≤ most * gap
    time_within time most gap s one = omega (arith, mul-le most 1 most gap (omega arith) one)

-- A row of at most 31 tasks, of each of which some number is at most m.
pub sum-bound : (f : TaskRecord → ℕ) (m : ℕ) (row : List TaskRecord) → length row ≤ 31 → All (Bounded widest_grid) row
    → ((t : TaskRecord) → Bounded widest_grid t → f t ≤ m) → sum_by f row ≤ 31 * m
sum-bound f m row short bounded each =
    omega (arith, sum_by-le f m row (All-weaker (Bounded widest_grid) (λ t. f t ≤ m) each row bounded), mul-le (length row) m 31 m short (omega arith))
