-- The iteration passes no time with room, and grows until it passes the limit.
use Rattle.std.proofs.Common.{ℕ, ◌+◌, ◌-◌, ◌≤◌, sum_by}
use Rattle.fit.proofs.exact.enough_time.Given as goal
use Rattle.fit.specs.Tests.{requests}

abbrev pub invariant-loop-time : goal.invariant-loop-time
invariant-loop-time l = (1 ≤ l.time) × ((t : ℕ) → 1 ≤ t → l.question.asked.work + sum_by (requests t) l.question.row.now ≤ t → l.time ≤ t)

abbrev pub decreases-loop-time : goal.decreases-loop-time
decreases-loop-time l = l.limit + 1 - l.time
