-- After each turn the tasks so far fit, and the rows are those of the plan.
use Rattle.std.proofs.Common.{ℕ, ◌<◌}
use Rattle.tasks.specs.Filling.{tasks_of}
use Rattle.plan.specs.Placing.{Fits}
use Rattle.plan.proofs.Turning.{Turned}
use Rattle.plan.proofs.check.each_fits.Given as goal

abbrev pub invariant-loop-number : goal.invariant-loop-number
invariant-loop-number g l =
    Turned (tasks_of l.list) l.plan l.number-index l.rows.lanes
    × ((j : ℕ) → j < l.number-index → Fits (g.F.FitTest.yes l.test) l.list.lanes (tasks_of l.list) l.plan j)
