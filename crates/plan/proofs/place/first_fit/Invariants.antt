-- After each turn the tasks so far are placed by first fit.
use Rattle.std.proofs.Common.{◌≡◌, length}
use Rattle.tasks.specs.Filling.{tasks_of}
use Rattle.plan.proofs.Settled.{Begun}
use Rattle.plan.proofs.Turning.{Turned}
use Rattle.plan.proofs.place.first_fit.Given as goal

abbrev pub invariant-loop-number : goal.invariant-loop-number
invariant-loop-number g l =
    (length l.plan ≡ 32)
    × Turned (tasks_of l.list) l.plan l.number-index l.rows.lanes
    × Begun (g.F.FitTest.yes l.test) l.list.lanes (tasks_of l.list) l.plan l.number-index
