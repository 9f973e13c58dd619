use Rattle.std.proofs.Common.{◌≤◌, length, vec_items}
use Rattle.lanes.specs.Steps.{LinesAdded}
use Rattle.lanes.proofs.listing.lines.Given as goal

abbrev pub invariant-loop-task : goal.invariant-loop-task
invariant-loop-task l = (l.task ≤ length l.plan) × LinesAdded l.sheet l.plan l.task (vec_items l.initial.text) (vec_items l.text)
