-- A lane with no task has no late job.
use Rattle.tasks.specs.Filling.{tasks_of}
use Rattle.board.proofs.Empty.{empty_is_safe, empty-order}
use Rattle.board.proofs.seats.Seats.none.Goals as goal

pub invariant_of-result-clause-in_order : goal.invariant_of-result-clause-in_order
invariant_of-result-clause-in_order c = empty-order _ (tasks_of c.new.result) c.new.ensures.tasks_are

pub invariant_of-result-clause-safe : goal.invariant_of-result-clause-safe
invariant_of-result-clause-safe c = empty_is_safe c.new.result.lanes _ (tasks_of c.new.result) c.new.ensures.tasks_are
