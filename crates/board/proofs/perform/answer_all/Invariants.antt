-- The entries so far have their answers.
use Rattle.board.specs.View.{view}
use Rattle.board.proofs.Filling.{HalfFilled}
use Rattle.board.proofs.perform.answer_all.Given as goal

abbrev pub invariant-loop-entry : goal.invariant-loop-entry
invariant-loop-entry l = HalfFilled (view l.initial.board) l.initial.entries l.entry-index (view l.board) l.entries
