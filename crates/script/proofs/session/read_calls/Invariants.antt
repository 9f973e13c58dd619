use Rattle.std.proofs.Common.{vec_items}
use Rattle.board.specs.Entries.{calls_of}
use Rattle.script.proofs.Sessions.{SaidSoFar}
use Rattle.words.specs.Lines.{lines_left}
use Rattle.script.proofs.session.read_calls.Given as goal

abbrev pub invariant-loop-line : goal.invariant-loop-line
invariant-loop-line l =
    (goal.iterator-loop-line).can_next l.line-iterator × (goal.iterator-loop-line).is_finite l.line-iterator
    × SaidSoFar (lines_left l.fn.lines) (lines_left l.line-iterator) (calls_of (vec_items l.entries))
