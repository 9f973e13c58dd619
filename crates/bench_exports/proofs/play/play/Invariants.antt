-- The lines so far have their answers.
use Rattle.board.specs.View.{view}
use Rattle.bench_exports.proofs.Playing.{HalfPlayed}
use Rattle.bench_exports.proofs.play.play.Given as goal

abbrev pub invariant-loop-line : goal.invariant-loop-line
invariant-loop-line l = HalfPlayed (view l.initial.board) l.initial.lines l.line-index (view l.board) l.lines
