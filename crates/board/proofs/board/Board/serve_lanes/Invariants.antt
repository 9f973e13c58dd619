-- The lanes so far have been served.
use Rattle.board.proofs.Service.{HalfServed}
use Rattle.board.proofs.board.Board.serve_lanes.Given as goal

abbrev pub invariant-loop-lane : goal.invariant-loop-lane
invariant-loop-lane l = HalfServed l.initial.self l.finished l.lane l.byte l.self
