-- The bits of the lanes so far.
use Rattle.std.proofs.Common.{◌≡◌}
use Rattle.board.specs.PlainBoard.{busy}
use Rattle.board.specs.View.{view}
use Rattle.board.proofs.LaneBytes.{byte_from}
use Rattle.board.proofs.board.Board.busy_lanes.Given as goal

abbrev pub invariant-loop-lane : goal.invariant-loop-lane
invariant-loop-lane l = l.byte ≡ byte_from (busy (view l.self)) l.self.seats.list.lanes l.lane
