-- Each turn puts one lane's bit below the others.
use Rattle.std.proofs.Common.{◌≡◌, ℕ, map, sym, ap, ◌∙◌, arith}
use Rattle.board.specs.PlainBoard.{busy, byte_of, count_from}
use Rattle.board.specs.View.{view}
use Rattle.board.proofs.LaneBytes.{byte_all, byte_fits, byte_from}
use Rattle.board.proofs.Refusals.{length-lanes}
use Rattle.board.proofs.board.Board.busy_lanes.Goals as goal

pub with_low_bit-byte-requires : goal.with_low_bit-byte-requires
with_low_bit-byte-requires c =
    let b = c.args.self.now in
    omega (arith, byte_fits (busy (view b)) b.seats.list.lanes c.loop-lane.lane b.seats.list.lane_range.1, c.loop-lane.invariant)

pub returns : goal.returns
returns c =
    let b = c.args.self.now in
    let none : c.loop-lane.lane ≡ 0 = omega arith in
    c.loop-lane.invariant
    ∙ (ap (byte_from (busy (view b)) b.seats.list.lanes) none
    ∙ (byte_all (busy (view b)) b.seats.list.lanes ∙ ap (λ (n : ℕ). byte_of (map (busy (view b)) (count_from 0 n))) (sym (length-lanes b))))
