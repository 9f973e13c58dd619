-- Each turn serves one lane and puts its bit below the others.
use Rattle.std.proofs.Common.{◌-◌, Bool, map, refl, subst, arith}
use Rattle.board.specs.PlainBoard.{closes_at_end}
use Rattle.board.specs.Queues.{standing}
use Rattle.board.specs.Seating.{plan_of, tasks_on}
use Rattle.board.specs.Steps.{SlotGiven}
use Rattle.board.specs.View.{standings_on, view}
use Rattle.board.proofs.LaneBytes.{byte_fits}
use Rattle.board.proofs.Service.{half_next}
use Rattle.board.proofs.board.Board.serve_lanes.Goals as goal

pub with_low_bit-byte-requires : goal.with_low_bit-byte-requires
with_low_bit-byte-requires c =
    let b = c.args.self.now in
    let fits = byte_fits (closes_at_end (view b) c.args.finished) b.seats.list.lanes c.loop-lane.lane b.seats.list.lane_range.1 in
    omega (arith, c.loop-lane.invariant.bits)

pub loop-lane-preserved : goal.loop-lane-preserved
loop-lane-preserved c =
    let b = c.args.self.now in
    let lane = c.loop-lane.lane in
    let now = c.loop-lane.self in
    let served =
    subst (λ (said : Bool). SlotGiven (tasks_on now.seats) (plan_of now.seats) (standings_on now) (lane - 1) said c.serve-closed.result (map standing c.serve-closed.new.self.queues))
    c.bit_of.ensures c.serve-closed.ensures.served in
    half_next b c.args.finished lane c.loop-lane.byte now c.loop-lane.invariant c.loop-lane-test.true
    c.serve-closed.result _ (record { seats = refl; clock = refl; slot = refl }) served _ c.with_low_bit-byte.ensures
