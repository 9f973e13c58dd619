-- The faults in their order, and the task that the lane serves.
use Rattle.std.proofs.Common.{◌<◌, not, [], length, sym, refl, ap, ◌∙◌, arith}
use Rattle.std.proofs.lemmas.Bool.{le-leb, lt-leb}
use Rattle.board.specs.Seating.{plan_of, tasks_on}
use Rattle.board.specs.View.{standings_on, view}
use Rattle.board.specs.declared.call.Answer.TheVariants as answer
use Rattle.board.specs.declared.fault.BoardFault.TheVariants.{NoLane, SlotShut}
use Rattle.board.proofs.Refusals.{applied, length-lanes, passed}
use Rattle.board.proofs.View.{serves_is}
use Rattle.board.proofs.board.Board.serving.Goals as goal

pub returns-then-lane-lanes : goal.returns-then-lane-lanes
returns-then-lane-lanes c =
    let b = c.args.self.now in
    let lane = c.args.lane in
    (applied (NoLane lane) _ (le-leb (length (view b).lanes) lane (omega (arith, length-lanes b, c.lanes.ensures))), refl)

pub returns-then-not-self : goal.returns-then-not-self
returns-then-not-self c =
    let b = c.args.self.now in
    let lane = c.args.lane in
    (passed (NoLane lane) _ (lt-leb (length (view b).lanes) lane (omega (arith, length-lanes b, c.lanes.ensures))) ∙ applied (SlotShut b.clock) [] (ap not c.if-not-self.true), refl)

pub returns : goal.returns
returns c =
    let b = c.args.self.now in
    let lane = c.args.lane in
    let within : lane < b.seats.list.lanes = omega (arith, c.lanes.ensures) in (
      passed (NoLane lane) _ (lt-leb (length (view b).lanes) lane (omega (arith, length-lanes b))) ∙ passed (SlotShut b.clock) [] (ap not c.if-not-self.false),
      ap answer.Serving (c.served.ensures.value ∙ sym (serves_is (tasks_on b.seats) b.seats.list.lanes (plan_of b.seats) (standings_on b) b.clock b.slot_open lane within)),
      refl,
    )
