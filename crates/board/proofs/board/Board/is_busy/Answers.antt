-- A lane of the box is busy where it serves a task; past the last lane there is none.
use Rattle.std.proofs.Common.{is_some, sym, ap, ◌∙◌, arith}
use Rattle.std.proofs.lemmas.Bool.{le-ltb}
use Rattle.board.specs.Seating.{plan_of, tasks_on}
use Rattle.board.specs.View.{standings_on}
use Rattle.board.proofs.View.{busy-is, idle_past}
use Rattle.board.proofs.board.Board.is_busy.Goals as goal

pub returns-then-lane-lanes : goal.returns-then-lane-lanes
returns-then-lane-lanes c =
    let b = c.args.self.now in
    c.is_some.ensures
    ∙ (ap is_some c.served.ensures.value
    ∙ sym (busy-is (tasks_on b.seats) b.seats.list.lanes (plan_of b.seats) (standings_on b) b.clock b.slot_open c.args.lane (omega (arith, c.lanes.ensures))))

pub returns-else-lane-lanes : goal.returns-else-lane-lanes
returns-else-lane-lanes c =
    let b = c.args.self.now in
    le-ltb c.args.lane c.lanes.result c.if-lane-lanes.false
    ∙ sym (idle_past (tasks_on b.seats) b.seats.list.lanes (plan_of b.seats) (standings_on b) b.clock b.slot_open c.args.lane (omega (arith, c.lanes.ensures)))
