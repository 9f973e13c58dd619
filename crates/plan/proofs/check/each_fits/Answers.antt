-- Each task is asked over the row of its lane in its turn.
use Rattle.std.proofs.Common.{◌≡◌, ℕ, ◌-◌, ◌<◌, List, [], ◌∷◌, ◌++◌, map, length, get_or, set, take, refl, ap, subst, arith, below_more}
use Rattle.tasks.specs.Filling.{tasks_of}
use Rattle.tasks.specs.List.{held}
use Rattle.tasks.specs.declared.record.TaskRecord.{TaskRecord}
use Rattle.plan.specs.Placing.{Takes, lane_of, record_of}
use Rattle.plan.specs.Steps.{row_on}
use Rattle.plan.proofs.Awaiting.{length-tasks}
use Rattle.plan.proofs.Order.{number_in_turn}
use Rattle.plan.proofs.Turning.{asked_in_turn, room_in_row, turned_next}
use Rattle.plan.proofs.check.each_fits.Goals as goal

pub bounds-plan-number : goal.bounds-plan-number
bounds-plan-number g c =
    let at = number_in_turn (tasks_of c.args.list.now) _ (c.len.result - 0) (omega arith) c.numbers_in_order-turns.ensures.ordered c.loop-number.number-index (omega arith) in
    omega (arith, at.1)

pub offset_bounds-records-number : goal.offset_bounds-records-number
offset_bounds-records-number g c =
    let at = number_in_turn (tasks_of c.args.list.now) _ (c.len.result - 0) (omega arith) c.numbers_in_order-turns.ensures.ordered c.loop-number.number-index (omega arith) in
    omega (arith, at.1, length-tasks c.args.list.now)

pub bounds-records-number : goal.bounds-records-number
bounds-records-number g c =
    let at = number_in_turn (tasks_of c.args.list.now) _ (c.len.result - 0) (omega arith) c.numbers_in_order-turns.ensures.ordered c.loop-number.number-index (omega arith) in
    omega (arith, at.1, ap length c.records-records.ensures)

pub loop-number-preserved : goal.loop-number-preserved
loop-number-preserved g c =
    let tasks = tasks_of c.args.list.now in
    let plan = c.args.plan.now in
    let k = c.loop-number.number-index in
    let turned = c.loop-number.invariant.0 in
    let number = get_or (take (c.len.result - 0) c.numbers_in_order-turns.result) k 0 in
    let lane = lane_of plan number in
    let rows = c.loop-number.rows.lanes in
    let records = c.records-records.result.now in
    let here : k < length tasks = omega arith in
    let at = number_in_turn tasks c.numbers_in_order-turns.result (c.len.result - 0) (omega arith) c.numbers_in_order-turns.ensures.ordered k here in
    let four : lane < 4 = omega (arith, c.requires.lanes number at.1, c.args.list.now.lane_range) in
    let asked =
    asked_in_turn tasks plan k rows turned (g.F.FitTest.yes c.args.test.now)
    c.args.list.now.lanes records c.records-records.ensures number at.0 lane four c.takes.result c.takes.ensures in
    let joined =
    subst (λ (all : List TaskRecord). map held c.put.new.self.lanes ≡ set (map held rows) lane (row_on rows lane ++ (record_of all number ∷ [])))
    c.records-records.ensures c.in_ok-put.ensures in (
      turned_next tasks plan k rows turned number lane c.put.new.self.lanes here at.0 c.loop-number.rows.four four refl joined,
      below_more _ k c.loop-number.invariant.1
          (subst (λ (n : ℕ). Takes (g.F.FitTest.yes c.args.test.now) c.args.list.now.lanes tasks plan (lane_of plan n) k) at.0 (asked.0 c.if-not-takes.false)),
    )

pub returns-in_err-put : goal.returns-in_err-put
returns-in_err-put g c =
    let tasks = tasks_of c.args.list.now in
    let k = c.loop-number.number-index in
    let turned = c.loop-number.invariant.0 in
    let number = get_or (take (c.len.result - 0) c.numbers_in_order-turns.result) k 0 in
    let lane = lane_of c.args.plan.now number in
    let here : k < length tasks = omega arith in
    let at = number_in_turn tasks c.numbers_in_order-turns.result (c.len.result - 0) (omega arith) c.numbers_in_order-turns.ensures.ordered k here in
    let four : lane < 4 = omega (arith, c.requires.lanes number at.1, c.args.list.now.lane_range) in
    absurd
    (room_in_row tasks c.args.plan.now k c.loop-number.rows.lanes turned here (length-tasks c.args.list.now) lane four c.in_err-put.ensures)
