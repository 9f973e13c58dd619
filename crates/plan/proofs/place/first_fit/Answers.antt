-- Each task gets, in its turn, the first lane that takes it.
use Rattle.std.proofs.Common.{◌≡◌, ◌-◌, ◌<◌, List, [], ◌∷◌, ◌++◌, map, length, get_or, set, take, ap, ◌∙◌, subst, arith}
use Rattle.std.proofs.lemmas.List.{get_or-set_same, length-set}
use Rattle.tasks.specs.Filling.{tasks_of}
use Rattle.tasks.specs.List.{held}
use Rattle.tasks.specs.declared.record.TaskRecord.{TaskRecord}
use Rattle.plan.specs.Placing.{record_of}
use Rattle.plan.specs.Steps.{row_on}
use Rattle.plan.proofs.Awaiting.{length-tasks}
use Rattle.plan.proofs.Order.{number_in_turn}
use Rattle.plan.proofs.FirstFit.{begun-next, writing_agrees}
use Rattle.plan.proofs.Turning.{asked_takes, room_in_row, takes_asked, turned_alike, turned_next}
use Rattle.plan.proofs.place.first_fit.Goals as goal

pub offset_bounds-records-number : goal.offset_bounds-records-number
offset_bounds-records-number g c =
    let at = number_in_turn (tasks_of c.args.list.now) _ (c.len.result - 0) (omega arith) c.numbers_in_order-turns.ensures.ordered c.loop-number.number-index (omega arith) in
    omega (arith, at.1, length-tasks c.args.list.now)

pub bounds-records-number : goal.bounds-records-number
bounds-records-number g c =
    let at = number_in_turn (tasks_of c.args.list.now) _ (c.len.result - 0) (omega arith) c.numbers_in_order-turns.ensures.ordered c.loop-number.number-index (omega arith) in
    omega (arith, at.1, ap length c.records-records.ensures)

pub bounds-plan-number : goal.bounds-plan-number
bounds-plan-number g c =
    let at = number_in_turn (tasks_of c.args.list.now) _ (c.len.result - 0) (omega arith) c.numbers_in_order-turns.ensures.ordered c.loop-number.number-index (omega arith) in
    omega (arith, at.1, length-tasks c.args.list.now)

pub loop-number-preserved : goal.loop-number-preserved
loop-number-preserved g c =
    let list = c.args.list.now in
    let tasks = tasks_of list in
    let plan = c.loop-number.plan in
    let k = c.loop-number.number-index in
    let turned = c.loop-number.invariant.1 in
    let number = get_or (take (c.len.result - 0) c.numbers_in_order-turns.result) k 0 in
    let lane = c.in-Some.lane in
    let rows = c.loop-number.rows.lanes in
    let records = c.records-records.result.now in
    let yes_to = g.F.FitTest.yes c.args.test.now in
    let here : k < length tasks = omega arith in
    let at = number_in_turn tasks c.numbers_in_order-turns.result (c.len.result - 0) (omega arith) c.numbers_in_order-turns.ensures.ordered k here in
    let found = c.in-Some.ensures in
    let on : lane < list.lanes = omega (arith, found.0, c.lanes.ensures) in
    let four : lane < 4 = omega (arith, list.lane_range) in
    let inside : number < length plan = omega (arith, at.1, length-tasks list, c.loop-number.invariant.0) in
    let joined =
    subst (λ (all : List TaskRecord). map held c.put.new.self.lanes ≡ set (map held rows) lane (row_on rows lane ++ (record_of all number ∷ [])))
    c.records-records.ensures c.in_ok-put.ensures in
    let plan' = set plan number lane in
    let alike =
    turned_alike tasks plan k rows turned plan'
    (writing_agrees yes_to list.lanes tasks plan k number lane here at.0) in (
      length-set plan number lane ∙ c.loop-number.invariant.0,
      turned_next tasks plan' k rows alike number lane c.put.new.self.lanes here at.0
          c.loop-number.rows.four four (get_or-set_same plan number lane 0 inside) joined,
      begun-next yes_to list.lanes tasks plan k number lane here at.0 inside on c.loop-number.invariant.2
          (asked_takes tasks plan k rows turned yes_to list.lanes records c.records-records.ensures
          number at.0 lane four found.1)
          (λ lower l takes.
          found.2 lower (omega arith)
          (takes_asked tasks plan k rows turned yes_to list.lanes records c.records-records.ensures
          number at.0 lower (omega arith) takes)),
    )

pub returns-in_err-put : goal.returns-in_err-put
returns-in_err-put g c =
    let list = c.args.list.now in
    let tasks = tasks_of list in
    let k = c.loop-number.number-index in
    let here : k < length tasks = omega arith in
    let four : c.in-Some.lane < 4 = omega (arith, c.in-Some.ensures.0, c.lanes.ensures, list.lane_range) in
    absurd
    (room_in_row tasks c.loop-number.plan k c.loop-number.rows.lanes c.loop-number.invariant.1 here (length-tasks list) c.in-Some.lane four c.in_err-put.ensures)
