-- The queue of the task that the lane serves is given the slot, and the lane looks anew where its job closes.
use Rattle.std.proofs.Common.{◌≡◌, ℕ, ◌<◌, Bool, List, map, length, get_or, set, Some, None, sym, ap, ◌∙◌, arith}
use Rattle.std.proofs.lemmas.List.{length-map}
use Rattle.fit.specs.Lane.{Standing}
use Rattle.plan.specs.Placing.{lane_of, record_of}
use Rattle.plan.proofs.Awaiting.{length-tasks}
use Rattle.tasks.specs.declared.record.TaskRecord.{TaskRecord}
use Rattle.board.specs.PlainBoard.{first_closes}
use Rattle.board.specs.Queues.{after_slot_of, standing, stands_at}
use Rattle.board.specs.Seating.{plan_of, tasks_on}
use Rattle.board.specs.Steps.{KnowsNext, SlotGiven, next_task}
use Rattle.board.specs.declared.jobs.Jobs.{Jobs}
use Rattle.board.specs.declared.seats.Seats.{Seats}
use Rattle.board.specs.declared.task_queue.TaskQueue.{TaskQueue}
use Rattle.board.proofs.Next.{given_none, given_to, known-next, looked_anew, next_there, nothing_new, still_waits}
use Rattle.board.proofs.Standings.{stands_changed, stands_read}
use Rattle.board.proofs.jobs.Jobs.serve.Goals as goal

module _ (seats : Seats) (jobs : Jobs) (knows : KnowsNext seats jobs) (lane : ℕ) (n : ℕ) (serves : Some n ≡ get_or jobs.next lane None) where
  abbrev ss : List Standing
  ss = map standing jobs.queues

  is_next : Some n ≡ next_task (tasks_on seats) (plan_of seats) ss lane
  is_next = serves ∙ known-next seats jobs knows lane

  there : (n < length (tasks_on seats)) × (lane_of (plan_of seats) n ≡ lane)
  there = next_there (tasks_on seats) (plan_of seats) lane ss n is_next

  inside : n < length jobs.queues
  inside = omega (arith, there.0, length-tasks seats.list, jobs.long)

  module _ (t : TaskRecord) (said closed : Bool) (q q' : TaskQueue) (closes : closed ≡ first_closes t said (standing (get_or jobs.queues n q)).waiting)
      (after : standing q' ≡ after_slot_of t said (standing (get_or jobs.queues n q))) where
    closes_one : closed ≡ first_closes t said (stands_at ss n).waiting
    closes_one = closes ∙ ap (λ (s : Standing). first_closes t said s.waiting) (stands_read jobs.queues n q inside)

    changes_one : map standing (set jobs.queues n q') ≡ set ss n (after_slot_of t said (stands_at ss n))
    changes_one = stands_changed jobs.queues n q inside (after_slot_of t said) q' after

    given : t ≡ record_of (tasks_on seats) n → SlotGiven (tasks_on seats) (plan_of seats) ss lane said closed (map standing (set jobs.queues n q'))
    given is = given_to (tasks_on seats) (plan_of seats) ss jobs.next knows lane n is_next t is said closed _ closes_one changes_one

pub bounds-queues-number : goal.bounds-queues-number
bounds-queues-number c = inside c.args.seats.now c.args.self.now c.requires.at_hand c.args.lane c.in-Some.number (sym c.in-Some.is ∙ c.next.ensures)

pub offset_bounds-queues-number : goal.offset_bounds-queues-number
offset_bounds-queues-number c =
    let jobs = c.args.self.now in
    let within = inside c.args.seats.now jobs c.requires.at_hand c.args.lane c.in-Some.number (sym c.in-Some.is ∙ c.next.ensures) in
    omega (arith, jobs.long)

pub task-requires : goal.task-requires
task-requires c = (there c.args.seats.now c.args.self.now c.requires.at_hand c.args.lane c.in-Some.number (sym c.in-Some.is ∙ c.next.ensures)).0

pub returns-in_default-clause-served : goal.returns-in_default-clause-served
returns-in_default-clause-served c =
    let jobs = c.args.self.now in
    let seats = c.args.seats.now in
    given_none (tasks_on seats) (plan_of seats) (map standing jobs.queues) c.args.lane
    (sym c.in_default.is ∙ (c.next.ensures ∙ known-next seats jobs c.requires.at_hand c.args.lane)) c.args.said

pub returns-then-not-serve-clause-served : goal.returns-then-not-serve-clause-served
returns-then-not-serve-clause-served c =
    given c.args.seats.now c.args.self.now c.requires.at_hand c.args.lane c.in-Some.number (sym c.in-Some.is ∙ c.next.ensures)
    c.task.result c.args.said _ c.index-queues-number.result c.serve.new.self c.if-not-serve.ensures.closed c.if-not-serve.ensures.after c.task.ensures

pub returns-then-not-serve-clause-at_hand : goal.returns-then-not-serve-clause-at_hand
returns-then-not-serve-clause-at_hand c =
    let jobs = c.args.self.now in
    let seats = c.args.seats.now in
    let n = c.in-Some.number in
    let serves = sym c.in-Some.is ∙ c.next.ensures in
    let q = c.index-queues-number.result in
    let served = c.if-not-serve.ensures in
    let within = inside seats jobs c.requires.at_hand c.args.lane n serves in
    nothing_new (tasks_on seats) (plan_of seats) (map standing jobs.queues) jobs.next c.requires.at_hand n _ _
    (changes_one seats jobs c.requires.at_hand c.args.lane n serves c.task.result c.args.said _ q c.serve.new.self served.closed served.after)
    (omega (arith, within, length-map jobs.queues standing))
    (still_waits c.task.result c.args.said _ (sym (closes_one seats jobs c.requires.at_hand c.args.lane n serves c.task.result c.args.said _ q c.serve.new.self served.closed served.after)))

pub returns-clause-served : goal.returns-clause-served
returns-clause-served c =
    given c.args.seats.now c.args.self.now c.requires.at_hand c.args.lane c.in-Some.number (sym c.in-Some.is ∙ c.next.ensures)
    c.task.result c.args.said _ c.index-queues-number.result c.serve.new.self c.if-not-serve.ensures.closed c.if-not-serve.ensures.after c.task.ensures

pub returns-clause-at_hand : goal.returns-clause-at_hand
returns-clause-at_hand c =
    let jobs = c.args.self.now in
    let seats = c.args.seats.now in
    let n = c.in-Some.number in
    let serves = sym c.in-Some.is ∙ c.next.ensures in
    let served = c.if-not-serve.ensures in
    looked_anew (tasks_on seats) (plan_of seats) (map standing jobs.queues) jobs.next c.requires.at_hand n _ _
    (changes_one seats jobs c.requires.at_hand c.args.lane n serves c.task.result c.args.said _ c.index-queues-number.result c.serve.new.self served.closed served.after)
    jobs.four c.args.lane (there seats jobs c.requires.at_hand c.args.lane n serves).1 c.first_waiting.result c.first_waiting.ensures
