-- The task's own queue takes the job, and its lane looks anew.
use Rattle.std.proofs.Common.{ℕ, ◌<◌, length, map, Ok, sym, arith}
use Rattle.plan.proofs.Awaiting.{length-tasks}
use Rattle.queue.specs.declared.Full.{Full}
use Rattle.board.specs.Queues.{standing}
use Rattle.board.specs.Seating.{plan_of, tasks_on}
use Rattle.board.proofs.Next.{looked_anew}
use Rattle.board.proofs.Standings.{job-taken}
use Rattle.board.proofs.jobs.Jobs.post.Goals as goal

pub returns-clause-taken : goal.returns-clause-taken
returns-clause-taken c =
    let queues = c.args.self.now.queues in
    let inside : c.args.number < length queues = omega (arith, c.requires.inside, length-tasks c.args.seats.now.list, c.args.self.now.long) in
    job-taken queues c.args.number c.index-queues-number.result inside {E = Full ℕ} c.args.clock (Ok c.in_ok-post.field-0) c.post.new.self c.in_ok-post.ensures

pub returns-clause-at_hand : goal.returns-clause-at_hand
returns-clause-at_hand c =
    let jobs = c.args.self.now in
    let seats = c.args.seats.now in
    let inside : c.args.number < length jobs.queues = omega (arith, c.requires.inside, length-tasks seats.list, jobs.long) in
    let taken = job-taken jobs.queues c.args.number c.index-queues-number.result inside {E = Full ℕ} c.args.clock (Ok c.in_ok-post.field-0) c.post.new.self c.in_ok-post.ensures in
    looked_anew (tasks_on seats) (plan_of seats) (map standing jobs.queues) jobs.next c.requires.at_hand c.args.number _ _
    taken.1 jobs.four c.lane-lane.result (sym c.lane-lane.ensures) c.first_waiting.result c.first_waiting.ensures
