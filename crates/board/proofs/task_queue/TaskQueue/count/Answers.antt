-- Each place that is taken is one job that waits.
use Rattle.std.proofs.Common.{◌≡◌, count_by, is_some, rules, arith}
use Rattle.std.proofs.iter.runs.Made.{chains}
use Rattle.queue.proofs.Counts.{count_by-all}
use Rattle.queue.specs.Queue.{held}
use Rattle.board.specs.Queues.{standing}
use Rattle.board.proofs.Queue.{count_by-taken, length-standing}
use Rattle.board.proofs.task_queue.TaskQueue.count.Goals as goal

pub returns : goal.returns
unfolding standing
returns c =
    let q = c.args.self.now in
    let counted : c.count.result ≡ count_by is_some q.places = search (rules, chains) in
    omega (arith, counted, count_by-taken q.places, length-standing q.last q.places q.served, count_by-all (held q.places))
