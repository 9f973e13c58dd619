-- A job waits where a place is taken.
use Rattle.std.proofs.Common.{ℕ, is_some, ◌∙◌, rules, arith}
use Rattle.std.proofs.lemmas.Iterator.{YieldsList-from_slice}
use Rattle.std.proofs.lemmas.Iterator.Search.{any_from_yields_List}
use borrow.Author.Tests.{tests}
use Rattle.queue.proofs.Counts.{count_by-all}
use Rattle.queue.specs.Queue.{held}
use Rattle.board.specs.Queues.{standing}
use Rattle.board.proofs.Queue.{length-standing, list_any-taken}
use Rattle.board.proofs.task_queue.TaskQueue.is_waiting.Goals as goal

pub returns : goal.returns
unfolding standing
returns c =
    let q = c.args.self.now in
    any_from_yields_List (is_some {T = ℕ}) _ _ _ c.any.ensures.ran (YieldsList-from_slice q.places cc) (λ x b r k. search (rules, tests))
    ∙ list_any-taken q.places (standing q).waiting
    (omega (arith, length-standing q.last q.places q.served, count_by-all (held q.places)))
