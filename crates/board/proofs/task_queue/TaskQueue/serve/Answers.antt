-- The first job goes on, or it closes and the next is first; where none waits nothing changes.
use Rattle.std.proofs.Common.{◌≡◌, ◌+◌, true, false, ◌||◌, leb, ap, ◌∙◌, arith}
use Rattle.std.proofs.lemmas.Bool.{or_left, or_right}
use Rattle.std.proofs.lemmas.Bool.Decides.{nat_tests}
use Rattle.board.specs.Queues.{standing}
use Rattle.board.proofs.Queue.{goes_on, length_jobs, length-standing, none_later_left, none_rests, releases, slot_ends, waits-none, waits-some}
use Rattle.board.proofs.task_queue.TaskQueue.serve.Goals as goal
use Rattle.board.proofs.task_queue.TaskQueue.serve.Goals.{then-is_waiting, else-is_waiting, else-not-said-via-then-not-said+else-self-saturating_sub, else-not-said-via-else-not-said}

pub invariant_of-self-clause-idle : goal.invariant_of-self-clause-idle
unfolding standing
invariant_of-self-clause-idle c =
    let q = c.args.self.now in
    let some = waits-some (standing q).waiting c.if-is_waiting.ensures in
    λ e. absurd (omega (arith, e, some, length-standing q.last q.places q.served))

pub returns-then-self-saturating_sub : goal.returns-then-self-saturating_sub
unfolding standing
returns-then-self-saturating_sub c =
    let q = c.args.self.now in
    let rs = releases q.places in
    let less : leb c.args.task.work (q.served + 1) ≡ false = grind (arith, nat_tests, c.if-self-saturating_sub.true, c.saturating_sub.ensures) in
    let said = c.if-not-said.true in
    elim c.if-is_waiting.branch [
      | then-is_waiting w ↦
          let some = waits-some (standing q).waiting w.if-is_waiting.ensures in
          let r = goes_on c.args.task c.args.said q.last q.served (cc) rs (omega (arith, some, length_jobs q.served rs)) in
          record { closed = r.0; after = ap standing w.self-is ∙ r.1 }
      | else-is_waiting w ↦
          let none = waits-none (standing q).waiting w.if-is_waiting.ensures in
          let r = none_rests c.args.task c.args.said q.last q.served rs (omega (arith, none, length_jobs q.served rs)) in
          record { closed = r.0; after = ap standing w.self-is ∙ r.1 }
    ]

pub invariant_of-self-2-clause-no_later : goal.invariant_of-self-2-clause-no_later
invariant_of-self-2-clause-no_later c =
    none_later_left c.args.self.now.last c.args.self.now.places c.args.self.now.no_later c.take.result c.take.new.places c.take.ensures

pub returns : goal.returns
unfolding standing
returns c =
    let q = c.args.self.now in
    let closes : c.args.said || leb c.args.task.work (q.served + 1) ≡ true =
    elim c.else-not-said.branch [
      | else-not-said-via-then-not-said+else-self-saturating_sub w ↦
          let less : leb c.args.task.work (q.served + 1) ≡ true = grind (arith, nat_tests, w.if-self-saturating_sub.false, w.saturating_sub.ensures) in
          or_right c.args.said (leb c.args.task.work (q.served + 1)) less
      | else-not-said-via-else-not-said w ↦ or_left c.args.said (leb c.args.task.work (q.served + 1)) w.if-not-said.false
    ] in
    let r = slot_ends c.args.task c.args.said q.last q.served closes q.places c.take.result c.take.new.places c.take.ensures in
    record { closed = c.is_some.ensures ∙ r.0; after = r.1 }
