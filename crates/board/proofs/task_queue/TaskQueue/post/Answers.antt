-- A job that is taken comes last; it is refused where four wait.
use Rattle.std.proofs.Common.{true, Some, sym, refl, ap, ◌∙◌, arith}
use Rattle.std.proofs.lemmas.Result.{err_from_is_err_and}
use Rattle.board.specs.Queues.{jobs_of, standing}
use Rattle.board.proofs.Queue.{jobs_push, length_releases, length-standing, none_later, put_room, releases, releases_full, releases_put}
use Rattle.board.proofs.task_queue.TaskQueue.post.Goals as goal

pub invariant_of-self-clause-no_later : goal.invariant_of-self-clause-no_later
unfolding standing
invariant_of-self-clause-no_later c =
    let q = c.args.self.now in
    none_later q.last c.args.clock c.requires.1 q.places q.no_later _ refl c.put.new.places c.in_ok-put.ensures

pub invariant_of-self-clause-idle : goal.invariant_of-self-clause-idle
invariant_of-self-clause-idle c =
    let put = c.in_ok-put.ensures in
    λ e. absurd (omega (arith, e, put.counted (λ _. true)))

pub returns : goal.returns
unfolding standing
returns c =
    let q = c.args.self.now in
    let put = c.in_ok-put.ensures in
    let room = put_room q.places _ c.put.new.places put in (
      omega (arith, length-standing q.last q.places q.served, q.four, room),
      ap (λ js. record { last = Some c.args.clock; waiting = js })
          (ap (jobs_of q.served) (releases_put q.last c.args.clock c.requires.1 q.places q.no_later _ refl c.put.new.places put)
          ∙ jobs_push q.served (releases q.places) _ (λ e. q.idle (sym (length_releases q.places) ∙ e))),
    )

pub returns-in_err-put : goal.returns-in_err-put
unfolding standing
returns-in_err-put c =
    let q = c.args.self.now in
    let full = releases_full q.places c.in_err-put.ensures.0 in
    let p = err_from_is_err_and c.from_residual.result c.from_residual.ensures.1 in
    rw (p.1) (omega (arith, length-standing q.last q.places q.served, length_releases q.places, full, q.four), refl)
