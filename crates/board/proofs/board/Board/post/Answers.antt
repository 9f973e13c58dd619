-- The faults in their order, and a job that is taken.
use Rattle.std.proofs.Common.{◌≡◌, ℕ, ◌+◌, ◌<◌, List, map, length, Result, subst, rules, sym, refl, ap, ◌∙◌, arith}
use Rattle.fit.specs.Lane.{Standing, with_job}
use Rattle.plan.specs.Placing.{record_of}
use Rattle.tasks.specs.declared.record.TaskRecord.{TaskRecord}
use Rattle.board.specs.PlainBoard.{next_release, with_standing}
use Rattle.std.proofs.lemmas.Result.{err_from_is_err_and}
use Rattle.board.specs.Queues.{JobTaken, standing, stands_at}
use Rattle.board.specs.Seating.{plan_of, tasks_on}
use Rattle.board.specs.View.{board_of, standings_on, view}
use Rattle.board.specs.declared.call.Answer.TheVariants as answer
use Rattle.board.specs.declared.fault.BoardFault.{BoardFault}
use Rattle.board.specs.declared.fault.BoardFault.TheVariants.{QueueFull}
use Rattle.board.proofs.Standings.{as-mapped, fault-mapped}
use Rattle.board.proofs.Refusals.{post_early, post_full, post_open, view-stands, view_with}
use Rattle.board.proofs.board.Board.post.Goals as goal

pub returns-then-self-next : goal.returns-then-self-next
returns-then-self-next c =
    let b = c.args.self.now in
    let task = c.args.task in
    let inside : task < length (tasks_on b.seats) = omega (arith, c.count.ensures) in
    let next : c.next_release-next.result ≡ next_release (record_of (tasks_on b.seats) task) (stands_at (standings_on b) task) = cc in
    (post_early b task inside c.if-self.false c.next_release-next.result next c.if-self-next.true, refl)

pub returns-in_err-map_err : goal.returns-in_err-map_err
returns-in_err-map_err c =
    let b = c.args.self.now in
    let task = c.args.task in
    let inside : task < length (tasks_on b.seats) = omega (arith, c.count.ensures) in
    let next : c.next_release-next.result ≡ next_release (record_of (tasks_on b.seats) task) (stands_at (standings_on b) task) = cc in
    let full =
    subst (λ (r : Result (Unit {0}) BoardFault). JobTaken (standings_on b) task b.clock r (map standing c.post.new.self.queues)) c.in_err-map_err.was
    (as-mapped (standings_on b) (map standing c.post.new.self.queues) task b.clock c.post.result c.map_err.result c.map_err.ensures.variant c.post.ensures.taken) in
    let fault = fault-mapped _ c.post.result c.map_err.result (QueueFull task) c.in_err-map_err.field-0.0 c.map_err.ensures.cases c.in_err-map_err.was (λ e k. search rules) in
    let p = err_from_is_err_and c.from_residual.result c.from_residual.ensures.1 in
    rw (p.1, p.2, fault) (
      post_full b task inside c.if-self.false c.next_release-next.result next c.if-self-next.false full.0,
      ap (λ (ss : List Standing). board_of (tasks_on b.seats) b.seats.list.lanes (plan_of b.seats) ss b.clock b.slot_open) full.1,
    )

pub returns : goal.returns
returns c =
    let b = c.args.self.now in
    let task = c.args.task in
    let inside : task < length (tasks_on b.seats) = omega (arith, c.count.ensures) in
    let next : c.next_release-next.result ≡ next_release (record_of (tasks_on b.seats) task) (stands_at (standings_on b) task) = cc in
    let taken =
    subst (λ (r : Result (Unit {0}) BoardFault). JobTaken (standings_on b) task b.clock r (map standing c.post.new.self.queues)) c.in_ok-map_err.was
    (as-mapped (standings_on b) (map standing c.post.new.self.queues) task b.clock c.post.result c.map_err.result c.map_err.ensures.variant c.post.ensures.taken) in (
      post_open b task inside c.if-self.false c.next_release-next.result next c.if-self-next.false taken.0,
      ap (λ (n : ℕ). answer.Posted (b.clock + n)) (c.from.ensures ∙ ap (λ (t : TaskRecord). t.limit) c.task-numbers.ensures),
      ap (λ (ss : List Standing). board_of (tasks_on b.seats) b.seats.list.lanes (plan_of b.seats) ss b.clock b.slot_open) taken.1
          ∙ (sym (view_with b task inside (with_job b.clock (stands_at (standings_on b) task)))
          ∙ ap (λ (s : Standing). with_standing (view b) task (with_job b.clock s)) (sym (view-stands b task inside))),
    )
