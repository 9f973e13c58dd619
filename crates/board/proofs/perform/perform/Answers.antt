-- Set up gives a new board of a plan that passes, and the plain board keeps the promise from there.
use Rattle.std.proofs.Common.{refl, ap, ◌∙◌}
use Rattle.std.proofs.lemmas.Result.{err_from_is_err_and}
use Rattle.tasks.specs.Filling.{tasks_of}
use Rattle.board.specs.Entries.{calls_of, with_answers}
use Rattle.board.specs.PlainBoard.{PlainBoard, after_calls, answers_to, new_board}
use Rattle.board.proofs.Judged.{plans_are_judged}
use Rattle.board.proofs.Kept.{promise_kept}
use Rattle.board.proofs.perform.perform.Goals as goal

pub returns-in_err-set_up : goal.returns-in_err-set_up
returns-in_err-set_up g c =
    let list = c.args.list.now in
    let yes_to = g.F.FitTest.yes c.args.test.now in
    let law = g.met.F.FitTest.safe c.args.test.now in
    let p = err_from_is_err_and c.from_residual.result c.from_residual.ensures.1 in
    let refused = c.in_err-set_up.ensures in
    rw (p.1, p.2) (record { judged = plans_are_judged yes_to list.lanes (tasks_of list) law; came_out = (refused.0, refused.1, refl) })

pub returns : goal.returns
returns g c =
    let list = c.args.list.now in
    let tasks = tasks_of list in
    let plan = c.args.plan.now in
    let start = c.args.start in
    let yes_to = g.F.FitTest.yes c.args.test.now in
    let law = g.met.F.FitTest.safe c.args.test.now in
    let entries = c.args.entries.now in
    let calls = calls_of entries in
    let new = new_board tasks list.lanes plan start in
    let up = c.in_ok-set_up.ensures in
    record {
      judged = plans_are_judged yes_to list.lanes tasks law;
      came_out = (
        answers_to new calls,
        promise_kept yes_to list.lanes tasks law list.works plan start up.0 calls (answers_to new calls) _ refl
            (c.answer_all.ensures.after ∙ ap (λ (b : PlainBoard). after_calls b calls) up.2),
        c.answer_all.ensures.filled ∙ ap (λ (b : PlainBoard). with_answers entries (answers_to b calls)) up.2,
        up.1,
      );
    }
