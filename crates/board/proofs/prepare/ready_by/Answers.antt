-- Placing refuses before anything of the plan and the board is written.
use Rattle.std.proofs.Common.{refl}
use Rattle.std.proofs.lemmas.Result.{err_from_is_err_and}
use Rattle.tasks.specs.Filling.{tasks_of}
use Rattle.board.proofs.Preparing.{same-refusal}
use Rattle.board.proofs.prepare.ready_by.Goals as goal

pub returns-in_err-place : goal.returns-in_err-place
returns-in_err-place g c =
    let list = c.args.list.now in
    let p = err_from_is_err_and c.from_residual.result c.from_residual.ensures.1 in
    rw (p.1, p.2) (
      same-refusal (g.F.FitTest.yes c.args.test.now) list.lanes (tasks_of list) c.args.lanes.now c.args.plan.now c.requires
          c.in_err-place.field-0.0 c.in_err-place.ensures.0,
      refl,
      refl,
    )
