use Rattle.std.proofs.Common.{Ok, subst}
use Rattle.std.proofs.lemmas.Result.{err_from_is_err_and}
use Rattle.sheet.specs.Reading.{Next, entry_said, unread}
use Rattle.tasks.specs.Filling.{CannotJoin, tasks_of}
use Rattle.tasks.proofs.Records.{refused_join}
use Rattle.tasks.proofs.read.take_record.Goals as goal

pub returns-in_err-add : goal.returns-in_err-add
returns-in_err-add c =
    let p = err_from_is_err_and c.from_residual-in_err-add.result c.from_residual-in_err-add.ensures.1 in
    let sheet = c.args.sheet.now in
    let list = c.args.list.now in
    let next = subst (λ o. Next sheet (Ok o) c.next.new.self) c.in-Some.is c.in_ok-found.ensures in
    rw (p.1, p.2) (refused_join sheet.at list.grid (tasks_of list) (unread sheet) (entry_said c.in-Some.found) (unread c.next.new.self) c.in_err-add.field-0.0 next.1.spelled next.1.spellable
    (subst (λ t. CannotJoin list.grid (tasks_of list) t c.in_err-add.field-0.0) c.into.ensures c.in_err-add.ensures.0))
