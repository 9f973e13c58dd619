use Rattle.std.proofs.Common.{vec_items, subst}
use Rattle.script.proofs.Days.{day_of}
use Rattle.script.specs.Day.NoDay.{unreadable}
use Rattle.script.specs.Headings.{proposed}
use Rattle.std.proofs.lemmas.Result.{err_from_is_err_and}
use Rattle.tasks.specs.Filling.{tasks_of}
use Rattle.tasks.specs.Reading.{Spells, Unreadable}
use Rattle.script.proofs.day.run.Goals as goal

pub returns-in_err-read : goal.returns-in_err-read
returns-in_err-read c =
    let p = err_from_is_err_and c.from_residual.result c.from_residual.ensures.1 in
    rw (p.1, p.2)
    (unreadable (subst (λ bytes. Unreadable bytes c.in_err-read.field-0.0) c.as_slice.ensures.value c.in_err-read.ensures.0))

pub returns : goal.returns
returns c =
    let h = c.args.headings.now in
    let list = c.read.new.self in
    let read = c.in_ok-read.ensures in
    day_of (vec_items h.sheet) list.grid list.lanes (tasks_of list) read.0 (proposed h.plan) h.fit.test h.fit.cost h.start c.args.entries.now c.play_named.result c.play_named.new.entries
    (subst (λ bytes. Spells bytes list.grid list.lanes read.0) c.as_slice.ensures.value read.1) read.2 c.play_named.ensures
