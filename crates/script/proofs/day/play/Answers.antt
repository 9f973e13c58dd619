use Rattle.std.proofs.Common.{sym, subst}
use Rattle.board.specs.View.{view}
use Rattle.script.proofs.Days.{performed}
use Rattle.script.specs.Day.{Chosen}
use Rattle.script.specs.Headings.{proposed}
use Rattle.tasks.specs.Filling.{tasks_of}
use Rattle.script.proofs.day.play.Goals as goal

pub returns-in_ok-place-in-Auto : goal.returns-in_ok-place-in-Auto
returns-in_ok-place-in-Auto g c =
    let yes_to = g.F.FitTest.yes c.args.test.now in
    let list = c.args.list.now in
    let room = c.place.new.plan in
    performed yes_to list.lanes (tasks_of list) (proposed c.args.headings.now.plan) room c.args.headings.now.start (view c.new-board.result) c.args.entries.now c.perform.result (view c.perform.new.board) c.perform.new.entries
    (subst (λ p. Chosen yes_to list.lanes (tasks_of list) (proposed p) room) (sym c.in-Auto.is) c.in_ok-place-in-Auto.ensures.0)
    c.perform.ensures
