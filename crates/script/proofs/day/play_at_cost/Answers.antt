use Rattle.std.proofs.Common.{ap}
use Rattle.script.proofs.Days.{at_cost}
use Rattle.script.specs.Headings.{proposed}
use Rattle.tasks.specs.Filling.{tasks_of}
use Rattle.script.proofs.day.play_at_cost.Goals as goal

pub returns : goal.returns
returns g c =
    let list = c.args.list.now in
    let test = c.in_ok-test.test in
    let held = c.in_ok-test.ensures in
    at_cost (g.T.FitTest.yes c.args.below) (g.T.FitTest.yes test.below) c.args.headings.now.fit.cost test.cost list.lanes (tasks_of list) (proposed c.args.headings.now.plan) c.args.headings.now.start c.args.entries.now c.play.result c.play.new.entries
    held.0 held.1.1 (ap g.T.FitTest.yes held.1.0) c.play.ensures
