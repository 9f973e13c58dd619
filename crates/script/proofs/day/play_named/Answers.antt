use Rattle.script.proofs.Days.{by_name}
use Rattle.script.specs.Headings.{proposed}
use Rattle.script.specs.declared.headings.TestName.TheVariants.{Linear, Exact}
use Rattle.std.proofs.Common.{refl}
use Rattle.tasks.specs.Filling.{tasks_of}
use Rattle.script.proofs.day.play_named.Goals as goal

pub returns-in-Linear : goal.returns-in-Linear
returns-in-Linear c =
    let list = c.args.list.now in
    let h = c.args.headings.now in
    by_name Linear h.fit.test h.fit.cost c.over.result.grid list.grid list.lanes (tasks_of list) (proposed h.plan) h.start c.args.entries.now c.play_at_cost.result c.play_at_cost.new.entries
    c.in-Linear.is c.over.ensures c.play_at_cost.ensures

pub returns-in-Exact : goal.returns-in-Exact
returns-in-Exact c =
    let list = c.args.list.now in
    let h = c.args.headings.now in
    by_name Exact h.fit.test h.fit.cost list.grid list.grid list.lanes (tasks_of list) (proposed h.plan) h.start c.args.entries.now c.play_at_cost-in-Exact.result c.play_at_cost-in-Exact.new.entries
    c.in-Exact.is refl c.play_at_cost-in-Exact.ensures
