-- The loop copies the row with raised works.
use Rattle.std.proofs.Common.{◌∙◌, arith}
use Rattle.std.proofs.lemmas.List.{length-set}
use Rattle.fit.specs.Copies.{copy_goes, copy_ends}
use Rattle.fit.specs.Lane.{no_task}
use Rattle.fit.specs.Tests.{raised}
use Rattle.fit.proofs.surcharge.Surcharge.raised_row.Goals as goal

pub loop-place-preserved : goal.loop-place-preserved
loop-place-preserved g c = (
  length-set c.loop-place.dear c.loop-place.place c.raised_task.result ∙ c.loop-place.invariant.0,
  copy_goes (raised c.args.self.now.cost) c.args.question.now.row.now c.loop-place.dear c.loop-place.place no_task c.raised_task.result
      c.loop-place-test.true (omega (arith, c.loop-place.invariant.0)) c.raised_task.ensures c.loop-place.invariant.1,
)

pub returns : goal.returns
returns g c = copy_ends (raised c.args.self.now.cost) c.args.question.now.row.now c.loop-place.dear c.loop-place.place (omega arith) c.loop-place.invariant.1
