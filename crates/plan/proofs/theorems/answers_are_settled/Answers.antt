-- Place and check have one answer each.
use Rattle.plan.proofs.Settled.{settled}
use Rattle.plan.proofs.theorems.answers_are_settled.Goals as goal

pub returns : goal.returns
returns g c = settled _
