use Rattle.tasks.proofs.Settled.{settled}
use Rattle.tasks.proofs.read.reading_is_settled.Goals as goal

pub returns : goal.returns
returns c = settled
