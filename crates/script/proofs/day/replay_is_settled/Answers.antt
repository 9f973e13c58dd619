use Rattle.script.proofs.Settled.{settled}
use Rattle.script.proofs.day.replay_is_settled.Goals as goal

pub returns : goal.returns
returns c = settled
