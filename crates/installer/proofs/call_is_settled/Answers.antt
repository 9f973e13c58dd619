-- The call has one answer.
use Rattle.installer.proofs.Settled.{call_settled}
use Rattle.installer.proofs.call_is_settled.Goals as goal

pub returns : goal.returns
returns c = call_settled
