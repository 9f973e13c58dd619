-- Shares bound waiting: the share rule.
use Rattle.fit.specs.Shares.{share_rule}
use Rattle.fit.proofs.theorems.shares_bound_waiting.Goals as goal

pub returns : goal.returns
returns c = share_rule
