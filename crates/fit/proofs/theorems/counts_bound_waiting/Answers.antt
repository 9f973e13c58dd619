-- Counts bound waiting: the exact rule.
use Rattle.fit.specs.Counts.{exact_rule}
use Rattle.fit.proofs.theorems.counts_bound_waiting.Goals as goal

pub returns : goal.returns
returns c = exact_rule
