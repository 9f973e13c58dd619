-- Linear is the standard.
use Rattle.fit.proofs.Worths.{linear_is_the_standard}
use Rattle.fit.proofs.fractions.linear_is_the_standard.Goals as goal

pub returns : goal.returns
returns c = linear_is_the_standard
