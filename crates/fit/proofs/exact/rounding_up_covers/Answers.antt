-- Rounding up gives the least cover.
use Rattle.fit.specs.Rounding.{rounding_up_covers}
use Rattle.fit.proofs.exact.rounding_up_covers.Goals as goal

pub returns : goal.returns
returns c = rounding_up_covers
