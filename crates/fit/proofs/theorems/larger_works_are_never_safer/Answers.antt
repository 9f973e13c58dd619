-- Larger works are never safer: the same states, with the jobs that closed saying so.
use Rattle.fit.specs.Works.{larger_works_wait_no_less, safe_with_larger_works}
use Rattle.fit.proofs.theorems.larger_works_are_never_safer.Goals as goal

pub returns : goal.returns
returns c = record { waits = larger_works_wait_no_less; safe = safe_with_larger_works }
