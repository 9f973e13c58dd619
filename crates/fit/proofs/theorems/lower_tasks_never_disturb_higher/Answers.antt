-- Lower tasks never disturb higher ones: by the prefix of a run.
use Rattle.fit.specs.Prefix.{undisturbed, waits_alone}
use Rattle.fit.proofs.theorems.lower_tasks_never_disturb_higher.Goals as goal

pub returns : goal.returns
returns c = record { runs = undisturbed; waits = waits_alone }
