-- An accepted lane has no late job: by the fit test's law, task by task.
use Rattle.fit.specs.Prefix.{accepted_lanes_are_safe}
use Rattle.fit.proofs.theorems.accepted_lane_has_no_late_job.Goals as goal

pub returns : goal.returns
returns g c = accepted_lanes_are_safe _ (g.met.F.FitTest.safe c.args.test.now)
