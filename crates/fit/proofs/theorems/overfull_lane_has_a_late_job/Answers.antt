-- An overfull lane has a late job: one slot of it.
use Rattle.fit.proofs.Alive.{overfull_lane_is_late}
use Rattle.fit.proofs.theorems.overfull_lane_has_a_late_job.Goals as goal

pub returns : goal.returns
returns c = overfull_lane_is_late
