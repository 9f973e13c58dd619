-- A job may finish early: two slots of one lane.
use Rattle.fit.proofs.Alive.{a_job_may_finish_early}
use Rattle.fit.proofs.theorems.a_job_may_finish_early.Goals as goal

pub returns : goal.returns
returns c = a_job_may_finish_early
