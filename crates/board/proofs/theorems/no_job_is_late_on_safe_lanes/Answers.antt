-- No job is late on safe lanes.
use Rattle.board.proofs.Lawful.{works_fit}
use Rattle.board.proofs.OnTime.{always_on_time}
use Rattle.board.proofs.theorems.no_job_is_late_on_safe_lanes.Goals as goal

pub returns : goal.returns
returns c grid lanes tasks plan start calls lawful on_lanes safe =
    always_on_time tasks lanes plan start (works_fit grid tasks lawful) on_lanes safe calls
