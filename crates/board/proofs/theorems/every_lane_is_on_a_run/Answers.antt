-- Every lane is on some run.
use Rattle.board.proofs.Lawful.{works_fit}
use Rattle.board.proofs.Run.{always_runs}
use Rattle.board.proofs.theorems.every_lane_is_on_a_run.Goals as goal

pub returns : goal.returns
returns c grid lanes tasks plan start calls lawful on_lanes =
    always_runs tasks lanes plan start (works_fit grid tasks lawful) on_lanes calls
