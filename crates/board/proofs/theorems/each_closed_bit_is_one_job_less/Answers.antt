-- Each bit of a slot's end is one job less.
use Rattle.board.proofs.Lawful.{works_fit}
use Rattle.board.proofs.Told.{always_told}
use Rattle.board.proofs.theorems.each_closed_bit_is_one_job_less.Goals as goal

pub returns : goal.returns
returns c grid lanes tasks plan start calls lawful on_lanes =
    always_told tasks lanes plan start (works_fit grid tasks lawful) on_lanes calls
