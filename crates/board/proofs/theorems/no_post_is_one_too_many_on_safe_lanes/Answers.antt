-- No post is one too many on safe lanes.
use Rattle.board.proofs.Lawful.{limits_covered, works_fit}
use Rattle.board.proofs.NeverFull.{never_full}
use Rattle.board.proofs.theorems.no_post_is_one_too_many_on_safe_lanes.Goals as goal

pub returns : goal.returns
returns c grid lanes tasks plan start calls lawful on_lanes safe =
    never_full tasks lanes plan start (works_fit grid tasks lawful) (limits_covered grid tasks lawful) on_lanes safe calls
