-- A lane is safe if each of its tasks is in turn: by the prefix of a run.
use Rattle.fit.specs.Prefix.{lane_safe_in_turn}
use Rattle.fit.proofs.theorems.lane_is_safe_if_each_task_is_in_turn.Goals as goal

pub returns : goal.returns
returns c = lane_safe_in_turn
