-- A safe task has room for each release: its waiting jobs are a gap apart.
use Rattle.fit.proofs.Apart.{room_for_a_release}
use Rattle.fit.proofs.theorems.safe_task_has_room_for_each_release.Goals as goal

pub returns : goal.returns
returns c = room_for_a_release
