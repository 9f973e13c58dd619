-- The questions that the test answers with yes: nobody else is on the lane, and the task keeps its bounds.
use Rattle.std.specs.Prelude.{◌≡◌, List, length}
use Rattle.tasks.specs.Task.{Bounded, widest_grid}
use Rattle.tasks.specs.declared.record.TaskRecord.{TaskRecord}

pub record OwnLaneYes (row : List TaskRecord) (asked : TaskRecord) : Type 0 where
  pub nobody : length row ≡ 0
  pub bounded : Bounded widest_grid asked
