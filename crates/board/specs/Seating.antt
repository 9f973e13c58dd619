-- What the seats hold.
use Rattle.std.specs.Prelude.{ℕ, List, length, take}
use Rattle.board.specs.declared.seats.Seats.{Seats}
use Rattle.tasks.specs.Filling.{tasks_of}
use Rattle.tasks.specs.declared.record.TaskRecord.{TaskRecord}

-- The tasks by their numbers, and the plan: a lane for each.
abbrev pub tasks_on : Seats → List TaskRecord
tasks_on seats = tasks_of seats.list

abbrev pub plan_of : Seats → List ℕ
plan_of seats = take (length (tasks_on seats)) seats.lane_of
