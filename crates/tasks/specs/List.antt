-- What a task list holds.
use Rattle.std.specs.Prelude.{List, take}
use Rattle.tasks.specs.declared.record.TaskRecord.{TaskRecord}
use Rattle.tasks.specs.declared.table.Table.{Table}

-- What stands where no task does.
abbrev pub blank : TaskRecord
blank = record { work = 0; limit = 0; gap = 0 }

-- The records that a table holds.
abbrev pub held : Table → List TaskRecord
held table = take table.len table.places
