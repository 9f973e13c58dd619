-- What a push to a table gives.
use Rattle.std.specs.Prelude.{◌≡◌, ◌<◌, ◌≤◌, [], ◌∷◌, ◌++◌, length, Ok, Err, Result}
use Rattle.tasks.specs.List.{held}
use Rattle.tasks.specs.declared.fault.ListFault.{ListFault}
use Rattle.tasks.specs.declared.fault.ListFault.TheVariants.{TooMany}
use Rattle.tasks.specs.declared.record.TaskRecord.{TaskRecord}
use Rattle.tasks.specs.declared.table.Table.{Table}

-- One record more at the end, or no place left and no change.
abbrev pub Pushed : TaskRecord → Table → Result (Unit {0}) ListFault → Table → Type 0
Pushed t before (Ok _) after = (length (held before) < 32) × (held after ≡ held before ++ (t ∷ []))
Pushed t before (Err fault) after = (32 ≤ length (held before)) × (fault ≡ TooMany) × (after ≡ before)
