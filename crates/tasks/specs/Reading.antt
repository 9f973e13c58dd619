-- Which bytes spell a lawful task list, which list that is, and why other bytes spell none.
use Rattle.std.specs.Prelude.{◌≡◌, ℕ, ◌+◌, ◌<◌, ◌≤◌, ◌≢◌, ◌⊎◌, List, [], ◌++◌, map, length, take, Ok, Err, Option, Result, slice_index_or}
use Rattle.sheet.specs.Reading.{NameAt, name_said}
use Rattle.sheet.specs.Refusals.{NoFrame, NoRecord}
use Rattle.sheet.specs.Spelling.{Entry, Frame, Spellable, entry_bytes, records_bytes}
use Rattle.sheet.specs.declared.fault.SheetFault.{SheetFault}
use Rattle.sheet.specs.declared.fault.SheetFault.TheVariants.{NoTask}
use Rattle.sheet.specs.declared.part.Part.{Part}
use Rattle.std.specs.List.{AllByRecursion}
use Rattle.tasks.specs.Filling.{CannotJoin, NoList, tasks_of}
use Rattle.tasks.specs.Task.{GridRange, LaneRange, Lawful}
use Rattle.tasks.specs.declared.fault.ListFault.{ListFault}
use Rattle.tasks.specs.declared.fault.ListFault.TheVariants.{Sheet, TooMany, OutOfRange, Bound, OffGrid}
use Rattle.tasks.specs.declared.list.TaskList.{TaskList}
use Rattle.tasks.specs.declared.record.TaskRecord.{TaskRecord}

-- The numbers of the task that an entry of a sheet speaks of.
abbrev pub numbers_said : Entry → TaskRecord
numbers_said e = record { work = e.work; limit = e.limit; gap = e.gap }

-- The tasks that entries speak of, the first having number 0.
abbrev pub tasks_said : List Entry → List TaskRecord
tasks_said entries = map numbers_said entries

-- The bytes are a sheet with a lawful grid and lane count, and its records begin with these entries,
-- at most 32 and every one a lawful task; `rest` are the bytes that follow them.
pub record Begins (bytes : List ℕ) (grid lanes : ℕ) (entries : List Entry) (rest : List ℕ) : Type 0 where
  pub frame : Frame bytes grid lanes (records_bytes entries ++ rest)
  pub grid_range : GridRange grid
  pub lane_range : LaneRange lanes
  pub few : length entries ≤ 32
  pub spellable : AllByRecursion Spellable entries
  pub lawful : AllByRecursion (λ e. Lawful grid (numbers_said e)) entries

-- The bytes spell a lawful list: this grid, this lane count, these entries, and nothing more.
abbrev pub Spells : List ℕ → ℕ → ℕ → List Entry → Type 0
Spells bytes grid lanes entries = Begins bytes grid lanes entries []

-- The bytes `rest`, at the offset `at`, give no further task of a list with this grid and these tasks.
abbrev pub NoNextTask : ℕ → ℕ → List TaskRecord → List ℕ → ListFault → Type 0
NoNextTask at grid tasks rest TooMany = (32 ≤ length tasks) × (rest ≢ [])
NoNextTask at grid tasks rest (Sheet fault) = (length tasks < 32) × NoRecord at rest fault
NoNextTask at grid tasks rest (Bound task) =
    (e : Entry) × (more : List ℕ) × (rest ≡ entry_bytes e ++ more) × Spellable e × CannotJoin grid tasks (numbers_said e) (Bound task)
NoNextTask at grid tasks rest (OffGrid task) =
    (e : Entry) × (more : List ℕ) × (rest ≡ entry_bytes e ++ more) × Spellable e × CannotJoin grid tasks (numbers_said e) (OffGrid task)
NoNextTask at grid tasks rest (OutOfRange setting) = ⊥

-- The offset at which the record after these entries stands.
abbrev pub offset_after : List Entry → ℕ
offset_after entries = 8 + length (records_bytes entries)

-- The bytes spell no lawful list, for one of three reasons: they have no frame; the grid or the lane count is
-- out of range; or after some lawful tasks they do not go on with another one.
pub data Unreadable (bytes : List ℕ) : ListFault → Type 0 where
  unframed : {fault : SheetFault} → NoFrame bytes fault → Unreadable bytes (Sheet fault)
  out_of_range : {grid lanes : ℕ} {records : List ℕ} {fault : ListFault}
      → Frame bytes grid lanes records → NoList grid lanes fault → Unreadable bytes fault
  stops : {grid lanes : ℕ} {entries : List Entry} {rest : List ℕ} {fault : ListFault}
      → Begins bytes grid lanes entries rest → NoNextTask (offset_after entries) grid (tasks_said entries) rest fault → Unreadable bytes fault

-- The list was read: it is the one that the bytes spell. A refused read leaves the list as it was.
abbrev pub ListRead : List ℕ → TaskList → Result (Unit {0}) ListFault → TaskList → Type 0
ListRead bytes before (Ok _) after =
    (entries : List Entry) × Spells bytes after.grid after.lanes entries × (tasks_of after ≡ tasks_said entries)
ListRead bytes before (Err fault) after = Unreadable bytes fault × (after ≡ before)

-- Past the last entry stands nothing.
abbrev pub no_entry : Entry
no_entry = record { work = 0; limit = 0; gap = 0; name = [] }

-- The name of a task, as that part of the sheet's bytes; it begins 13 bytes after the record's length byte.
pub record NameOf (bytes : List ℕ) (entries : List Entry) (task : ℕ) (name : Option Part) : Type 0 where
  pub said : name_said name ≡ (slice_index_or entries task no_entry).name
  pub at : NameAt bytes (offset_after (take task entries) + 13) name

-- A name was asked: the name in the sheet, or why the bytes spell no list, or that the list has no such task.
abbrev pub NameRead : List ℕ → ℕ → Result (Option Part) ListFault → Type 0
NameRead bytes task (Ok name) =
    (grid : ℕ) × (lanes : ℕ) × (entries : List Entry) × Spells bytes grid lanes entries × (task < length entries) × NameOf bytes entries task name
NameRead bytes task (Err fault) =
    Unreadable bytes fault ⊎ ((grid : ℕ) × (lanes : ℕ) × (entries : List Entry) × Spells bytes grid lanes entries × (length entries ≤ task) × (fault ≡ Sheet (NoTask task)))
