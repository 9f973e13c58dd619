-- How a task list is made and filled: what each call leaves, and when it refuses.
use Rattle.std.specs.Prelude.{◌≡◌, ℕ, ◌<◌, ◌≤◌, List, [], ◌∷◌, ◌++◌, length, Ok, Err, Result}
use Rattle.tasks.specs.List.{held}
use Rattle.tasks.specs.Task.{Bounded, GridRange, LaneRange, Lawful, OnGrid}
use Rattle.tasks.specs.declared.fault.ListFault.{ListFault}
use Rattle.tasks.specs.declared.fault.ListFault.TheVariants.{Sheet, TooMany, OutOfRange, Bound, OffGrid}
use Rattle.tasks.specs.declared.fault.Setting.TheVariants.{Grid, Lanes, SwitchCost}
use Rattle.tasks.specs.declared.list.TaskList.{TaskList}
use Rattle.tasks.specs.declared.record.TaskRecord.{TaskRecord}

-- The tasks of a list, in the order of their numbers.
abbrev pub tasks_of : TaskList → List TaskRecord
tasks_of list = held list.table

-- The list is this grid, this lane count and these tasks.
pub record IsList (list : TaskList) (grid lanes : ℕ) (tasks : List TaskRecord) : Type 0 where
  pub grid_is : list.grid ≡ grid
  pub lanes_are : list.lanes ≡ lanes
  pub tasks_are : tasks_of list ≡ tasks

-- There is no list with this grid and lane count. The grid is looked at first.
abbrev pub NoList : ℕ → ℕ → ListFault → Type 0
NoList grid lanes (OutOfRange Grid) = GridRange grid → ⊥
NoList grid lanes (OutOfRange Lanes) = GridRange grid × (LaneRange lanes → ⊥)
NoList grid lanes (OutOfRange SwitchCost) = ⊥
NoList grid lanes (Sheet fault) = ⊥
NoList grid lanes TooMany = ⊥
NoList grid lanes (Bound task) = ⊥
NoList grid lanes (OffGrid task) = ⊥

-- The list was made empty, with this grid and lane count.
abbrev pub Emptied : ℕ → ℕ → TaskList → Result (Unit {0}) ListFault → TaskList → Type 0
Emptied grid lanes before (Ok _) after = IsList after grid lanes []
Emptied grid lanes before (Err fault) after = NoList grid lanes fault × (after ≡ before)

-- The task cannot join tasks on this grid: it would have the number of tasks there are.
abbrev pub CannotJoin : ℕ → List TaskRecord → TaskRecord → ListFault → Type 0
CannotJoin grid tasks t TooMany = 32 ≤ length tasks
CannotJoin grid tasks t (Bound task) = (length tasks < 32) × (task ≡ length tasks) × (Bounded grid t → ⊥)
CannotJoin grid tasks t (OffGrid task) =
    (length tasks < 32) × (task ≡ length tasks) × Bounded grid t × (OnGrid grid t → ⊥)
CannotJoin grid tasks t (Sheet fault) = ⊥
CannotJoin grid tasks t (OutOfRange setting) = ⊥

-- The task joined the list at its end, under the next number.
abbrev pub Added : TaskRecord → TaskList → Result (Unit {0}) ListFault → TaskList → Type 0
Added t before (Ok _) after =
    (length (tasks_of before) < 32) × Lawful before.grid t × IsList after before.grid before.lanes (tasks_of before ++ (t ∷ []))
Added t before (Err fault) after = CannotJoin before.grid (tasks_of before) t fault × (after ≡ before)
