-- What the steps of making the listing give.
use Rattle.std.specs.Prelude.{◌≡◌, ℕ, ◌<◌, List, ◌++◌, length, slice_index_or}
use Rattle.lanes.specs.Listing.{Block, Listing, task_lines}
use Rattle.sheet.specs.Spelling.{Entry}
use Rattle.tasks.specs.Filling.{tasks_of}
use Rattle.tasks.specs.Reading.{Spells, no_entry, tasks_said}
use Rattle.tasks.specs.declared.list.TaskList.{TaskList}
use Rattle.tasks.specs.declared.record.TaskRecord.{TaskRecord}

-- The list is the one that the bytes spell, with these entries.
pub record Read_from (bytes : List ℕ) (list : TaskList) (entries : List Entry) : Type 0 where
  pub spells : Spells bytes list.grid list.lanes entries
  pub tasks_are : tasks_of list ≡ tasks_said entries

-- The name of a task of a sheet that spells a list.
abbrev pub NameThere : List ℕ → ℕ → List ℕ → Type 0
NameThere bytes task name =
    (grid lanes : ℕ) (entries : List Entry) → Spells bytes grid lanes entries → task < length entries → name ≡ (slice_index_or entries task no_entry).name

-- The lines of the first `count` tasks of a plan were added to the text.
abbrev pub LinesAdded : List ℕ → List ℕ → ℕ → List ℕ → List ℕ → Type 0
LinesAdded bytes plan count before after =
    (grid lanes : ℕ) (entries : List Entry) → Spells bytes grid lanes entries → length plan ≡ length entries → after ≡ before ++ task_lines plan entries count

-- A block was added to the text.
abbrev pub BlockAdded : (List TaskRecord → TaskRecord → Type 0) → List ℕ → TaskList → List ℕ → List ℕ → List ℕ → Type 0
BlockAdded yes_to bytes list heading before after =
    (entries : List Entry) → Read_from bytes list entries
    → (block : List ℕ) × Block yes_to list.lanes entries heading block × (after ≡ before ++ block)

-- The text for a list that was read was added.
abbrev pub ReadTextAdded : List ℕ → TaskList → List ℕ → List ℕ → Type 0
ReadTextAdded bytes list before after =
    (entries : List Entry) → Read_from bytes list entries → (text : List ℕ) × Listing bytes text × (after ≡ before ++ text)
