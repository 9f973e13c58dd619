-- What the steps of reading a list give.
use Rattle.std.specs.Prelude.{◌≡◌, ℕ, ◌+◌, ◌<◌, List, [], ◌∷◌, ◌++◌, length, Ok, Err, Option, Result, IfSome}
use Rattle.sheet.specs.Reading.{NameAt, WentOver, name_said, unread}
use Rattle.sheet.specs.Spelling.{Entry}
use Rattle.sheet.specs.declared.part.Part.{Part}
use Rattle.sheet.specs.declared.reader.Reader.{Reader}
use Rattle.tasks.specs.Filling.{IsList, tasks_of}
use Rattle.tasks.specs.Reading.{NameOf, NoNextTask, Spells, Unreadable, numbers_said, tasks_said}
use Rattle.tasks.specs.Task.{Lawful}
use Rattle.tasks.specs.declared.fault.ListFault.{ListFault}
use Rattle.tasks.specs.declared.list.TaskList.{TaskList}

-- The next record of the sheet joined the list, and its name was handed out.
pub record Joined (sheet : Reader) (list : TaskList) (name : Option Part) (sheet' : Reader) (list' : TaskList) (e : Entry) : Type 0 where
  pub went_over : WentOver e sheet sheet'
  pub lawful : Lawful list.grid (numbers_said e)
  pub few : length (tasks_of list) < 32
  pub list_is : IsList list' list.grid list.lanes (tasks_of list ++ (numbers_said e ∷ []))
  pub said : name_said name ≡ e.name
  pub name_at : NameAt sheet.bytes.now (sheet.at + 13) name

abbrev pub Taken : Reader → TaskList → Result (Option Part) ListFault → Reader → TaskList → Type 0
Taken sheet list (Ok name) sheet' list' = (e : Entry) × Joined sheet list name sheet' list' e
Taken sheet list (Err fault) sheet' list' = NoNextTask sheet.at list.grid (tasks_of list) (unread sheet) fault

-- A list was filled from the bytes, and the name of the asked task found, if one was asked for and is there.
abbrev pub Scanned : List ℕ → Option ℕ → Result (Option Part) ListFault → TaskList → Type 0
Scanned bytes asked (Ok name) list =
    (entries : List Entry) × Spells bytes list.grid list.lanes entries × (tasks_of list ≡ tasks_said entries) × IfSome asked (λ number. number < length entries → NameOf bytes entries number name)
Scanned bytes asked (Err fault) list = Unreadable bytes fault
