-- What preparing a board from a sheet answers and leaves.
use Rattle.std.specs.Prelude.{◌≡◌, ℕ, ◌<◌, ◌≤◌, ◌⊎◌, List, length, Ok, Err, Result}
use Rattle.board.specs.PlainBoard.{PlainBoard, clock_end, new_board}
use Rattle.board.specs.declared.fault.BoardFault.{BoardFault}
use Rattle.board.specs.declared.fault.BoardFault.TheVariants.{Plan, NoLane, NoTask, Early, QueueFull, SlotOpen, SlotShut, NotServed, ClockEnd}
use Rattle.plan.specs.Placing.{CannotPlace, Places}
use Rattle.plan.specs.declared.fault.PlanFault.TheVariants.{List as OfList}
use Rattle.sheet.specs.Spelling.{Entry}
use Rattle.tasks.specs.Reading.{Spells, Unreadable, tasks_said}
use Rattle.tasks.specs.declared.fault.ListFault.{ListFault}
use Rattle.tasks.specs.declared.record.TaskRecord.{TaskRecord}

-- Below, `yes_to` is the fit test's set of questions with a yes.
module _ (yes_to : List TaskRecord → TaskRecord → Type 0) where
  -- Why no board is made of these tasks on so many lanes: placing comes first, then the clock.
  abbrev pub NotReady : ℕ → List TaskRecord → List ℕ → ℕ → BoardFault → Type 0
  NotReady lanes tasks bytes start (Plan fault) = CannotPlace yes_to lanes tasks bytes fault
  NotReady lanes tasks bytes start (ClockEnd clock) =
      (length bytes ≡ length tasks) × (placed : List ℕ) × Places yes_to lanes tasks placed × (clock_end < start) × (clock ≡ start)
  NotReady lanes tasks bytes start (NoLane lane) = ⊥
  NotReady lanes tasks bytes start (NoTask task) = ⊥
  NotReady lanes tasks bytes start (Early clock) = ⊥
  NotReady lanes tasks bytes start (QueueFull task) = ⊥
  NotReady lanes tasks bytes start (SlotOpen clock) = ⊥
  NotReady lanes tasks bytes start (SlotShut clock) = ⊥
  NotReady lanes tasks bytes start (NotServed bit) = ⊥

  -- The tasks were placed by first fit into the bytes, and a new board stands; or nothing changed.
  abbrev pub Readied : ℕ → List TaskRecord → List ℕ → ℕ → PlainBoard → Result (Unit {0}) BoardFault → List ℕ → PlainBoard → Type 0
  Readied lanes tasks bytes start before (Ok _) placed after =
      Places yes_to lanes tasks placed × (start ≤ clock_end) × (after ≡ new_board tasks lanes placed start)
  Readied lanes tasks bytes start before (Err fault) placed after =
      NotReady lanes tasks bytes start fault × (placed ≡ bytes) × (after ≡ before)

  -- The result is the fault that the sheet cannot be read.
  abbrev pub Unread : List ℕ → Result (Unit {0}) BoardFault → Type 0
  Unread sheet result = (fault : ListFault) × Unreadable sheet fault × (result ≡ Err (Plan (OfList fault)))

  -- The sheet spells a lawful list, and its board was made or not.
  abbrev pub Spelled : List ℕ → (ℕ → List TaskRecord → Type 0) → Type 0
  Spelled sheet P =
      (grid : ℕ) × (lanes : ℕ) × (entries : List Entry) × Spells sheet grid lanes entries × P lanes (tasks_said entries)

  -- What prepare answers and leaves. A sheet that cannot be read comes first; where it refuses, bytes and board are as they were.
  abbrev pub Prepared : List ℕ → List ℕ → ℕ → PlainBoard → Result (Unit {0}) BoardFault → List ℕ → PlainBoard → Type 0
  Prepared sheet bytes start before result placed after =
      (Unread sheet result × (placed ≡ bytes) × (after ≡ before))
      ⊎ Spelled sheet (λ lanes tasks. Readied lanes tasks bytes start before result placed after)
