-- What the installer's call answers for a sheet, and what it leaves in the plan's bytes.
use Rattle.std.specs.Prelude.{◌≡◌, ℕ, ◌<◌, ◌≤◌, List, length, take, drop, Ok, Err, Result}
use Rattle.fit.specs.Tests.{LinearYes}
use Rattle.plan.specs.Codes.{number}
use Rattle.plan.specs.Placing.{CannotPlace, LanesAreSafe, Places}
use Rattle.plan.specs.declared.fault.PlanFault.{PlanFault}
use Rattle.plan.specs.declared.fault.PlanFault.TheVariants.{List as OfList, PlanLength, NoLane, NoFit}
use Rattle.sheet.specs.Spelling.{Entry}
use Rattle.tasks.specs.Reading.{Spells, Unreadable, tasks_said}

-- The plan stands in the first bytes, one for each entry, by first fit under the linear test over the sheet's grid; no run
-- on any of its lanes has a late job; and the bytes after it are as they were.
pub record Written (grid lanes : ℕ) (entries : List Entry) (before after : List ℕ) : Type 0 where
  pub room : length entries ≤ length before
  pub places : Places (LinearYes grid) lanes (tasks_said entries) (take (length entries) after)
  pub safe : LanesAreSafe lanes (tasks_said entries) (take (length entries) after)
  pub rest : drop (length entries) after ≡ drop (length entries) before

-- The sheet's list is written as a plan.
pub record PlacedList (sheet before after : List ℕ) : Type 0 where
  pub grid : ℕ
  pub lanes : ℕ
  pub entries : List Entry
  pub spells : Spells sheet grid lanes entries
  pub written : Written grid lanes entries before after

-- Why there is no plan, each fault only where none above it applies: the sheet spells no list; there are fewer plan
-- bytes than entries; or first fit comes to a task that no lane takes.
abbrev pub NoPlan : List ℕ → List ℕ → PlanFault → Type 0
NoPlan sheet before (OfList fault) = Unreadable sheet fault
NoPlan sheet before (PlanLength found) =
    (grid : ℕ) × (lanes : ℕ) × (entries : List Entry) × Spells sheet grid lanes entries × (length before < length entries) × (found ≡ length before)
NoPlan sheet before (NoFit task) =
    (grid : ℕ) × (lanes : ℕ) × (entries : List Entry) × Spells sheet grid lanes entries × (length entries ≤ length before) × CannotPlace (LinearYes grid) lanes (tasks_said entries) (take (length entries) before) (NoFit task)
NoPlan sheet before (NoLane task) = ⊥

-- What the call answers, with the fault whole. A refusal leaves the plan's bytes as they were.
abbrev pub Answered : List ℕ → List ℕ → Result (Unit {0}) PlanFault → List ℕ → Type 0
Answered sheet before (Ok _) after = PlacedList sheet before after
Answered sheet before (Err fault) after = NoPlan sheet before fault × (after ≡ before)

-- What the call answers as a bare number: 0 for a plan, and else the number of the fault.
pub data Installed (sheet before : List ℕ) : ℕ → List ℕ → Type 0 where
  placed : {after : List ℕ} → PlacedList sheet before after → Installed sheet before 0 after
  refused : (fault : PlanFault) → NoPlan sheet before fault → Installed sheet before (number fault) before

-- The call has one answer: at most one number, and one content of the buffer.
abbrev pub CallSettled : Type 0
CallSettled =
    (sheet before : List ℕ) (code code' : ℕ) (after after' : List ℕ) → Installed sheet before code after → Installed sheet before code' after'
    → (code ≡ code') × (after ≡ after')
