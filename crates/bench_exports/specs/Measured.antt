-- What the calls of the benchmark answer.
use Rattle.std.specs.Prelude.{◌≡◌, ℕ, ◌-◌, List, length, take, Ok, Err, Result, slice_index_or}
use Rattle.fit.specs.Tests.{EitherYes, ExactYes, LinearYes}
use Rattle.plan.specs.Codes as plan
use Rattle.plan.specs.Placing.{Placed}
use Rattle.plan.specs.declared.fault.PlanFault.{PlanFault}
use Rattle.sheet.specs.Spelling.{Entry}
use Rattle.tasks.specs.Codes as list
use Rattle.tasks.specs.List.{blank}
use Rattle.tasks.specs.Reading.{Spells, Unreadable, tasks_said}
use Rattle.tasks.specs.declared.fault.ListFault.{ListFault}
use Rattle.tasks.specs.declared.record.TaskRecord.{TaskRecord}

-- 0 for success, and else the fault's number.
abbrev pub code_of : Result (Unit {0}) PlanFault → ℕ
code_of (Ok _) = 0
code_of (Err fault) = plan.number fault

-- The sheet spells no list; or place answers for its list, under the linear test or else the exact one.
pub data PlacedEither (sheet before : List ℕ) : ℕ → List ℕ → Type 0 where
  unreadable : (fault : ListFault) → Unreadable sheet fault → PlacedEither sheet before (list.number fault) before
  answered : (grid lanes : ℕ) (entries : List Entry) (r : Result (Unit {0}) PlanFault) (after : List ℕ) → Spells sheet grid lanes entries
      → Placed (EitherYes (LinearYes grid) ExactYes) lanes (tasks_said entries) before r after → PlacedEither sheet before (code_of r) after

-- The exact test takes the last of these tasks over those before it.
abbrev pub TakesLast : List TaskRecord → Type 0
TakesLast tasks = ExactYes (take (length tasks - 1) tasks) (slice_index_or tasks (length tasks - 1) blank)

-- The sheet spells no list; or it has no task; or the exact test takes its last task, or does not.
pub data AskedExact (sheet : List ℕ) : ℕ → Type 0 where
  unreadable : (fault : ListFault) → Unreadable sheet fault → AskedExact sheet (list.number fault)
  no_task : (grid lanes : ℕ) (entries : List Entry) → Spells sheet grid lanes entries → length entries ≡ 0 → AskedExact sheet 13
  taken : (grid lanes : ℕ) (entries : List Entry) → Spells sheet grid lanes entries → TakesLast (tasks_said entries) → AskedExact sheet 0
  left : (grid lanes : ℕ) (entries : List Entry) → Spells sheet grid lanes entries → (TakesLast (tasks_said entries) → ⊥) → AskedExact sheet 12
