-- What `lanes` prints for a sheet.
use Rattle.std.specs.Prelude.{◌≡◌, ℕ, zero, suc, List, [], ◌∷◌, ◌++◌, length, codes, decimal, slice_index_or}
use Rattle.fit.specs.Tests.{EitherYes, ExactYes, LinearYes}
use Rattle.plan.specs.Placing.{CannotPlace, Places, lane_of}
use Rattle.plan.specs.declared.fault.PlanFault.TheVariants.{NoFit}
use Rattle.sheet.specs.Spelling.{Entry}
use Rattle.tasks.specs.Codes.{number, place}
use Rattle.tasks.specs.Reading.{Spells, Unreadable, no_entry, tasks_said}
use Rattle.tasks.specs.declared.fault.ListFault.{ListFault}
use Rattle.tasks.specs.declared.record.TaskRecord.{TaskRecord}

-- The line for a list of `tasks` tasks.
abbrev pub summary_line : ℕ → ℕ → ℕ → List ℕ
summary_line tasks lanes grid =
    codes "tasks " ++ (decimal tasks ++ (codes " lanes " ++ (decimal lanes ++ (codes " grid " ++ (decimal grid ++ codes "\n")))))

-- The line for a refusal.
abbrev pub refusal_line : ℕ → ℕ → List ℕ
refusal_line code at = codes "refused " ++ (decimal code ++ (codes " " ++ (decimal at ++ codes "\n")))

-- A name after one space; no name, no space.
abbrev pub spaced : List ℕ → List ℕ
spaced [] = []
spaced (byte ∷ bytes) = codes " " ++ (byte ∷ bytes)

-- The line for a placed task: its number, its lane and its name, if it has one.
abbrev pub task_line : ℕ → ℕ → List ℕ → List ℕ
task_line task lane name = decimal task ++ (codes " " ++ (decimal lane ++ (spaced name ++ codes "\n")))

-- The lines for the first `count` tasks.
abbrev pub task_lines : List ℕ → List Entry → ℕ → List ℕ
task_lines plan entries zero = []
task_lines plan entries (suc count) =
    task_lines plan entries count ++ task_line count (lane_of plan count) (slice_index_or entries count no_entry).name

-- A block: its heading, and then where first fit under a test places each task, or the first task that no lane takes.
pub data Block (yes_to : List TaskRecord → TaskRecord → Type 0) (lanes : ℕ) (entries : List Entry) (heading : List ℕ) : List ℕ → Type 0 where
  placed : (plan : List ℕ) → Places yes_to lanes (tasks_said entries) plan
      → Block yes_to lanes entries heading (heading ++ task_lines plan entries (length entries))
  unplaced : (plan : List ℕ) (task : ℕ) → CannotPlace yes_to lanes (tasks_said entries) plan (NoFit task)
      → Block yes_to lanes entries heading (heading ++ refusal_line 12 task)

-- The text for these bytes: the summary of the list that they spell, and a block by the linear test and one by the
-- linear test or the exact one; or the fault for which they spell no list.
pub data Listing (bytes : List ℕ) : List ℕ → Type 0 where
  accepted : {grid lanes : ℕ} {entries : List Entry} {linear either : List ℕ}
      → Spells bytes grid lanes entries
      → Block (LinearYes grid) lanes entries (codes "linear\n") linear
      → Block (EitherYes (LinearYes grid) ExactYes) lanes entries (codes "either\n") either
      → Listing bytes (summary_line (length entries) lanes grid ++ (linear ++ either))
  refused : {fault : ListFault} → Unreadable bytes fault → Listing bytes (refusal_line (number fault) (place fault))

-- Bytes have one listing.
abbrev pub ListingIsSettled : Type 0
ListingIsSettled = (bytes one other : List ℕ) → Listing bytes one → Listing bytes other → one ≡ other
