-- How a recorded day begins.
use Rattle.std.specs.Prelude.{◌≡◌, ℕ, List, [], drop, Ok, Err, vec_items, Option, Result, slice_index_or}
use Rattle.script.specs.Headings.{SaysFit, SaysPlan, SaysSheet, SaysStart, proposed}
use Rattle.script.specs.declared.headings.TestName.{TestName}
use Rattle.script.specs.declared.opening.Headings.{Headings}
use Rattle.script.specs.declared.opening.OpeningError.{OpeningError}
use Rattle.script.specs.declared.opening.OpeningError.TheVariants.{NotUnderstood, OutOfMemory}

-- The line with this index. Past the last line stands a blank one, which is no heading.
abbrev pub line_at : List (List ℕ) → ℕ → List ℕ
line_at lines k = slice_index_or lines k []

-- The lines begin with the four headings, which say this sheet, this plan, this test with its cost, and this clock.
pub record Headed (lines : List (List ℕ)) (sheet : List ℕ) (plan : Option (List ℕ)) (test : TestName) (cost start : ℕ) : Type 0 where
  pub sheet_said : SaysSheet (line_at lines 0) sheet
  pub plan_said : SaysPlan (line_at lines 1) plan
  pub fit_said : SaysFit (line_at lines 2) test cost
  pub start_said : SaysStart (line_at lines 3) start

-- The line with this number, counted from 1, is the first that is not the heading that stands there.
pub data Unheaded (lines : List (List ℕ)) : ℕ → Type 0 where
  no_sheet : ((sheet : List ℕ) → SaysSheet (line_at lines 0) sheet → ⊥) → Unheaded lines 1
  no_plan : {sheet : List ℕ} → SaysSheet (line_at lines 0) sheet
      → ((plan : Option (List ℕ)) → SaysPlan (line_at lines 1) plan → ⊥) → Unheaded lines 2
  no_fit : {sheet : List ℕ} (plan : Option (List ℕ)) → SaysSheet (line_at lines 0) sheet → SaysPlan (line_at lines 1) plan
      → ((test : TestName) (cost : ℕ) → SaysFit (line_at lines 2) test cost → ⊥) → Unheaded lines 3
  no_start : {sheet : List ℕ} (plan : Option (List ℕ)) (test : TestName) {cost : ℕ}
      → SaysSheet (line_at lines 0) sheet → SaysPlan (line_at lines 1) plan → SaysFit (line_at lines 2) test cost
      → ((start : ℕ) → SaysStart (line_at lines 3) start → ⊥) → Unheaded lines 4

-- The headings were read, and these lines are left; or else a heading is missing, or the memory gave out.
abbrev pub Opened : List (List ℕ) → Result Headings OpeningError → List (List ℕ) → Type 0
Opened lines (Ok h) left =
    Headed lines (vec_items h.sheet) (proposed h.plan) h.fit.test h.fit.cost h.start × (left ≡ drop 4 lines)
Opened lines (Err (NotUnderstood number)) left = Unheaded lines number
Opened lines (Err (OutOfMemory error)) left = Unit {0}
