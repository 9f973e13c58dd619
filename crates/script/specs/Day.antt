-- What is printed for a recorded day.
use Rattle.std.specs.Prelude.{◌≡◌, ℕ, ◌+◌, ◌≤◌, Bool, true, false, ◌⊎◌, List, [], ◌++◌, length, drop, Some, None, Ok, Err, vec_items, Option, Result}
use Rattle.board.specs.Codes.{number, place}
use Rattle.board.specs.Entries.{calls_of, with_answers}
use Rattle.board.specs.PlainBoard.{PlainBoard, clock_end}
use Rattle.board.specs.Promise.{NoBoard, Promise}
use Rattle.board.specs.declared.call.Answer.{Answer}
use Rattle.board.specs.declared.call.Call.{Call}
use Rattle.board.specs.declared.call.Entry.{Entry}
use Rattle.board.specs.declared.fault.BoardFault.{BoardFault}
use Rattle.board.specs.declared.fault.BoardFault.TheVariants.{Plan}
use Rattle.fit.specs.Tests.{CostRange, EitherYes, ExactYes, LinearYes, SurchargeYes}
use Rattle.plan.specs.Placing.{CannotPlace, Places}
use Rattle.plan.specs.declared.fault.PlanFault.TheVariants.{List as OfList, NoFit}
use Rattle.script.specs.Calls.{CallsSaid}
use Rattle.script.specs.Headings.{proposed}
use Rattle.script.specs.Opening.{Headed, Unheaded}
use Rattle.script.specs.Texts.{answer_lines, not_understood_line, refused_line, set_up_line}
use Rattle.script.specs.declared.headings.TestName.{TestName}
use Rattle.script.specs.declared.headings.TestName.TheVariants.{Linear, Exact, Either}
use Rattle.script.specs.declared.opening.Headings.{Headings}
use Rattle.sheet.specs.Spelling.{Entry as SheetEntry}
use Rattle.tasks.specs.Reading.{Spells, Unreadable, tasks_said}
use Rattle.tasks.specs.declared.fault.ListFault.{ListFault}
use Rattle.tasks.specs.declared.fault.ListFault.TheVariants.{OutOfRange}
use Rattle.tasks.specs.declared.fault.Setting.TheVariants.{SwitchCost}
use Rattle.tasks.specs.declared.record.TaskRecord.{TaskRecord}
use Rattle.words.specs.Spelling.{lines_of}

-- The test of a name, over a sheet's grid, and a surcharge over it: the questions that it answers with yes.
abbrev pub yes_by_name : TestName → ℕ → List TaskRecord → TaskRecord → Type 0
yes_by_name Linear grid = LinearYes grid
yes_by_name Exact grid = ExactYes
yes_by_name Either grid = EitherYes (LinearYes grid) ExactYes

abbrev pub yes_at_cost : TestName → ℕ → ℕ → List TaskRecord → TaskRecord → Type 0
yes_at_cost test cost grid = SurchargeYes cost (yes_by_name test grid)

-- Below, `yes_to` is the fit test's set of questions with a yes, and the list has these tasks on so many lanes.
module _ (yes_to : List TaskRecord → TaskRecord → Type 0) (lanes : ℕ) (tasks : List TaskRecord) where
  -- The plan of the day: the proposed one, or else the one by first fit.
  abbrev pub Chosen : Option (List ℕ) → List ℕ → Type 0
  Chosen (Some bytes) plan = plan ≡ bytes
  Chosen None plan = Places yes_to lanes tasks plan

  -- There is no placing by first fit.
  pub record Unplaced (fault : BoardFault) : Type 0 where
    pub room : List ℕ
    pub task : ℕ
    pub cannot : CannotPlace yes_to lanes tasks room (NoFit task)
    pub fault_is : fault ≡ Plan (NoFit task)

  -- The day's plan gives no board at this clock.
  pub record Boardless (proposal : Option (List ℕ)) (start : ℕ) (fault : BoardFault) : Type 0 where
    pub plan : List ℕ
    pub chosen : Chosen proposal plan
    pub no_board : NoBoard yes_to lanes tasks plan start fault

  -- Why the day has no board.
  abbrev pub NoStart : Option (List ℕ) → ℕ → BoardFault → Type 0
  NoStart (Some bytes) start fault = Boardless (Some bytes) start fault
  NoStart None start fault = Unplaced fault ⊎ Boardless None start fault

  -- The calls were made on a board with the day's plan, started in time, and these are the answers: those of the plain
  -- board, with the whole promise.
  pub record Made (proposal : Option (List ℕ)) (start : ℕ) (calls : List Call) (answers : List Answer) : Type 0 where
    pub plan : List ℕ
    pub chosen : Chosen proposal plan
    pub in_time : start ≤ clock_end
    pub left : PlainBoard
    pub promise : Promise yes_to lanes tasks plan start calls answers left

  abbrev pub Played : Option (List ℕ) → ℕ → List Entry → Result (Unit {0}) BoardFault → List Entry → Type 0
  Played proposal start entries (Ok _) filled =
      (answers : List Answer) × Made proposal start (calls_of entries) answers × (filled ≡ with_answers entries answers)
  Played proposal start entries (Err fault) filled = NoStart proposal start fault

-- The same under a surcharge, whose cost has a range.
abbrev pub Costed : (List TaskRecord → TaskRecord → Type 0) → ℕ → ℕ → List TaskRecord → Option (List ℕ) → ℕ → List Entry → Result (Unit {0}) BoardFault → List Entry → Type 0
Costed yes_below cost lanes tasks proposal start entries (Ok u) filled =
    CostRange cost × Played (SurchargeYes cost yes_below) lanes tasks proposal start entries (Ok u) filled
Costed yes_below cost lanes tasks proposal start entries (Err fault) filled =
    ((CostRange cost → ⊥) × (fault ≡ Plan (OfList (OutOfRange SwitchCost)))) ⊎ (CostRange cost × NoStart (SurchargeYes cost yes_below) lanes tasks proposal start fault)

-- The same under the test of a name.
abbrev pub Named : TestName → ℕ → ℕ → ℕ → List TaskRecord → Option (List ℕ) → ℕ → List Entry → Result (Unit {0}) BoardFault → List Entry → Type 0
Named test cost grid lanes tasks proposal start entries r filled =
    Costed (yes_by_name test grid) cost lanes tasks proposal start entries r filled

-- Why no board is set up for the day: the sheet comes first, then the cost, then the plan and the clock.
pub data NoDay (sheet : List ℕ) (proposal : Option (List ℕ)) (test : TestName) (cost start : ℕ) : BoardFault → Type 0 where
  unreadable : {fault : ListFault} → Unreadable sheet fault → NoDay sheet proposal test cost start (Plan (OfList fault))
  costly : {grid lanes : ℕ} {tasks : List SheetEntry} → Spells sheet grid lanes tasks → (CostRange cost → ⊥)
      → NoDay sheet proposal test cost start (Plan (OfList (OutOfRange SwitchCost)))
  no_start : {grid lanes : ℕ} {tasks : List SheetEntry} {fault : BoardFault} → Spells sheet grid lanes tasks → CostRange cost
      → NoStart (yes_at_cost test cost grid) lanes (tasks_said tasks) proposal start fault
      → NoDay sheet proposal test cost start fault

-- The calls were made, and these are the answers.
pub record Day (sheet : List ℕ) (proposal : Option (List ℕ)) (test : TestName) (cost start : ℕ) (calls : List Call) (answers : List Answer) : Type 0 where
  pub grid : ℕ
  pub lanes : ℕ
  pub tasks : List SheetEntry
  pub spells : Spells sheet grid lanes tasks
  pub in_range : CostRange cost
  pub made : Made (yes_at_cost test cost grid) lanes (tasks_said tasks) proposal start calls answers

abbrev pub DayRun : List ℕ → Option (List ℕ) → TestName → ℕ → ℕ → List Entry → Result (Unit {0}) BoardFault → List Entry → Type 0
DayRun sheet proposal test cost start entries (Ok _) filled =
    (answers : List Answer) × Day sheet proposal test cost start (calls_of entries) answers × (filled ≡ with_answers entries answers)
DayRun sheet proposal test cost start entries (Err fault) filled = NoDay sheet proposal test cost start fault

-- What is printed after so many calls: the number of the line that is no call, if there is one. The calls begin in line 5.
abbrev pub last_line : Bool → ℕ → List ℕ
last_line true calls = not_understood_line (calls + 5)
last_line false calls = []

-- What is printed after the headings: why no board was set up; or that it was, each call with its answer, and the line
-- that is not understood, if there is one.
pub data AfterHeadings (sheet : List ℕ) (proposal : Option (List ℕ)) (test : TestName) (cost start : ℕ) (lines : List (List ℕ)) : List ℕ → Type 0 where
  refused : {fault : BoardFault} → NoDay sheet proposal test cost start fault
      → AfterHeadings sheet proposal test cost start lines (refused_line (number fault) (place fault))
  played : {calls : List Call} {stopped : Bool} {answers : List Answer} → CallsSaid lines calls stopped
      → Day sheet proposal test cost start calls answers
      → AfterHeadings sheet proposal test cost start lines (set_up_line ++ (answer_lines lines answers ++ last_line stopped (length calls)))

abbrev pub DayText : Headings → List (List ℕ) → List ℕ → List ℕ → Type 0
DayText h lines before after =
    (more : List ℕ) × AfterHeadings (vec_items h.sheet) (proposed h.plan) h.fit.test h.fit.cost h.start lines more × (after ≡ before ++ more)

-- What is printed for an input: the number of the first line that is not the heading that stands there, or else
-- what the headings and the lines after them give.
pub data Replay (input : List ℕ) : List ℕ → Type 0 where
  unheaded : {line : ℕ} → Unheaded (lines_of input) line → Replay input (not_understood_line line)
  headed : {sheet : List ℕ} (proposal : Option (List ℕ)) (test : TestName) {cost start : ℕ} {text : List ℕ}
      → Headed (lines_of input) sheet proposal test cost start
      → AfterHeadings sheet proposal test cost start (drop 4 (lines_of input)) text
      → Replay input text

-- An input has one text.
abbrev pub ReplayIsSettled : Type 0
ReplayIsSettled = (input one other : List ℕ) → Replay input one → Replay input other → one ≡ other
