-- From what each step answers to what is printed for the day.
use Rattle.std.proofs.Common.{◌≡◌, ℕ, suc, List, [], ◌∷◌, ◌++◌, length, take, drop, Some, None, Ok, Err, vec_items, Option, Result, IfSome, is_some, sym, refl, ap, ◌∙◌, ◌+◌, subst, inl, inr, append_assoc, append-nil, arith}
use Rattle.board.specs.Entries.{calls_of}
use Rattle.board.specs.PlainBoard.{PlainBoard, after_call, answers_to}
use Rattle.board.specs.Promise.{Performed}
use Rattle.board.specs.declared.call.Call.{Call}
use Rattle.board.specs.declared.call.Entry.{Entry}
use Rattle.board.specs.declared.fault.BoardFault.{BoardFault}
use Rattle.board.specs.declared.fault.BoardFault.TheVariants.{Plan}
use Rattle.fit.specs.Tests.{CostRange, SurchargeYes}
use Rattle.plan.specs.Placing.{CannotPlace}
use Rattle.plan.specs.declared.fault.PlanFault.{PlanFault}
use Rattle.plan.specs.declared.fault.PlanFault.TheVariants.{List as OfList, PlanLength, NoLane, NoFit}
use Rattle.script.specs.Calls.{CallsRead}
use Rattle.script.specs.Day.{AfterHeadings, Chosen, Costed, DayRun, DayText, Named, NoDay, NoStart, Played, Replay, Unplaced, last_line, yes_by_name}
use Rattle.script.specs.Day.AfterHeadings.{played}
use Rattle.script.specs.Day.NoDay.{costly, no_start}
use Rattle.script.specs.Day.Replay.{headed, unheaded}
use Rattle.script.specs.Headings.{proposed}
use Rattle.script.specs.Opening.{Opened}
use Rattle.script.specs.declared.opening.Headings.{Headings}
use Rattle.script.specs.declared.session.Session.{Session}
use Rattle.std.proofs.lemmas.Grind.{common_steps}
use Rattle.script.specs.declared.opening.OpeningError.TheVariants.{NotUnderstood}
use Rattle.words.specs.Spelling.{lines_of}
use Rattle.script.specs.Texts.{answer_lines, given_in, not_understood_line, set_up_line}
use Rattle.script.specs.declared.headings.TestName.{TestName}
use Rattle.script.proofs.Sessions.{given_back}
use Rattle.sheet.specs.Spelling.{Entry as SheetEntry}
use Rattle.std.proofs.lemmas.List.{length-map}
use Rattle.tasks.specs.Reading.{Spells, tasks_said}
use Rattle.tasks.specs.declared.record.TaskRecord.{TaskRecord}

module _ (yes_to : List TaskRecord → TaskRecord → Type 0) (lanes : ℕ) (tasks : List TaskRecord) where
  -- place had room for each task, so it found no lane for one
  pub unplaced : (room : List ℕ) (fault : PlanFault) → length room ≡ length tasks → CannotPlace yes_to lanes tasks room fault → Unplaced yes_to lanes tasks (Plan fault)
  unplaced room (NoFit task) long cannot = record { room = room; task = task; cannot = cannot; fault_is = refl }
  unplaced room (PlanLength found) long cannot = absurd (cannot.0 long)
  unplaced room (NoLane task) long cannot = elim cannot [ ]
  unplaced room (OfList fault) long cannot = elim cannot [ ]

  -- the calls were performed with the day's plan
  pub performed : (proposal : Option (List ℕ)) (plan : List ℕ) (start : ℕ) (before : PlainBoard) (entries : List Entry) (r : Result (Unit {0}) BoardFault) (after : PlainBoard) (filled : List Entry)
      → Chosen yes_to lanes tasks proposal plan → Performed yes_to lanes tasks plan start before entries r after filled
      → Played yes_to lanes tasks proposal start entries r filled
  performed proposal plan start before entries (Ok u) after filled chosen done =
      let out = done.came_out in
      (out.0, record { plan = plan; chosen = chosen; in_time = out.3; left = after; promise = out.1 }, out.2)
  performed (Some bytes) plan start before entries (Err fault) after filled chosen done =
      record { plan = plan; chosen = chosen; no_board = done.came_out.0 }
  performed None plan start before entries (Err fault) after filled chosen done =
      inr (record { plan = plan; chosen = chosen; no_board = done.came_out.0 })

-- a lawful cost, under another name
pub at_cost : (yes_below yes_there : List TaskRecord → TaskRecord → Type 0) (cost there lanes : ℕ) (tasks : List TaskRecord) (proposal : Option (List ℕ)) (start : ℕ) (entries : List Entry) (r : Result (Unit {0}) BoardFault) (filled : List Entry)
    → CostRange cost → there ≡ cost → yes_there ≡ yes_below
    → Played (SurchargeYes there yes_there) lanes tasks proposal start entries r filled
    → Costed yes_below cost lanes tasks proposal start entries r filled
at_cost yes_below yes_there cost there lanes tasks proposal start entries (Ok u) filled range there_is yes_is done =
    (range, subst (λ c. Played (SurchargeYes c yes_below) lanes tasks proposal start entries (Ok u) filled) there_is (subst (λ y. Played (SurchargeYes there y) lanes tasks proposal start entries (Ok u) filled) yes_is done))
at_cost yes_below yes_there cost there lanes tasks proposal start entries (Err fault) filled range there_is yes_is done =
    inr (range, subst (λ c. NoStart (SurchargeYes c yes_below) lanes tasks proposal start fault) there_is (subst (λ y. NoStart (SurchargeYes there y) lanes tasks proposal start fault) yes_is done))

-- the day of a sheet that spells a list
pub day_of : (sheet : List ℕ) (grid lanes : ℕ) (listed : List TaskRecord) (tasks : List SheetEntry) (proposal : Option (List ℕ)) (test : TestName) (cost start : ℕ) (entries : List Entry) (r : Result (Unit {0}) BoardFault) (filled : List Entry)
    → Spells sheet grid lanes tasks → listed ≡ tasks_said tasks → Named test cost grid lanes listed proposal start entries r filled
    → DayRun sheet proposal test cost start entries r filled
day_of sheet grid lanes listed tasks proposal test cost start entries (Ok u) filled spells listed_are named =
    let here = subst (λ ts. Named test cost grid lanes ts proposal start entries (Ok u) filled) listed_are named in
    (here.1.0, record { grid = grid; lanes = lanes; tasks = tasks; spells = spells; in_range = here.0; made = here.1.1 }, here.1.2)
day_of sheet grid lanes listed tasks proposal test cost start entries (Err fault) filled spells listed_are named =
    elim (subst (λ ts. Named test cost grid lanes ts proposal start entries (Err fault) filled) listed_are named) [
      | inl over ↦ subst (NoDay sheet proposal test cost start) (sym over.1) (costly spells over.0)
      | inr within ↦ no_start spells within.0 within.1
    ]

-- as many answers as calls
pub length_answers : (b : PlainBoard) (calls : List Call) → length (answers_to b calls) ≡ length calls
length_answers b [] = refl
length_answers b (call ∷ calls) = ap suc (length_answers (after_call b call) calls)

-- the line that is no call, if there is one, is the last that is printed
pub last_line_is : (stop : Option ℕ) (line calls : ℕ) → stop ≡ Some line → IfSome stop (λ n. n ≡ calls + 5) → not_understood_line line ≡ last_line (is_some stop) calls
last_line_is (Some n) line calls is number = let same : line ≡ n = cc in ap not_understood_line (same ∙ number)
last_line_is None line calls is number = cc

pub no_last_line : (stop : Option ℕ) (text : List ℕ) (calls : ℕ) → stop ≡ None → text ≡ text ++ last_line (is_some stop) calls
no_last_line stop text calls none = sym (ap (λ (o : Option ℕ). text ++ last_line (is_some o) calls) none ∙ append-nil text)

-- entries that were filled in their place
filled_in_place : (entries filled : List Entry) (count : ℕ) → count ≡ length entries → length filled ≡ length entries → take count (filled ++ drop (length filled) entries) ≡ filled
filled_in_place entries filled count count_is long = grind (arith, common_steps)

-- what is printed of a day that was played
pub day_text : (h : Headings) (lines : List (List ℕ)) (session : Session) (lent filled back : List Entry) (text set_up lined done : List ℕ)
    → CallsRead lines session → lent ≡ vec_items session.entries → length filled ≡ length lent → back ≡ take session.entries.len (filled ++ drop (length filled) (vec_items session.entries))
    → DayRun (vec_items h.sheet) (proposed h.plan) h.fit.test h.fit.cost h.start lent (Ok tt) filled
    → set_up ≡ text ++ set_up_line → lined ≡ set_up ++ answer_lines lines (given_in back) → done ≡ lined ++ last_line (is_some session.stop) (length (vec_items session.entries))
    → DayText h lines text done
day_text h lines session lent filled back text set_up lined done read lent_is filled_long back_is run_lent set_up_is lined_is done_is =
    let run = subst (λ es. DayRun (vec_items h.sheet) (proposed h.plan) h.fit.test h.fit.cost h.start es (Ok tt) filled) lent_is run_lent in
    let entries = vec_items session.entries in
    let stopped = is_some session.stop in
    let answers = run.0 in
    let calls = calls_of entries in
    let count : length calls ≡ length entries = length-map entries (λ (e : Entry). e.call) in
    let long : length answers ≡ length entries = ap length run.1.made.promise.answered ∙ length_answers _ calls ∙ count in
    let same : back ≡ filled = back_is ∙ filled_in_place entries filled session.entries.len session.entries.ok.0 (filled_long ∙ ap length lent_is) in
    let given : given_in back ≡ answers = ap given_in (same ∙ run.2) ∙ given_back entries answers long in
    let whole : done ≡ text ++ (set_up_line ++ (answer_lines lines answers ++ last_line stopped (length calls))) =
    done_is
    ∙ ap (λ n. lined ++ last_line stopped n) (sym count)
    ∙ ap (λ t. t ++ last_line stopped (length calls)) (lined_is ∙ ap (λ gs. set_up ++ answer_lines lines gs) given ∙ ap (λ t. t ++ answer_lines lines answers) set_up_is)
    ∙ append_assoc (text ++ set_up_line) (answer_lines lines answers) (last_line stopped (length calls))
    ∙ append_assoc text set_up_line (answer_lines lines answers ++ last_line stopped (length calls)) in
    (set_up_line ++ (answer_lines lines answers ++ last_line stopped (length calls)), played read.said run.1, whole)

-- the test of a name
pub by_name : (name test : TestName) (cost there grid lanes : ℕ) (tasks : List TaskRecord) (proposal : Option (List ℕ)) (start : ℕ) (entries : List Entry) (r : Result (Unit {0}) BoardFault) (filled : List Entry)
    → test ≡ name → there ≡ grid → Costed (yes_by_name name there) cost lanes tasks proposal start entries r filled
    → Named test cost grid lanes tasks proposal start entries r filled
by_name name test cost there grid lanes tasks proposal start entries r filled test_is there_is done =
    subst (λ t. Costed (yes_by_name t grid) cost lanes tasks proposal start entries r filled) (sym test_is)
    (subst (λ n. Costed (yes_by_name name n) cost lanes tasks proposal start entries r filled) there_is done)

-- what is printed for an input with its headings, and for one without
pub headed_text : (input : List ℕ) (lines left : List (List ℕ)) (h : Headings) (empty text : List ℕ) → lines ≡ lines_of input → Opened lines (Ok h) left
    → empty ≡ [] → DayText h left empty text → Replay input text
headed_text input lines left h empty text lines_are opened none day =
    let here = subst (λ ls. Opened ls (Ok h) left) lines_are opened in
    let after = subst (λ ls. AfterHeadings (vec_items h.sheet) (proposed h.plan) h.fit.test h.fit.cost h.start ls day.0) here.1 day.1 in
    subst (Replay input) (sym (day.2 ∙ ap (λ t. t ++ day.0) none)) (headed (proposed h.plan) h.fit.test here.0 after)

pub unheaded_text : (input : List ℕ) (lines left : List (List ℕ)) (line : ℕ) (empty text : List ℕ) → lines ≡ lines_of input → Opened lines (Err (NotUnderstood line)) left
    → empty ≡ [] → text ≡ empty ++ not_understood_line line → Replay input text
unheaded_text input lines left line empty text lines_are opened none text_is =
    let here = subst (λ ls. Opened ls (Err (NotUnderstood line)) left) lines_are opened in
    subst (Replay input) (sym (text_is ∙ ap (λ t. t ++ not_understood_line line) none)) (unheaded here)
