-- An input has one text: its headings and calls say one thing each, and the day that they ask for has one outcome.
use Rattle.std.proofs.Common.{◌≡◌, ℕ, Bool, List, ◌++◌, length, drop, Some, None, Option, sym, refl, ap, ◌∙◌, subst, inl, inr}
use Rattle.board.proofs.Judged.{no_fault_no_refusal, one_board_fault}
use Rattle.board.specs.Codes.{number, place}
use Rattle.board.specs.PlainBoard.{answers_to, new_board}
use Rattle.board.specs.Promise.{NoBoard}
use Rattle.board.specs.declared.call.Answer.{Answer}
use Rattle.board.specs.declared.call.Call.{Call}
use Rattle.board.specs.declared.fault.BoardFault.{BoardFault}
use Rattle.board.specs.declared.fault.BoardFault.TheVariants.{Plan}
use Rattle.plan.proofs.Settled.{settled as placing}
use Rattle.plan.specs.Placing.{CannotPlace, Places}
use Rattle.plan.specs.declared.fault.PlanFault.TheVariants.{List as OfList, NoFit}
use Rattle.script.proofs.Said.{one_cost, one_list_of_calls, one-plan, one_sheet, one_start, one_test}
use Rattle.script.specs.Day.{AfterHeadings, Boardless, Chosen, Day, Made, NoDay, NoStart, ReplayIsSettled, Unplaced, last_line, yes_at_cost}
use Rattle.script.specs.Day.AfterHeadings.{played, refused}
use Rattle.script.specs.Day.NoDay.{costly, no_start as not_started, unreadable}
use Rattle.script.specs.Day.Replay.{headed, unheaded}
use Rattle.script.specs.Opening.{Headed, Unheaded, line_at}
use Rattle.script.specs.Opening.Unheaded.{no_fit, no_plan, no_sheet, no_start}
use Rattle.script.specs.Texts.{answer_lines, not_understood_line, refused_line, set_up_line}
use Rattle.script.specs.declared.headings.TestName.{TestName}
use Rattle.sheet.specs.Spelling.{Entry as SheetEntry}
use Rattle.tasks.proofs.Settled.{settled as reading}
use Rattle.tasks.specs.Reading.{Spells, tasks_said}
use Rattle.tasks.specs.declared.record.TaskRecord.{TaskRecord}
use Rattle.words.specs.Spelling.{lines_of}

module _ (lines : List (List ℕ)) where
  -- what holds of the headings holds of them as read again
  same_headings : (P : List ℕ → Option (List ℕ) → TestName → ℕ → ℕ → Type 0)
      (sheet sheet' : List ℕ) (plan plan' : Option (List ℕ)) (test test' : TestName) (cost cost' start start' : ℕ)
      → Headed lines sheet plan test cost start → Headed lines sheet' plan' test' cost' start'
      → P sheet' plan' test' cost' start' → P sheet plan test cost start
  same_headings P sheet sheet' plan plan' test test' cost cost' start start' h h' there =
      let s = one_sheet (line_at lines 0) sheet' sheet h'.sheet_said h.sheet_said in
      let p = one-plan (line_at lines 1) plan' plan h'.plan_said h.plan_said in
      let t = one_test (line_at lines 2) test' test cost' cost h'.fit_said h.fit_said in
      let c = one_cost (line_at lines 2) test' test cost' cost h'.fit_said h.fit_said in
      let k = one_start (line_at lines 3) start' start h'.start_said h.start_said in
      subst (λ (x : List ℕ). P x plan test cost start) s
      (subst (λ (x : Option (List ℕ)). P sheet' x test cost start) p
      (subst (λ (x : TestName). P sheet' plan' x cost start) t
      (subst (λ (x : ℕ). P sheet' plan' test' x start) c
      (subst (λ (x : ℕ). P sheet' plan' test' cost' x) k there))))

  never_headed : {sheet : List ℕ} (plan : Option (List ℕ)) (test : TestName) {cost start line : ℕ}
      → Headed lines sheet plan test cost start → Unheaded lines line → ⊥
  never_headed plan test h (no_sheet none) = none _ h.sheet_said
  never_headed plan test h (no_plan s none) = none plan h.plan_said
  never_headed plan test h (no_fit p s said none) = none test _ h.fit_said
  never_headed plan test h (no_start p t s said fit none) = none _ h.start_said

  one_line : {line line' : ℕ} → Unheaded lines line → Unheaded lines line' → line ≡ line'
  one_line (no_sheet none) (no_sheet none') = refl
  one_line (no_sheet none) (no_plan s' none') = absurd (none _ s')
  one_line (no_sheet none) (no_fit p' s' said' none') = absurd (none _ s')
  one_line (no_sheet none) (no_start p' t' s' said' fit' none') = absurd (none _ s')
  one_line (no_plan s none) (no_sheet none') = absurd (none' _ s)
  one_line (no_plan s none) (no_plan s' none') = refl
  one_line (no_plan s none) (no_fit p' s' said' none') = absurd (none p' said')
  one_line (no_plan s none) (no_start p' t' s' said' fit' none') = absurd (none p' said')
  one_line (no_fit p s said none) (no_sheet none') = absurd (none' _ s)
  one_line (no_fit p s said none) (no_plan s' none') = absurd (none' p said)
  one_line (no_fit p s said none) (no_fit p' s' said' none') = refl
  one_line (no_fit p s said none) (no_start p' t' s' said' fit' none') = absurd (none t' _ fit')
  one_line (no_start p t s said fit none) (no_sheet none') = absurd (none' _ s)
  one_line (no_start p t s said fit none) (no_plan s' none') = absurd (none' p said)
  one_line (no_start p t s said fit none) (no_fit p' s' said' none') = absurd (none' t _ fit)
  one_line (no_start p t s said fit none) (no_start p' t' s' said' fit' none') = refl

module _ (yes_to : List TaskRecord → TaskRecord → Type 0) (lanes : ℕ) (tasks : List TaskRecord) where
  one_choice : (proposal : Option (List ℕ)) (plan plan' : List ℕ)
      → Chosen yes_to lanes tasks proposal plan → Chosen yes_to lanes tasks proposal plan' → plan ≡ plan'
  one_choice (Some bytes) plan plan' a b = a ∙ sym b
  one_choice None plan plan' a b = (placing yes_to lanes tasks).one_placing plan plan' a b

  never_placed : (fault : BoardFault) (plan : List ℕ) → Unplaced yes_to lanes tasks fault → Places yes_to lanes tasks plan → ⊥
  never_placed fault plan u places =
      (placing yes_to lanes tasks).no_fault_placed u.room plan (NoFit u.task) u.cannot.2 u.cannot places

  one-unplaced : (fault fault' : BoardFault) → Unplaced yes_to lanes tasks fault → Unplaced yes_to lanes tasks fault' → fault ≡ fault'
  one-unplaced fault fault' a b =
      let there = b.cannot in
      let here : CannotPlace yes_to lanes tasks a.room (NoFit b.task) =
      (there.0, there.1, a.cannot.2, there.3, there.4, there.5, there.6) in
      a.fault_is
      ∙ ap Plan ((placing yes_to lanes tasks).one_place_fault a.room (NoFit a.task) (NoFit b.task) a.cannot here)
      ∙ sym b.fault_is

  module _ (proposal : Option (List ℕ)) (start : ℕ) where
    one_boardless : (fault fault' : BoardFault)
        → Boardless yes_to lanes tasks proposal start fault → Boardless yes_to lanes tasks proposal start fault' → fault ≡ fault'
    one_boardless fault fault' a b =
        let same = one_choice proposal b.plan a.plan b.chosen a.chosen in
        let here = subst (λ (p : List ℕ). NoBoard yes_to lanes tasks p start fault') same b.no_board in
        one_board_fault yes_to lanes tasks a.plan start fault fault' a.no_board here

    never_boardless : (fault : BoardFault) (calls : List Call) (answers : List Answer)
        → Boardless yes_to lanes tasks proposal start fault → Made yes_to lanes tasks proposal start calls answers → ⊥
    never_boardless fault calls answers a made =
        let same = one_choice proposal a.plan made.plan a.chosen made.chosen in
        let here = subst (λ (p : List ℕ). NoBoard yes_to lanes tasks p start fault) same a.no_board in
        no_fault_no_refusal yes_to lanes tasks made.plan start fault made.promise.passed made.in_time here

    one_list_of_answers : (calls : List Call) (answers answers' : List Answer)
        → Made yes_to lanes tasks proposal start calls answers → Made yes_to lanes tasks proposal start calls answers' → answers ≡ answers'
    one_list_of_answers calls answers answers' a b =
        let same = one_choice proposal a.plan b.plan a.chosen b.chosen in
        a.promise.answered
        ∙ ap (λ (p : List ℕ). answers_to (new_board tasks lanes p start) calls) same
        ∙ sym b.promise.answered

  one-no_start : (proposal : Option (List ℕ)) (start : ℕ) (fault fault' : BoardFault)
      → NoStart yes_to lanes tasks proposal start fault → NoStart yes_to lanes tasks proposal start fault' → fault ≡ fault'
  one-no_start (Some bytes) start fault fault' a b = one_boardless (Some bytes) start fault fault' a b
  one-no_start None start fault fault' (inl a) (inl b) = one-unplaced fault fault' a b
  one-no_start None start fault fault' (inl a) (inr b) = absurd (never_placed fault b.plan a b.chosen)
  one-no_start None start fault fault' (inr a) (inl b) = absurd (never_placed fault' a.plan b a.chosen)
  one-no_start None start fault fault' (inr a) (inr b) = one_boardless None start fault fault' a b

  never_started : (proposal : Option (List ℕ)) (start : ℕ) (fault : BoardFault) (calls : List Call) (answers : List Answer)
      → NoStart yes_to lanes tasks proposal start fault → Made yes_to lanes tasks proposal start calls answers → ⊥
  never_started (Some bytes) start fault calls answers a made = never_boardless (Some bytes) start fault calls answers a made
  never_started None start fault calls answers (inl a) made = never_placed fault made.plan a made.chosen
  never_started None start fault calls answers (inr a) made = never_boardless None start fault calls answers a made

module _ (sheet : List ℕ) where
  -- what holds of the sheet's list holds of it as read again
  same_list : (P : ℕ → ℕ → List SheetEntry → Type 0) (grid grid' lanes lanes' : ℕ) (tasks tasks' : List SheetEntry)
      → Spells sheet grid lanes tasks → Spells sheet grid' lanes' tasks' → P grid' lanes' tasks' → P grid lanes tasks
  same_list P grid grid' lanes lanes' tasks tasks' s s' there =
      let same = reading.one_list sheet grid' grid lanes' lanes tasks' tasks s' s in
      subst (λ (g : ℕ). P g lanes tasks) same.0
      (subst (λ (m : ℕ). P grid' m tasks) same.1 (subst (λ (ts : List SheetEntry). P grid' lanes' ts) same.2 there))

  module _ (proposal : Option (List ℕ)) (test : TestName) (cost start : ℕ) where
    abbrev NotStarted : BoardFault → ℕ → ℕ → List SheetEntry → Type 0
    NotStarted fault grid lanes tasks = NoStart (yes_at_cost test cost grid) lanes (tasks_said tasks) proposal start fault

    one_fault : {fault fault' : BoardFault} → NoDay sheet proposal test cost start fault → NoDay sheet proposal test cost start fault' → fault ≡ fault'
    one_fault (unreadable {fault = f} a) (unreadable {fault = g} b) = ap (λ x. Plan (OfList x)) (reading.one_fault sheet f g a b)
    one_fault (unreadable {fault = f} a) (costly s' over') = absurd (reading.never_both sheet _ _ _ f s' a)
    one_fault (unreadable {fault = f} a) (not_started s' within' b) = absurd (reading.never_both sheet _ _ _ f s' a)
    one_fault (costly s over) (unreadable {fault = g} b) = absurd (reading.never_both sheet _ _ _ g s b)
    one_fault (costly s over) (costly s' over') = refl
    one_fault (costly s over) (not_started s' within' b) = absurd (over within')
    one_fault (not_started s within a) (unreadable {fault = g} b) = absurd (reading.never_both sheet _ _ _ g s b)
    one_fault (not_started s within a) (costly s' over') = absurd (over' within)
    one_fault (not_started {grid = grid} {lanes = lanes} {tasks = tasks} {fault = f} s within a) (not_started {grid = grid'} {lanes = lanes'} {tasks = tasks'} {fault = g} s' within' b) =
        one-no_start (yes_at_cost test cost grid) lanes (tasks_said tasks) proposal start f g a
        (same_list (NotStarted g) grid grid' lanes lanes' tasks tasks' s s' b)

    never_both : {fault : BoardFault} (calls : List Call) (answers : List Answer)
        → NoDay sheet proposal test cost start fault → Day sheet proposal test cost start calls answers → ⊥
    never_both calls answers (unreadable {fault = f} a) day = reading.never_both sheet day.grid day.lanes day.tasks f day.spells a
    never_both calls answers (costly s over) day = over day.in_range
    never_both calls answers (not_started {grid = grid} {lanes = lanes} {tasks = tasks} {fault = f} s within a) day =
        never_started (yes_at_cost test cost day.grid) day.lanes (tasks_said day.tasks) proposal start f calls answers
        (same_list (NotStarted f) day.grid grid day.lanes lanes day.tasks tasks day.spells s a) day.made

    one_day : (calls : List Call) (answers answers' : List Answer)
        → Day sheet proposal test cost start calls answers → Day sheet proposal test cost start calls answers' → answers ≡ answers'
    one_day calls answers answers' a b =
        one_list_of_answers (yes_at_cost test cost a.grid) a.lanes (tasks_said a.tasks) proposal start calls answers answers' a.made
        (same_list (λ grid lanes tasks. Made (yes_at_cost test cost grid) lanes (tasks_said tasks) proposal start calls answers')
        a.grid b.grid a.lanes b.lanes a.tasks b.tasks a.spells b.spells b.made)

    module _ (lines : List (List ℕ)) where
      abbrev said_text : List Call → Bool → List Answer → List ℕ
      said_text calls stopped answers = set_up_line ++ (answer_lines lines answers ++ last_line stopped (length calls))

      one_text : {text text' : List ℕ}
          → AfterHeadings sheet proposal test cost start lines text → AfterHeadings sheet proposal test cost start lines text' → text ≡ text'
      one_text (refused a) (refused b) = ap (λ (f : BoardFault). refused_line (number f) (place f)) (one_fault a b)
      one_text (refused a) (played {calls = calls} {answers = answers} said day) = absurd (never_both calls answers a day)
      one_text (played {calls = calls} {answers = answers} said day) (refused b) = absurd (never_both calls answers b day)
      one_text (played {calls = calls} {stopped = stopped} {answers = answers} said day) (played {calls = calls'} {stopped = stopped'} {answers = answers'} said' day') =
          let same = one_list_of_calls said said' in
          let here = subst (λ (cs : List Call). Day sheet proposal test cost start cs answers') (sym same.0) day' in
          ap (said_text calls stopped) (one_day calls answers answers' day here)
          ∙ ap (λ (cs : List Call). said_text cs stopped answers') same.0
          ∙ ap (λ (b : Bool). said_text calls' b answers') same.1

pub settled : ReplayIsSettled
settled input one other (unheaded a) (unheaded b) = ap not_understood_line (one_line (lines_of input) a b)
settled input one other (unheaded a) (headed plan test h after) = absurd (never_headed (lines_of input) plan test h a)
settled input one other (headed plan test h after) (unheaded b) = absurd (never_headed (lines_of input) plan test h b)
settled input one other (headed {sheet = sheet} plan test {cost = cost} {start = start} h after) (headed {sheet = sheet'} plan' test' {cost = cost'} {start = start'} h' after') =
    let lines = drop 4 (lines_of input) in
    one_text sheet plan test cost start lines after
    (same_headings (lines_of input) (λ s p t c k. AfterHeadings s p t c k lines other)
    sheet sheet' plan plan' test test' cost cost' start start' h h' after')
