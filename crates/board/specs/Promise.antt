-- What is promised of every list of calls to a new board.
use Rattle.std.specs.Prelude.{◌≡◌, ℕ, ◌+◌, ◌<◌, ◌≤◌, true, cond, ◌⊎◌, List, [], ◌∷◌, length, take, Some, None, Ok, Err, sum_by, Result, ◌≢◌, slice_index_or}
use Rattle.board.specs.Entries.{calls_of, with_answers}
use Rattle.board.specs.PlainBoard.{PlainBoard, after_call, after_calls, after_end, answers_to, bit, clock_end, closed_byte, lane_standings, new_board, refusal, served_task, standing_of}
use Rattle.board.specs.declared.call.Answer.{Answer}
use Rattle.board.specs.declared.call.Answer.TheVariants.{Refused}
use Rattle.board.specs.declared.call.Call.{Call}
use Rattle.board.specs.declared.call.Call.TheVariants.{Clock, End, Post}
use Rattle.board.specs.declared.call.Entry.{Entry}
use Rattle.board.specs.declared.fault.BoardFault.{BoardFault}
use Rattle.board.specs.declared.fault.BoardFault.TheVariants.{Plan, NoLane, NoTask, Early, QueueFull, SlotOpen, SlotShut, NotServed, ClockEnd}
use Rattle.fit.specs.Lane.{Job, Reached, Releases, Standing}
use Rattle.plan.specs.Placing.{Fails, LanesAreSafe, Passes, Places, Settled, lane_of, lane_row, record_of}
use Rattle.std.specs.List.{ContainsAt}
use Rattle.tasks.specs.declared.record.TaskRecord.{TaskRecord}

-- How the tasks of a row stand: some run of the plain lane is at this clock, between two slots, and of its tasks
-- some have then released a job, as those that may do in a slot.
pub record LaneRun (row : List TaskRecord) (clock : ℕ) (standings : List Standing) : Type 0 where
  pub before : List Standing
  pub reached : Reached row (record { clock = clock; standings = before })
  pub released : Releases clock row before standings

-- Every lane of the board is a plain lane with the plan's tasks in their order, and all have one clock.
abbrev pub LanesRun : PlainBoard → Type 0
LanesRun b = (lane : ℕ) → lane < length b.lanes → LaneRun (lane_row b.tasks b.plan lane) b.clock (lane_standings b lane)

-- A job of the task waits on the board.
abbrev pub Waits : PlainBoard → ℕ → Job → Type 0
Waits b task job = ContainsAt (standing_of b task).waiting job

-- A job that a post takes waits after it: released at the post's clock, and served no slot.
abbrev pub Taken : PlainBoard → Call → Type 0
Taken b call =
    (task : ℕ) → call ≡ Post task → refusal b call ≡ None → Waits (after_call b call) task (record { release = b.clock; served = 0 })

-- No job that waits has reached its release plus its limit.
abbrev pub OnTime : PlainBoard → Type 0
OnTime b = (task : ℕ) (job : Job) → task < length b.tasks → Waits b task job → b.clock < job.release + (record_of b.tasks task).limit

-- A job closes with a call: it waits before, and no job of its task with its release waits after.
pub record Closes (b : PlainBoard) (call : Call) (task : ℕ) (job : Job) : Type 0 where
  pub inside : task < length b.tasks
  pub waits : Waits b task job
  pub gone : (other : Job) → Waits (after_call b call) task other → other.release ≢ job.release

-- It closes rightly: at a slot's end, as the job that its lane serves, the earliest of the lane's first task that has one,
-- and it said that it was finished or has now been served its whole work.
pub record Rightly (b : PlainBoard) (call : Call) (task : ℕ) (job : Job) : Type 0 where
  pub finished : ℕ
  pub at_end : call ≡ End finished
  pub served : served_task b (lane_of b.plan task) ≡ Some task
  pub earliest : take 1 (standing_of b task).waiting ≡ job ∷ []
  pub done : (bit finished (lane_of b.plan task) ≡ true) ⊎ ((record_of b.tasks task).work ≤ job.served + 1)

-- Every job that closes with the call does so rightly.
abbrev pub ClosedRightly : PlainBoard → Call → Type 0
ClosedRightly b call = (task : ℕ) (job : Job) → Closes b call task job → Rightly b call task job

-- How many jobs wait on a lane.
abbrev pub jobs_on : PlainBoard → ℕ → ℕ
jobs_on b lane = sum_by (λ (s : Standing). length s.waiting) (lane_standings b lane)

-- A slot's end takes one job from each lane whose bit is set in its answer, and none from the others.
abbrev pub ClosingsAreTold : PlainBoard → ℕ → Type 0
ClosingsAreTold b finished =
    (lane : ℕ) → lane < length b.lanes → jobs_on (after_end b finished) lane + cond (bit (closed_byte b finished) lane) 1 0 ≡ jobs_on b lane

-- The board after the first k calls of a list.
abbrev pub board_at : PlainBoard → List Call → ℕ → PlainBoard
board_at b calls k = after_calls b (take k calls)

-- At every point of the list each lane is on some run of the plain lane.
abbrev pub AlwaysRuns : PlainBoard → List Call → Type 0
AlwaysRuns b calls = (k : ℕ) → k ≤ length calls → LanesRun (board_at b calls k)

-- Every job that is taken on the way waits right after its post. From there it can only leave by closing.
abbrev pub AlwaysTaken : PlainBoard → List Call → Type 0
AlwaysTaken b calls = (k : ℕ) → k < length calls → Taken (board_at b calls k) (slice_index_or calls k Clock)

-- At no point of the list does a job wait that has reached its release plus its limit.
abbrev pub AlwaysOnTime : PlainBoard → List Call → Type 0
AlwaysOnTime b calls = (k : ℕ) → k ≤ length calls → OnTime (board_at b calls k)

-- Every job that closes on the way does so rightly.
abbrev pub AlwaysClosedRightly : PlainBoard → List Call → Type 0
AlwaysClosedRightly b calls = (k : ℕ) → k < length calls → ClosedRightly (board_at b calls k) (slice_index_or calls k Clock)

-- At every point of the list a slot's end would tell which lanes it takes a job from.
abbrev pub AlwaysTold : PlainBoard → List Call → Type 0
AlwaysTold b calls = (k finished : ℕ) → k ≤ length calls → ClosingsAreTold (board_at b calls k) finished

-- No answer refuses a job because as many of its task wait as may.
abbrev pub NeverFull : List Answer → Type 0
NeverFull answers = (task : ℕ) → ContainsAt answers (Refused (QueueFull task)) → ⊥

-- Below, `yes_to` is the fit test's set of questions with a yes, and the list has these tasks on so many lanes.
module _ (yes_to : List TaskRecord → TaskRecord → Type 0) (lanes : ℕ) (tasks : List TaskRecord) where
  -- Why no board is set up from the plan at this clock. The check comes first.
  abbrev pub NoBoard : List ℕ → ℕ → BoardFault → Type 0
  NoBoard plan start (Plan fault) = Fails yes_to lanes tasks plan fault
  NoBoard plan start (ClockEnd clock) = Passes yes_to lanes tasks plan × (clock_end < start) × (clock ≡ start)
  NoBoard plan start (NoLane lane) = ⊥
  NoBoard plan start (NoTask task) = ⊥
  NoBoard plan start (Early clock) = ⊥
  NoBoard plan start (QueueFull task) = ⊥
  NoBoard plan start (SlotOpen clock) = ⊥
  NoBoard plan start (SlotShut clock) = ⊥
  NoBoard plan start (NotServed bit) = ⊥

  -- What set up answers and leaves: a new board, or the old one as it was.
  abbrev pub SetUp : List ℕ → ℕ → PlainBoard → Result (Unit {0}) BoardFault → PlainBoard → Type 0
  SetUp plan start before (Ok _) after =
      Passes yes_to lanes tasks plan × (start ≤ clock_end) × (after ≡ new_board tasks lanes plan start)
  SetUp plan start before (Err fault) after = NoBoard plan start fault × (after ≡ before)

  -- What holds of every plan for these tasks, whoever made it, and whatever keeps the law of fit tests:
  pub record PlansAreJudged : Type 0 where
    -- on a plan that passes the check no run on any lane has a late job;
    pub passed_is_safe : (plan : List ℕ) → Passes yes_to lanes tasks plan → LanesAreSafe lanes tasks plan
    -- what place places, the check passes;
    pub placed_passes : (plan : List ℕ) → Places yes_to lanes tasks plan → Passes yes_to lanes tasks plan
    -- place, check and set up have at most one answer: one fault, with its number and place, or none. With their contracts,
    -- by which they give such an answer, each refuses exactly where one of its codes applies.
    pub one_answer : Settled yes_to lanes tasks
    pub one_board_fault : (plan : List ℕ) (start : ℕ) (f f' : BoardFault) → NoBoard plan start f → NoBoard plan start f' → f ≡ f'
    pub no_fault_no_refusal : (plan : List ℕ) (start : ℕ) (f : BoardFault) → Passes yes_to lanes tasks plan → start ≤ clock_end → NoBoard plan start f → ⊥

  -- The whole promise, for a board that was set up from the plan at this clock and given these calls.
  pub record Promise (plan : List ℕ) (start : ℕ) (calls : List Call) (answers : List Answer) (left : PlainBoard) : Type 0 where
    -- the check passed the plan, and no run on any of its lanes has a late job
    pub passed : Passes yes_to lanes tasks plan
    pub safe : LanesAreSafe lanes tasks plan
    -- each call got the answer, or the number and place, that the plain board gives to the same list
    pub answered : answers ≡ answers_to (new_board tasks lanes plan start) calls
    pub board_left : left ≡ after_calls (new_board tasks lanes plan start) calls
    -- each job taken waits on the board after its post
    pub taken : AlwaysTaken (new_board tasks lanes plan start) calls
    -- no job taken still waits once the clock has reached its release plus its limit
    pub on_time : AlwaysOnTime (new_board tasks lanes plan start) calls
    -- each closed job had said that it was finished or had been served its whole work
    pub closed_rightly : AlwaysClosedRightly (new_board tasks lanes plan start) calls

  -- What performing the calls of some entries answers and leaves: the promise, with each call's answer in its entry;
  -- or why no board is set up, and everything as it was.
  abbrev pub CameOut : List ℕ → ℕ → PlainBoard → List Entry → Result (Unit {0}) BoardFault → PlainBoard → List Entry → Type 0
  CameOut plan start before entries (Ok _) after filled =
      (answers : List Answer) × Promise plan start (calls_of entries) answers after × (filled ≡ with_answers entries answers) × (start ≤ clock_end)
  CameOut plan start before entries (Err fault) after filled =
      NoBoard plan start fault × (after ≡ before) × (filled ≡ entries)

  -- The whole promise of the call that performs a list of calls.
  pub record Performed (plan : List ℕ) (start : ℕ) (before : PlainBoard) (entries : List Entry)
      (result : Result (Unit {0}) BoardFault) (after : PlainBoard) (filled : List Entry) : Type 0 where
    -- what holds of every plan for these tasks
    pub judged : PlansAreJudged
    pub came_out : CameOut plan start before entries result after filled
