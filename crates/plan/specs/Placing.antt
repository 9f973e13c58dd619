-- What a plan is, what place and check answer, and what a plan that passes the check promises.
-- A plan is a list of bytes: the byte at a task's number is the task's lane.
use Rattle.std.specs.Prelude.{◌≡◌, ℕ, suc, ◌<◌, ◌≤◌, true, ◌≢◌, List, [], ◌∷◌, map, length, take, Ok, Err, filter, Result, nat_eq, slice_index, slice_index_or}
use Rattle.fit.specs.Lane.{SafeLane}
use Rattle.plan.specs.declared.fault.PlanFault.{PlanFault}
use Rattle.plan.specs.declared.fault.PlanFault.TheVariants.{List as OfList, PlanLength, NoLane, NoFit}
use Rattle.queue.specs.InOrder.{in_order}
use Rattle.tasks.specs.List.{blank}
use Rattle.tasks.specs.Order.{goes_before, rank_of}
use Rattle.tasks.specs.declared.order.Rank.{Rank}
use Rattle.tasks.specs.declared.record.TaskRecord.{TaskRecord}

-- The ranks of tasks that are numbered from `next` on.
abbrev pub ranks_from : ℕ → List TaskRecord → List Rank
ranks_from next [] = []
ranks_from next (t ∷ tasks) = record { limit = t.limit; number = next } ∷ ranks_from (suc next) tasks

-- The numbers of all tasks in the order of tasks.
abbrev pub order : List TaskRecord → List ℕ
order tasks = map (λ (r : Rank). r.number) (in_order goes_before (ranks_from 0 tasks))

-- The number of the task whose turn is the k-th, and the numbers of those before it in the order.
abbrev pub turn : List TaskRecord → ℕ → ℕ
turn tasks k = slice_index (order tasks) k

abbrev pub earlier : List TaskRecord → ℕ → List ℕ
earlier tasks k = take k (order tasks)

abbrev pub record_of : List TaskRecord → ℕ → TaskRecord
record_of tasks number = slice_index_or tasks number blank

abbrev pub lane_of : List ℕ → ℕ → ℕ
lane_of plan number = slice_index plan number

-- The tasks among these numbers that the plan has on this lane, in the same order.
abbrev pub row_among : List TaskRecord → List ℕ → ℕ → List ℕ → List TaskRecord
row_among tasks plan lane numbers = map (record_of tasks) (filter (λ number. nat_eq (lane_of plan number) lane) numbers)

-- All tasks of a lane, in their order.
abbrev pub lane_row : List TaskRecord → List ℕ → ℕ → List TaskRecord
lane_row tasks plan lane = row_among tasks plan lane (order tasks)

-- No run on any of the plan's lanes has a late job.
abbrev pub LanesAreSafe : ℕ → List TaskRecord → List ℕ → Type 0
LanesAreSafe lanes tasks plan = (lane : ℕ) → lane < lanes → SafeLane (lane_row tasks plan lane)

-- Below, `yes_to` is the fit test's set of questions with a yes, and the box has `lanes` lanes.
module _ (yes_to : List TaskRecord → TaskRecord → Type 0) (lanes : ℕ) (tasks : List TaskRecord) where
  -- The test says yes to the task whose turn is the k-th, over the tasks before it that are on this lane.
  abbrev pub Takes : List ℕ → ℕ → ℕ → Type 0
  Takes plan lane k = yes_to (row_among tasks plan lane (earlier tasks k)) (record_of tasks (turn tasks k))

  -- Its own lane takes the task whose turn is the k-th.
  abbrev pub Fits : List ℕ → ℕ → Type 0
  Fits plan k = Takes plan (lane_of plan (turn tasks k)) k

  -- Every task has a lane of the box.
  abbrev pub OnLanes : List ℕ → Type 0
  OnLanes plan = (number : ℕ) → number < length tasks → lane_of plan number < lanes

  -- The check passes the plan: a byte for each task, every task on a lane of the box,
  -- and each accepted over those before it on its lane.
  pub record Passes (plan : List ℕ) : Type 0 where
    pub long : length plan ≡ length tasks
    pub on_lanes : OnLanes plan
    pub fits : (k : ℕ) → k < length tasks → Fits plan k

  -- The check refuses the plan, each fault only where none above it applies.
  abbrev pub Fails : List ℕ → PlanFault → Type 0
  Fails plan (PlanLength found) = (length plan ≢ length tasks) × (found ≡ length plan)
  Fails plan (NoLane number) =
      (length plan ≡ length tasks) × (number < length tasks) × (lanes ≤ lane_of plan number) × ((lower : ℕ) → lower < number → lane_of plan lower < lanes)
  Fails plan (NoFit number) =
      (k : ℕ) × (k < length tasks) × (number ≡ turn tasks k) × (Fits plan k → ⊥) × (length plan ≡ length tasks) × OnLanes plan × ((sooner : ℕ) → sooner < k → Fits plan sooner)
  Fails plan (OfList fault) = ⊥

  -- First fit, for the task whose turn is the k-th: its lane takes it, and every lower lane does not.
  -- Fisher, Baruah and Baker, ECRTS 2006, section 3.1.
  pub record FirstFit (plan : List ℕ) (k : ℕ) : Type 0 where
    pub on_lane : lane_of plan (turn tasks k) < lanes
    pub fits : Fits plan k
    pub lower_refuse : (lane : ℕ) → lane < lane_of plan (turn tasks k) → Takes plan lane k → ⊥

  -- The plan places every task by first fit.
  pub record Places (plan : List ℕ) : Type 0 where
    pub long : length plan ≡ length tasks
    pub first_fit : (k : ℕ) → k < length tasks → FirstFit plan k

  -- There is no placing by first fit into bytes `plan`: they are not one for each task, or, the tasks before it in the order
  -- being placed by first fit (by some `begun`), no lane takes the task.
  abbrev pub CannotPlace : List ℕ → PlanFault → Type 0
  CannotPlace plan (PlanLength found) = (length plan ≢ length tasks) × (found ≡ length plan)
  CannotPlace plan (NoFit number) =
      (k : ℕ) × (begun : List ℕ) × (length plan ≡ length tasks) × (k < length tasks) × (number ≡ turn tasks k) × ((sooner : ℕ) → sooner < k → FirstFit begun sooner) × ((lane : ℕ) → lane < lanes → Takes begun lane k → ⊥)
  CannotPlace plan (NoLane number) = ⊥
  CannotPlace plan (OfList fault) = ⊥

  -- What the check answers. A plan that passes has no late job on any lane, in any run:
  -- Fisher, Baruah and Baker, ECRTS 2006, Theorem 1.
  abbrev pub Checked : List ℕ → Result (Unit {0}) PlanFault → Type 0
  Checked plan (Ok _) = Passes plan × LanesAreSafe lanes tasks plan
  Checked plan (Err fault) = Fails plan fault

  -- What place answers and leaves. A plan that it makes passes the check under the same test;
  -- a refusal leaves the plan's bytes as they were.
  abbrev pub Placed : List ℕ → Result (Unit {0}) PlanFault → List ℕ → Type 0
  Placed before (Ok _) after = Places after × Passes after
  Placed before (Err fault) after = CannotPlace before fault × (after ≡ before)

-- The order lists every task once, and each goes before the next.
pub record OrderOfTasks (tasks : List TaskRecord) : Type 0 where
  pub all : length (order tasks) ≡ length tasks
  pub every : (number : ℕ) → number < length tasks → (k : ℕ) × (k < length tasks) × (turn tasks k ≡ number)
  pub rising : (j k : ℕ) → j < k → k < length tasks
      → goes_before (rank_of tasks (turn tasks j)) (rank_of tasks (turn tasks k)) ≡ true

-- The answers of place and check are settled, whatever the test: at most one of them holds.
pub record Settled (yes_to : List TaskRecord → TaskRecord → Type 0) (lanes : ℕ) (tasks : List TaskRecord) : Type 0 where
  pub one_check_fault : (plan : List ℕ) (f f' : PlanFault) → Fails yes_to lanes tasks plan f → Fails yes_to lanes tasks plan f' → f ≡ f'
  pub no_fault_passes : (plan : List ℕ) (f : PlanFault) → Fails yes_to lanes tasks plan f → Passes yes_to lanes tasks plan → ⊥
  pub one_placing : (plan plan' : List ℕ) → Places yes_to lanes tasks plan → Places yes_to lanes tasks plan' → plan ≡ plan'
  pub one_place_fault : (plan : List ℕ) (f f' : PlanFault) → CannotPlace yes_to lanes tasks plan f → CannotPlace yes_to lanes tasks plan f' → f ≡ f'
  pub no_fault_placed : (before plan : List ℕ) (f : PlanFault) → length before ≡ length tasks → CannotPlace yes_to lanes tasks before f → Places yes_to lanes tasks plan → ⊥
