-- What the steps of a board find and leave, task by task.
use Rattle.std.specs.Prelude.{◌≡◌, ℕ, ◌<◌, Bool, true, false, ◌&&◌, List, map, Some, None, Option, ◌==◌, slice_index_or, slice_set}
use Rattle.board.specs.PlainBoard.{first_closes}
use Rattle.board.specs.Queues.{after_slot_of, has_job, standing, stands_at}
use Rattle.board.specs.Seating.{plan_of, tasks_on}
use Rattle.board.specs.declared.jobs.Jobs.{Jobs}
use Rattle.board.specs.declared.seats.Seats.{Seats}
use Rattle.fit.specs.Lane.{Standing}
use Rattle.plan.specs.Placing.{lane_of, order, record_of}
use Rattle.std.specs.List.{find}
use Rattle.tasks.specs.declared.record.TaskRecord.{TaskRecord}

-- The first of these numbers whose task is on the lane and has a waiting job.
abbrev pub next_on : List ℕ → ℕ → List Standing → List ℕ → Option ℕ
next_on plan lane standings = find (λ n. lane_of plan n == lane && has_job (stands_at standings n))

-- The number of the task that a lane serves: the first in the order of tasks.
abbrev pub next_task : List TaskRecord → List ℕ → List Standing → ℕ → Option ℕ
next_task tasks plan standings lane = next_on plan lane standings (order tasks)

-- The same number, or both none.
abbrev pub same_number : Option ℕ → Option ℕ → Bool
same_number None None = true
same_number None (Some n) = false
same_number (Some m) None = false
same_number (Some m) (Some n) = m == n

-- These are the numbers of the tasks that the four lanes serve.
abbrev pub AreNext : List TaskRecord → List ℕ → List Standing → List (Option ℕ) → Type 0
AreNext tasks plan standings numbers = (lane : ℕ) → lane < 4 → same_number (slice_index_or numbers lane None) (next_task tasks plan standings lane) ≡ true

-- These jobs have at hand which tasks the lanes of these seats serve.
abbrev pub KnowsNext : Seats → Jobs → Type 0
KnowsNext seats jobs = AreNext (tasks_on seats) (plan_of seats) (map standing jobs.queues) jobs.next

-- How all tasks stand after one slot to this task, if there is one.
abbrev pub served_by : List TaskRecord → Bool → List Standing → Option ℕ → List Standing
served_by tasks said standings number =
    elim number [ None ↦ standings | Some n ↦ slice_set standings n (after_slot_of (record_of tasks n) said (stands_at standings n)) ]

-- Whether the job that it goes to closes with it, if there is one.
abbrev pub closed_by : List TaskRecord → Bool → List Standing → Option ℕ → Bool
closed_by tasks said standings number =
    elim number [ None ↦ false | Some n ↦ first_closes (record_of tasks n) said (stands_at standings n).waiting ]

-- One slot was given to the task that the lane serves, and to no other.
pub record SlotGiven (tasks : List TaskRecord) (plan : List ℕ) (before : List Standing) (lane : ℕ) (said closed : Bool) (after : List Standing) : Type 0 where
  pub stands : after ≡ served_by tasks said before (next_task tasks plan before lane)
  pub closes : closed ≡ closed_by tasks said before (next_task tasks plan before lane)
