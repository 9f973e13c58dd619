-- How a task stands, read off its queue, and what the queue's steps leave.
use Rattle.std.specs.Prelude.{◌≡◌, ℕ, ◌<◌, ◌≤◌, Bool, true, false, List, [], ◌∷◌, map, length, Ok, Err, Result, slice_index_or, slice_set}
use Rattle.board.specs.Releases.{released_before}
use Rattle.board.specs.declared.task_queue.TaskQueue.{TaskQueue}
use Rattle.fit.specs.Lane.{Job, Standing, after_service, unreleased, with_job}
use Rattle.queue.specs.InOrder.{in_order}
use Rattle.queue.specs.Queue.{held}
use Rattle.tasks.specs.declared.record.TaskRecord.{TaskRecord}

-- The jobs of these releases: only the first has been served.
abbrev pub unserved : ℕ → Job
unserved r = record { release = r; served = 0 }

abbrev pub jobs_of : ℕ → List ℕ → List Job
jobs_of served [] = []
jobs_of served (r ∷ rs) = record { release = r; served = served } ∷ map unserved rs

-- How the task stands: its waiting jobs are those of the queue, in the order of their releases.
unfoldable pub standing : TaskQueue → Standing
standing q = record { last = q.last; waiting = jobs_of q.served (in_order released_before (held q.places)) }

abbrev pub has_job : Standing → Bool
has_job s = elim s.waiting [ [] ↦ false | job ∷ jobs ↦ true ]

-- A job was taken, or four wait already and nothing changed.
abbrev pub TakenIn : {E : Type 0} → TaskQueue → ℕ → Result (Unit {0}) E → TaskQueue → Type 0
TakenIn q clock (Ok _) q' = (length (standing q).waiting < 4) × (standing q' ≡ with_job clock (standing q))
TakenIn q clock (Err _) q' = (4 ≤ length (standing q).waiting) × (q' ≡ q)

-- The task after one slot of service to its earliest waiting job, if it has one.
abbrev pub after_slot_of : TaskRecord → Bool → Standing → Standing
after_slot_of t said s = elim s.waiting [ [] ↦ s | job ∷ jobs ↦ after_service t said s job jobs ]

-- How the task of this number stands, of tasks that stand so.
abbrev pub stands_at : List Standing → ℕ → Standing
stands_at standings number = slice_index_or standings number unreleased

-- A job of one task was taken, or four wait already; every other task stands as before.
abbrev pub JobTaken : {E : Type 0} → List Standing → ℕ → ℕ → Result (Unit {0}) E → List Standing → Type 0
JobTaken before number clock (Ok _) after =
    (length (stands_at before number).waiting < 4) × (after ≡ slice_set before number (with_job clock (stands_at before number)))
JobTaken before number clock (Err _) after = (4 ≤ length (stands_at before number).waiting) × (after ≡ before)
