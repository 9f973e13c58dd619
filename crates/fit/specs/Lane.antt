-- The plain lane: one processor that serves a row of tasks by fixed priority, slot by slot.
-- A slot is one tick of the clock. The earlier a task stands in the row, the sooner it is served.
use Rattle.std.specs.Prelude.{ℕ, ◌+◌, ◌≤◌, Bool, cond, ◌||◌, List, [], ◌∷◌, ◌++◌, map, IfSome, Some, None, Option, nat_le, slice_index_or}
use Rattle.std.specs.List.{ContainsAt}
use Rattle.tasks.specs.declared.record.TaskRecord.{TaskRecord}

-- A job that waits: the clock at its release, and the slots that it was served.
pub record Job : Type 0 where
  pub release : ℕ
  pub served : ℕ

-- How a task stands: the release of its last job, if it has had one, and its waiting jobs, the earliest released first.
pub record Standing : Type 0 where
  pub last : Option ℕ
  pub waiting : List Job

-- A lane between two slots: its clock and, beside the row, how each task stands.
pub record Lane : Type 0 where
  pub clock : ℕ
  pub standings : List Standing

-- A task that has released nothing.
abbrev pub unreleased : Standing
unreleased = record { last = None; waiting = [] }

-- A lane at its start: any clock, no job and no release.
abbrev pub fresh : ℕ → List TaskRecord → Lane
fresh clock row = record { clock = clock; standings = map (λ (t : TaskRecord). unreleased) row }

-- A task may release a job if it has released none, or if its gap has passed since its last release.
abbrev pub MayRelease : ℕ → TaskRecord → Standing → Type 0
MayRelease clock t s = IfSome s.last (λ last. last + t.gap ≤ clock)

-- The task after it released a job at this clock.
abbrev pub with_job : ℕ → Standing → Standing
with_job clock s = record { last = Some clock; waiting = s.waiting ++ (record { release = clock; served = 0 } ∷ []) }

-- Step 1 of a slot: any set of tasks, of those that may, releases one job each at the present clock.
pub data Releases (clock : ℕ) : List TaskRecord → List Standing → List Standing → Type 0 where
  no_more : Releases clock [] [] []
  stays : {t : TaskRecord} {s : Standing} {row : List TaskRecord} {ss ss' : List Standing}
      → Releases clock row ss ss' → Releases clock (t ∷ row) (s ∷ ss) (s ∷ ss')
  comes : {t : TaskRecord} {s : Standing} {row : List TaskRecord} {ss ss' : List Standing}
      → MayRelease clock t s → Releases clock row ss ss' → Releases clock (t ∷ row) (s ∷ ss) (with_job clock s ∷ ss')

-- A job after one more slot of service.
abbrev pub served_once : Job → Job
served_once j = record { release = j.release; served = j.served + 1 }

-- Step 3: a job that was just served closes if it says that it is finished, or if it has now had its whole work.
abbrev pub closes : TaskRecord → Bool → Job → Bool
closes t said j = said || nat_le t.work j.served

-- A task of which the first waiting job was served.
abbrev pub after_service : TaskRecord → Bool → Standing → Job → List Job → Standing
after_service t said s j rest =
    record { last = s.last; waiting = cond (closes t said (served_once j)) rest (served_once j ∷ rest) }

-- Steps 2 and 3: the slot goes to the earliest released waiting job of the first task in the row that has one.
-- `said` is whether that job says that it is finished.
abbrev pub serve : Bool → List TaskRecord → List Standing → List Standing
serve said [] ss = ss
serve said (t ∷ row) [] = []
serve said (t ∷ row) (s ∷ ss) =
    elim s.waiting [ [] ↦ s ∷ serve said row ss | j ∷ rest ↦ after_service t said s j rest ∷ ss ]

-- Steps 2 to 4: service, and the clock rises by one.
abbrev pub after_slot : List TaskRecord → ℕ → List Standing → Bool → Lane
after_slot row clock standings said = record { clock = clock + 1; standings = serve said row standings }

-- The states of a lane that some run reaches. A run is any list of slots, from any clock:
-- in each, any tasks that may release a job, and the job that is served says what it likes.
pub data Reached (row : List TaskRecord) : Lane → Type 0 where
  starts : (clock : ℕ) → Reached row (fresh clock row)
  slot : {l : Lane} {standings : List Standing}
      → Reached row l → Releases l.clock row l.standings standings → (said : Bool)
      → Reached row (after_slot row l.clock standings said)

-- Past the row's end stands nothing.
abbrev pub no_task : TaskRecord
no_task = record { work = 0; limit = 0; gap = 0 }

-- Some run of the row has a job of its task i (from 0) that still waits
-- when the clock has reached its release plus `time`.
pub record WaitsPast (row : List TaskRecord) (i time : ℕ) : Type 0 where
  pub lane : Lane
  pub reached : Reached row lane
  pub job : Job
  pub waits : ContainsAt (slice_index_or lane.standings i unreleased).waiting job
  pub past : job.release + time ≤ lane.clock

-- Some run of the row has a late job of its task i: it waits past its limit.
abbrev pub LateJob : List TaskRecord → ℕ → Type 0
LateJob row i = WaitsPast row i (slice_index_or row i no_task).limit

-- No run of the row makes its task i late.
abbrev pub SafeTask : List TaskRecord → ℕ → Type 0
SafeTask row i = LateJob row i → ⊥

-- No run of the lane has a late job.
abbrev pub SafeLane : List TaskRecord → Type 0
SafeLane row = (i : ℕ) → SafeTask row i
