-- What is proved of every run of a plain lane. The functions of `theorems` have these statements for contracts.
use Rattle.std.specs.Prelude.{◌≡◌, ℕ, ◌+◌, ◌*◌, ◌<◌, ◌≤◌, List, [], ◌∷◌, ◌++◌, length, get_or, take, Some, sum_by, slice_index_or}
use Rattle.std.specs.List.{AllZip, AllByRecursion}
use Rattle.tasks.specs.declared.record.TaskRecord.{TaskRecord}
use Rattle.fit.specs.Lane.{Job, Lane, unreleased, MayRelease, Reached, WaitsPast, LateJob, SafeTask, SafeLane, no_task}

-- The lane of a row's tasks alone: the same clock, and their standings.
abbrev pub alone : List TaskRecord → Lane → Lane
alone row l = record { clock = l.clock; standings = take (length row) l.standings }

-- Lower tasks never disturb higher ones: the first tasks of a lane, in any run of it, make a run of the lane of those tasks alone.
abbrev pub LowerTasksNeverDisturb : Type 0
LowerTasksNeverDisturb = (row below : List TaskRecord) (l : Lane) → Reached (row ++ below) l → Reached row (alone row l)

-- So a job of theirs that waits for some time does so in a run of those tasks alone.
abbrev pub WaitsAlone : Type 0
WaitsAlone =
    (row below : List TaskRecord) (i time : ℕ) → i < length row → WaitsPast (row ++ below) i time → WaitsPast row i time

-- The lane of the row's first k tasks, and then its task k.
abbrev pub up_to : List TaskRecord → ℕ → List TaskRecord
up_to row k = take k row ++ (slice_index_or row k no_task ∷ [])

-- A lane is safe if each of its tasks is, at the end of the lane of those before it.
abbrev pub SafeInTurn : Type 0
SafeInTurn = (row : List TaskRecord) → ((k : ℕ) → k < length row → SafeTask (up_to row k) k) → SafeLane row

-- A task with the same limit and gap, and with at least the work.
abbrev pub Raises : TaskRecord → TaskRecord → Type 0
Raises t raised = (t.work ≤ raised.work) × (raised.limit ≡ t.limit) × (raised.gap ≡ t.gap)

-- A row with the same limits and gaps, place by place, and with at least the works.
abbrev pub Raised : List TaskRecord → List TaskRecord → Type 0
Raised row raised = AllZip Raises row raised

-- With larger works a job that can wait for some time still can: it may say that it is finished where it was.
abbrev pub LargerWorksWaitNoLess : Type 0
LargerWorksWaitNoLess =
    (row raised : List TaskRecord) (i time : ℕ) → Raised row raised → WaitsPast row i time → WaitsPast raised i time

-- So a task that is safe with larger works is safe.
abbrev pub SafeWithLargerWorks : Type 0
SafeWithLargerWorks = (row raised : List TaskRecord) (i : ℕ) → Raised row raised → SafeTask raised i → SafeTask row i

-- A task with some work and a gap.
abbrev pub Proper : TaskRecord → Type 0
Proper t = (1 ≤ t.work) × (1 ≤ t.gap)

-- A task's share of the scale is at least the fraction of the lane that it can use: share / scale ≥ work / gap.
abbrev pub Covers : ℕ → (TaskRecord → ℕ) → TaskRecord → Type 0
Covers scale share t = scale * t.work ≤ share t * t.gap

-- The share rule. If the asked task's work and, of each task above it, its work and its share of `time`
-- fit within `time`, and all shares fit within the scale, then no job of the asked task waits for `time`.
-- With scale and shares as the exact fractions: Fisher, Baruah and Baker, ECRTS 2006, inequalities 5 and 6.
abbrev pub SharesBoundWaiting : Type 0
SharesBoundWaiting =
    (scale : ℕ) (share : TaskRecord → ℕ) (row : List TaskRecord) (asked : TaskRecord) (time : ℕ) →
    1 ≤ scale →
    AllByRecursion Proper row →
    Proper asked →
    AllByRecursion (Covers scale share) row →
    Covers scale share asked →
    scale * asked.work + sum_by (λ t. scale * t.work + share t * time) row ≤ scale * time →
    share asked + sum_by share row ≤ scale →
    WaitsPast (row ++ (asked ∷ [])) (length row) time →
    ⊥

-- The exact rule. `count t` jobs of a task t above cover any `time` slots: count t ≥ ⌈time / gap⌉.
-- If the asked task's work and all works of so many jobs fit within `time`, and its gap is no shorter than `time`,
-- then no job of the asked task waits for `time`.
abbrev pub CountsBoundWaiting : Type 0
CountsBoundWaiting =
    (row : List TaskRecord) (asked : TaskRecord) (time : ℕ) (count : TaskRecord → ℕ) →
    time ≤ asked.gap →
    AllByRecursion Proper row →
    Proper asked →
    AllByRecursion (λ t. time ≤ count t * t.gap) row →
    asked.work + sum_by (λ t. count t * t.work) row ≤ time →
    WaitsPast (row ++ (asked ∷ [])) (length row) time →
    ⊥

-- Each task of the row was accepted over those before it, where these are the questions with a yes.
abbrev pub AcceptedInTurn : (List TaskRecord → TaskRecord → Type 0) → List TaskRecord → Type 0
AcceptedInTurn yes_to row = (k : ℕ) → k < length row → yes_to (take k row) (slice_index_or row k no_task)

-- A lane whose every task was accepted over those before it has no late job in any run.
abbrev pub AcceptedLanesAreSafe : (List TaskRecord → TaskRecord → Type 0) → Type 0
AcceptedLanesAreSafe yes_to = (row : List TaskRecord) → AcceptedInTurn yes_to row → SafeLane row

-- A safe task never has more jobs than places, where that many gaps cover its limit:
-- whenever it may release a job, fewer wait.
abbrev pub RoomForARelease : Type 0
RoomForARelease =
    (row : List TaskRecord) (i places : ℕ) (l : Lane) →
    SafeTask row i →
    1 ≤ places →
    (get_or row i no_task).limit ≤ places * (get_or row i no_task).gap →
    Reached row l →
    MayRelease l.clock (slice_index_or row i no_task) (slice_index_or l.standings i unreleased) →
    length (get_or l.standings i unreleased).waiting < places

-- A task with this work, limit and gap.
abbrev pub task : ℕ → ℕ → ℕ → TaskRecord
task work limit gap = record { work = work; limit = limit; gap = gap }

-- The model is alive: two tasks that each want every slot, and a run in which the second is late.
abbrev pub OverfullLaneIsLate : Type 0
OverfullLaneIsLate = LateJob (task 1 1 1 ∷ task 1 1 1 ∷ []) 1

-- The lane of one task that released a job at clock 0, at clock 1, with these jobs waiting.
abbrev pub at_clock_1 : List Job → Lane
at_clock_1 waiting = record { clock = 1; standings = record { last = Some 0; waiting = waiting } ∷ [] }

-- The model is alive: a job of work 2 that says after one slot that it is finished is closed,
-- and one that does not say so still waits.
abbrev pub AJobMayFinishEarly : Type 0
AJobMayFinishEarly =
    Reached (task 2 2 2 ∷ []) (at_clock_1 []) ×
    Reached (task 2 2 2 ∷ []) (at_clock_1 (record { release = 0; served = 1 } ∷ []))
