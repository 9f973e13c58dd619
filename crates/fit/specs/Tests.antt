-- The questions that each fit test answers with yes.
-- A task has work e, limit d and gap p; those of the row are e_j, d_j and p_j.
use Rattle.std.specs.Prelude.{◌≡◌, ℕ, ◌+◌, ◌*◌, ◌/◌, ◌%◌, ◌≤◌, min, ◌⊎◌, List, map, length, Ok, Err, sum_by, Result}
use Rattle.std.specs.List.{AllByRecursion}
use Rattle.tasks.specs.Task.{Bounded, OnGrid, widest_grid}
use Rattle.tasks.specs.declared.fault.ListFault.{ListFault}
use Rattle.tasks.specs.declared.fault.ListFault.TheVariants.{OutOfRange}
use Rattle.tasks.specs.declared.fault.Setting.{Setting}
use Rattle.tasks.specs.declared.record.TaskRecord.{TaskRecord}

-- What is asked of a question before any rule: a row of at most 31 tasks, and each task within its bounds.
pub record Askable (row : List TaskRecord) (asked : TaskRecord) : Type 0 where
  pub short : length row ≤ 31
  pub row_bounded : AllByRecursion (Bounded widest_grid) row
  pub asked_bounded : Bounded widest_grid asked

-- ---- Linear

-- A task's utilization e/p, counted in parts of the grid: e * (G/p).
abbrev pub share : ℕ → TaskRecord → ℕ
share grid t = t.work * (grid / t.gap)

-- The bound e + (e/p) * time on the work that a task asks for within a time
-- (Fisher, Baruah and Baker, ECRTS 2006, equation 3), counted in parts of the grid: G*e + e*(G/p)*time.
abbrev pub line : ℕ → ℕ → TaskRecord → ℕ
line grid time t = grid * t.work + share grid t * time

-- The linear test: both of its inequalities, times the grid.
pub record LinearYes (grid : ℕ) (row : List TaskRecord) (asked : TaskRecord) : Type 0 where
  pub askable : Askable row asked
  pub row_on_grid : AllByRecursion (OnGrid grid) row
  pub asked_on_grid : OnGrid grid asked
  -- Fisher, Baruah and Baker, ECRTS 2006, inequality 5: G*e + Σ (G*e_j + e_j*(G/p_j)*d) ≤ G*d
  pub in_time : grid * asked.work + sum_by (line grid asked.limit) row ≤ grid * asked.limit
  -- Fisher, Baruah and Baker, ECRTS 2006, inequality 6: e*(G/p) + Σ e_j*(G/p_j) ≤ G
  pub shares : share grid asked + sum_by (share grid) row ≤ grid

-- ---- Exact

-- ⌈time/gap⌉: the whole gaps in the time, and one more where something is left over.
abbrev pub rounded_up : ℕ → ℕ → ℕ
rounded_up time gap = time / gap + min 1 (time % gap)

-- k is the least whole number with time ≤ k * gap.
pub record LeastCover (time gap k : ℕ) : Type 0 where
  pub covers : time ≤ k * gap
  pub least : (fewer : ℕ) → time ≤ fewer * gap → k ≤ fewer

-- That is what rounding up gives.
abbrev pub RoundingUpCovers : Type 0
RoundingUpCovers = (time gap : ℕ) → 1 ≤ gap → LeastCover time gap (rounded_up time gap)

-- The work ⌈time/p⌉ * e that a task asks for within a time, at most
-- (Fisher, Baruah and Baker, ECRTS 2006, equation 2).
abbrev pub requests : ℕ → TaskRecord → ℕ
requests time t = rounded_up time t.gap * t.work

-- Some whole time from 1 to the limit has room for all that the asked task and the row ask for within it.
pub record EnoughTime (row : List TaskRecord) (asked : TaskRecord) : Type 0 where
  pub time : ℕ
  pub from_one : 1 ≤ time
  pub to_limit : time ≤ asked.limit
  -- e + Σ ⌈time/p_j⌉*e_j ≤ time
  pub room : asked.work + sum_by (requests time) row ≤ time

-- The exact test (the response-time test of Audsley, Burns, Richardson and Wellings, 1991).
pub record ExactYes (row : List TaskRecord) (asked : TaskRecord) : Type 0 where
  pub askable : Askable row asked
  pub limit_in_gap : asked.limit ≤ asked.gap
  pub enough_time : EnoughTime row asked

-- ---- Surcharge

-- The switch costs that a surcharge may hold.
abbrev pub CostRange : ℕ → Type 0
CostRange cost = cost ≤ 1000

-- A task with the switch cost added to its work.
abbrev pub raised : ℕ → TaskRecord → TaskRecord
raised cost t = record { work = t.work + cost; limit = t.limit; gap = t.gap }

-- The raised work passes neither the task's limit nor its gap.
abbrev pub Room : ℕ → TaskRecord → Type 0
Room cost t = (t.work + cost ≤ t.limit) × (t.work + cost ≤ t.gap)

-- The surcharge: the tasks as handed over are judged first, then the raised ones, then the test below is asked about these.
pub record SurchargeYes (cost : ℕ) (yes_below : List TaskRecord → TaskRecord → Type 0) (row : List TaskRecord) (asked : TaskRecord)
    : Type 0 where
  pub askable : Askable row asked
  pub row_room : AllByRecursion (Room cost) row
  pub asked_room : Room cost asked
  pub below : yes_below (map (raised cost) row) (raised cost asked)

-- ---- Either

-- At least one of two tests says yes.
abbrev pub EitherYes : (one other : List TaskRecord → TaskRecord → Type 0) → List TaskRecord → TaskRecord → Type 0
EitherYes one other row asked = one row asked ⊎ other row asked

-- ---- Settings

-- What comes of a test's setting: a test that holds it where it lies in its range, and else the refusal that names it.
abbrev pub Held : {X : Type 0} → Type 0 → Setting → (X → Type 0) → Result X ListFault → Type 0
Held range setting holds (Ok test) = range × holds test
Held range setting holds (Err fault) = (range → ⊥) × (fault ≡ OutOfRange setting)
