-- What a task is: Fisher, Baruah and Baker, ECRTS 2006, section 2.1, in whole slots and in the box's ranges.
use Rattle.std.specs.Prelude.{◌≡◌, ℕ, ◌*◌, ◌%◌, ◌≤◌}
use Rattle.tasks.specs.declared.record.TaskRecord.{TaskRecord}

-- There is work, and it fits into the limit and into the gap.
abbrev pub WorkFits : TaskRecord → Type 0
WorkFits t = (1 ≤ t.work) × (t.work ≤ t.limit) × (t.work ≤ t.gap)

-- Gap and limit are in their ranges, where `widest` is the widest gap allowed. A limit may be longer than its gap.
abbrev pub InRanges : ℕ → TaskRecord → Type 0
InRanges widest t = (t.gap ≤ widest) × (t.limit ≤ 1048576) × (t.limit ≤ 4 * t.gap)

-- The bounds on work, limit and gap.
abbrev pub Bounded : ℕ → TaskRecord → Type 0
Bounded widest t = WorkFits t × InRanges widest t

-- The widest grid a list may have, and so the widest gap a task may have.
abbrev pub widest_grid : ℕ
widest_grid = 16777216

abbrev pub GridRange : ℕ → Type 0
GridRange grid = (1 ≤ grid) × (grid ≤ widest_grid)

abbrev pub LaneRange : ℕ → Type 0
LaneRange lanes = (1 ≤ lanes) × (lanes ≤ 4)

-- The gap divides the grid.
abbrev pub OnGrid : ℕ → TaskRecord → Type 0
OnGrid grid t = grid % t.gap ≡ 0

-- A task of a list with this grid.
abbrev pub Lawful : ℕ → TaskRecord → Type 0
Lawful grid t = Bounded grid t × OnGrid grid t
