-- What the tasks of a list have that a board needs: works that fit, and limits of at most four gaps.
use Rattle.std.proofs.Common.{ℕ, List}
use Rattle.std.specs.List.{AllByRecursion}
use Rattle.std.proofs.ByRecursion.{All-get_or}
use Rattle.tasks.specs.List.{blank}
use Rattle.tasks.specs.Task.{Lawful}
use Rattle.tasks.specs.declared.record.TaskRecord.{TaskRecord}
use Rattle.board.proofs.NeverFull.{LimitsCovered}
use Rattle.board.proofs.Run.{WorksFit}

pub works_fit : (grid : ℕ) (tasks : List TaskRecord) → AllByRecursion (Lawful grid) tasks → WorksFit tasks
works_fit grid tasks lawful task h = (All-get_or (Lawful grid) tasks task blank h lawful).0.0

pub limits_covered : (grid : ℕ) (tasks : List TaskRecord) → AllByRecursion (Lawful grid) tasks → LimitsCovered tasks
limits_covered grid tasks lawful task h = (All-get_or (Lawful grid) tasks task blank h lawful).0.1.2
