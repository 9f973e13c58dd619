use Rattle.std.proofs.Common.{length}
use Rattle.sheet.specs.Reading.{unread}
use Rattle.tasks.proofs.Scan.{UnderWay}
use Rattle.tasks.proofs.read.scan.Given as goal

abbrev pub invariant-loop-sheet : goal.invariant-loop-sheet
invariant-loop-sheet l = UnderWay l.bytes l.asked l.sheet l.list l.name

abbrev pub decreases-loop-sheet : goal.decreases-loop-sheet
decreases-loop-sheet l = length (unread l.sheet)
