-- The raised tasks so far.
use Rattle.std.proofs.Common.{◌≡◌, map, length, take}
use Rattle.fit.proofs.surcharge.Surcharge.raised_row.Given as goal
use Rattle.fit.specs.Tests.{raised}

abbrev pub invariant-loop-place : goal.invariant-loop-place
invariant-loop-place g l = (length l.dear ≡ 31) × (take l.place l.dear ≡ map (raised l.self.cost) (take l.place l.question.row.now))
