-- What is asked for grows with the time, so each step stays at or before every time with room.
use Rattle.std.proofs.Common.{arith}
use Rattle.fit.specs.Rounding.{no_sooner}
use Rattle.fit.proofs.exact.enough_time.Goals as goal

pub loop-time-init : goal.loop-time-init
loop-time-init c =
    (omega arith, λ t one room. omega (arith, no_sooner c.args.question.now.row.now c.args.question.now.asked 1 t c.args.question.now.askable one room))

pub loop-time-preserved : goal.loop-time-preserved
loop-time-preserved c = (
  omega arith,
  λ t one room. omega (arith, no_sooner c.args.question.now.row.now c.args.question.now.asked c.loop-time.time t c.args.question.now.askable (c.loop-time.invariant.1 t one room) room),
)
