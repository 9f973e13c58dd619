-- Each read goes on where the last one ended.
use Rattle.std.proofs.Common.{◌≡◌, ◌-◌, length, take, sym, subst, arith, rules}
use Rattle.std.specs.Io.KnownBytes.{Consumes}
use Rattle.words.proofs.Reading.{filled_more, length-put, more_consumed}
use Rattle.words.proofs.input.fill.Goals as goal

pub loop-filled-preserved : goal.loop-filled-preserved
loop-filled-preserved g c =
    let a = c.loop-filled.filled in
    let n = c.in_ok-count.count in
    let known = g.R.Read.remaining in
    let xs = c.loop-filled.buffer in
    let ys = c.read.new.buf in
    let part : length ys ≡ length xs - a = search rules in
    let long = length-put a xs ys (omega arith) part in (
      omega (arith, long, part, c.in_ok-count.ensures.bound.0),
      omega (arith, long),
      subst (Consumes (known c.args.input.now) (known c.read.new.self)) (sym (filled_more a n xs ys (omega arith) c.in_ok-count.ensures.bound.0))
          (more_consumed (known c.args.input.now) (known c.loop-filled.input) (known c.read.new.self) (take a xs) (take n ys) c.loop-filled.invariant.2 c.in_ok-count.ensures.bytes.0),
    )
