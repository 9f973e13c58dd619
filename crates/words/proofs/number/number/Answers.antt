use Rattle.std.proofs.Common.{◌<◌, length, sym, subst, arith}
use Rattle.std.proofs.lemmas.Int.Digits.{digits_more, digits_value_more}
use Rattle.words.proofs.Values.{number-stops}
use Rattle.words.specs.Spelling.{NumberRead}
use Rattle.words.proofs.number.number.Goals as goal

pub returns-in_err-value : goal.returns-in_err-value
returns-in_err-value c =
    subst (NumberRead c.args.bytes.now c.args.most) (sym c.from_residual.ensures)
    (number-stops c.args.bytes.now c.loop-byte.byte-index c.loop-byte.value c.args.most (omega arith) c.loop-byte.invariant.2 c.in_err-value.ensures)

pub loop-byte-preserved : goal.loop-byte-preserved
loop-byte-preserved c =
    let inside : c.loop-byte.byte-index < length c.args.bytes.now = omega arith in
    let more = digits_value_more 10 c.args.bytes.now c.loop-byte.byte-index inside in (
      omega arith,
      digits_more 10 c.args.bytes.now c.loop-byte.byte-index inside c.loop-byte.invariant.1 c.in_ok-value.ensures.0.0,
      omega (arith, c.in_ok-value.ensures.1, c.loop-byte.invariant.2),
      omega (arith, c.in_ok-value.ensures.1, c.in_ok-value.ensures.0.1),
    )
