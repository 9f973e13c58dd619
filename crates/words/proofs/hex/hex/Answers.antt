use Rattle.std.proofs.Common.{◌<◌, length, get_or, ◌/◌, vec_items, sym, ◌∙◌, arith}
use Rattle.words.proofs.Pairs.{digits_of_chunk, pairs-more}
use Rattle.words.proofs.hex.hex.Goals as goal

pub returns-in_default : goal.returns-in_default
returns-in_default c = λ bytes hex.
    let k = c.loop-high.high-index in
    let below : k < length c.args.text.now / 2 = omega (arith, c.as_chunks.ensures.front_len) in
    let digits = digits_of_chunk c.args.text.now c.as_chunks.result.0.now k c.as_chunks.ensures.front below in
    c.in_default.ensures (get_or bytes k 0) (rw digits.0 (rw digits.1 (hex.pairs k (omega (arith, hex.long)))))

pub loop-high-preserved : goal.loop-high-preserved
loop-high-preserved c =
    let k = c.loop-high.high-index in
    let below : k < length c.args.text.now / 2 = omega (arith, c.as_chunks.ensures.front_len) in
    let digits = digits_of_chunk c.args.text.now c.as_chunks.result.0.now k c.as_chunks.ensures.front below in (
      omega (arith, c.in_ok-push.ensures.len),
      pairs-more c.args.text.now (vec_items c.loop-high.bytes) (vec_items c.push.new.self) k _ (sym c.loop-high.bytes.ok.0 ∙ c.loop-high.invariant.0) c.in_ok-push.ensures.items c.loop-high.invariant.1
          (rw (← digits.0) (rw (← digits.1) c.in-Some.ensures)),
    )
