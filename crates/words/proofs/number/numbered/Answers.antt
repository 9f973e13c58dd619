use Rattle.words.proofs.Worded.{numbered_after}
use Rattle.words.proofs.number.numbered.Goals as goal

pub returns : goal.returns
returns c =
    numbered_after c.args.line.now c.args.word.now c.in_ok-after.field-0.now c.args.most c.in_ok-after.ensures c.number.result c.number.ensures
