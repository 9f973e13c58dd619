use Rattle.words.proofs.Worded.{hexed_after}
use Rattle.words.proofs.hex.hexed.Goals as goal

pub returns : goal.returns
returns c = hexed_after c.args.line.now c.args.word.now c.in-Some.digits.now c.in-Some.ensures c.hex.result c.hex.ensures
