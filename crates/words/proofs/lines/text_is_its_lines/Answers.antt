-- A text is its lines.
use Rattle.words.proofs.Whole.{text_is_its_lines}
use Rattle.words.proofs.lines.text_is_its_lines.Goals as goal

pub returns : goal.returns
returns c = text_is_its_lines
