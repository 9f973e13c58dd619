-- Every closing is right.
use Rattle.board.proofs.Closing.{closed_rightly}
use Rattle.board.proofs.theorems.every_closing_is_right.Goals as goal

pub returns : goal.returns
returns c = closed_rightly
