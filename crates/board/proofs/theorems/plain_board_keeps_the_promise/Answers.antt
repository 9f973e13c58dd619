-- The plain board keeps the promise, by the fit test's law.
use Rattle.std.proofs.Common.{refl}
use Rattle.board.proofs.Kept.{promise_kept}
use Rattle.board.proofs.Lawful.{works_fit}
use Rattle.board.proofs.theorems.plain_board_keeps_the_promise.Goals as goal

pub returns : goal.returns
returns g c grid lanes tasks plan start calls lawful passes =
    promise_kept _ lanes tasks (g.met.F.FitTest.safe c.args.test.now) (works_fit grid tasks lawful) plan start passes calls _ _ refl refl
