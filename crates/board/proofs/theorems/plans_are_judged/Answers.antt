-- What holds of every plan, by the fit test's law.
use Rattle.board.proofs.Judged.{plans_are_judged}
use Rattle.board.proofs.theorems.plans_are_judged.Goals as goal

pub returns : goal.returns
returns g c lanes tasks = plans_are_judged _ lanes tasks (g.met.F.FitTest.safe c.args.test.now)
