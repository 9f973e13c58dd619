use Rattle.script.specs.Headings.{FitOfRead, most_32}
use Rattle.std.proofs.Common.{sym, subst, None}
use Rattle.words.specs.Spelling.{NumberedRead}
use Rattle.script.proofs.headings.fit_of.Goals as goal

pub returns-in_err-cost : goal.returns-in_err-cost
returns-in_err-cost c =
    subst (FitOfRead c.args.line.now c.args.test) (sym c.from_residual.ensures)
    (subst (λ word. NumberedRead c.args.line.now word most_32 None) c.word.ensures c.in_err-cost.ensures)
