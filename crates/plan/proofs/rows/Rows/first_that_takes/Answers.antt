-- The lanes are asked one after the other.
use Rattle.std.proofs.Common.{rules, tests}
use Rattle.std.proofs.lemmas.Iterator.{first_from_Range}
use Rattle.plan.specs.Steps.{row_on}
use Rattle.plan.proofs.FirstFit.{first_taken}
use Rattle.plan.proofs.rows.Rows.first_that_takes.Goals as goal

pub returns : goal.returns
returns g c =
    let yes_to = g.F.FitTest.yes c.args.test.now in
    let rows = c.args.self.now.lanes in
    first_taken yes_to rows c.args.lanes c.args.asked c.find.result
    (first_from_Range _ _ _ _ (λ lane. yes_to (row_on rows lane) c.args.asked) (λ lane. yes_to (row_on rows lane) c.args.asked → ⊥) c.find.ensures.ran
    (λ x q k. search (rules, tests))
    (λ x q k. (search rules, search (rules, tests))))
