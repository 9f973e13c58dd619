-- The shares of the row are at most the grid each.
use Rattle.std.proofs.Common.{◌≡◌, rules, sum_by, arith}
use Rattle.fit.proofs.Bounds.{share-bound, sum-bound}
use Rattle.fit.specs.Tests.{share}
use Rattle.fit.proofs.linear.Linear.shares_of.Goals as goal

pub returns-clause-bound : goal.returns-clause-bound
returns-clause-bound c =
    let grid = c.args.self.now.grid in
    let is : c.sum.result ≡ sum_by (share grid) c.args.question.now.row.now = search rules in
    omega (arith, is, sum-bound (share grid) grid c.args.question.now.row.now (omega arith) c.args.question.now.row_bounded (share-bound grid))
