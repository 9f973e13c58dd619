-- The lines of the row are at most 2^45 each, since a limit is at most 2^20.
use Rattle.std.proofs.Common.{◌≡◌, ◌^◌, rules, sum_by, arith}
use Rattle.fit.proofs.Bounds.{line-bound, sum-bound}
use Rattle.fit.specs.Tests.{line}
use Rattle.fit.proofs.linear.Linear.lines_of.Goals as goal

pub returns-clause-bound : goal.returns-clause-bound
returns-clause-bound c =
    let grid = c.args.self.now.grid in
    let limit = c.args.question.now.asked.limit in
    let is : c.sum.result ≡ sum_by (line grid limit) c.args.question.now.row.now = search rules in
    omega (
      arith,
      is,
      sum-bound (line grid limit) (2 ^ 45) c.args.question.now.row.now (omega arith) c.args.question.now.row_bounded
          (line-bound grid limit (2 ^ 20) c.args.self.now.in_range (omega arith)),
    )
