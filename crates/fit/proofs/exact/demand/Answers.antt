-- What the tasks of the row ask for is at most 2^52 each, and 2^40 within the longest limit.
use Rattle.std.proofs.Common.{◌≡◌, ◌^◌, rules, sum_by, arith}
use Rattle.fit.proofs.Bounds.{requests-bound, sum-bound}
use Rattle.fit.specs.Tests.{requests}
use Rattle.fit.proofs.exact.demand.Goals as goal

pub overflow_add-result : goal.overflow_add-result
overflow_add-result c =
    let is : c.sum-row.result ≡ sum_by (requests c.args.time) c.args.question.now.row.now = search rules in
    record { fits = omega (arith, is, sum-bound (requests c.args.time) (2 ^ 52) c.args.question.now.row.now (omega arith) c.args.question.now.row_bounded (requests-bound c.args.time (2 ^ 32) (omega arith))) }

pub returns-clause-small : goal.returns-clause-small
returns-clause-small c = λ short.
    let is : c.sum-row.result ≡ sum_by (requests c.args.time) c.args.question.now.row.now = search rules in
    omega (arith, is, sum-bound (requests c.args.time) (2 ^ 40) c.args.question.now.row.now (omega arith) c.args.question.now.row_bounded (requests-bound c.args.time (2 ^ 20) short))
