-- What place answers for the list that was read.
use Rattle.std.proofs.lemmas.Result.{err_from_is_err_and}
use Rattle.bench_exports.proofs.Read.{placed_list}
use Rattle.bench_exports.specs.Measured.PlacedEither.{unreadable}
use Rattle.bench_exports.proofs.place_either.Goals as goal

pub returns-in_err-read : goal.returns-in_err-read
returns-in_err-read c =
    let p = err_from_is_err_and c.from_residual.result c.from_residual.ensures.1 in
    rw (p.1, p.2) (unreadable c.in_err-read.field-0.0 c.in_err-read.ensures.0)

pub returns : goal.returns
returns c =
    let read = c.in_ok-read.ensures in
    placed_list c.args.sheet.now c.read.new.self read.0 read.1 read.2 c.args.plan.now
    c.either_over.result.first.grid c.either_over.ensures c.place.result c.place.new.plan c.place.ensures
