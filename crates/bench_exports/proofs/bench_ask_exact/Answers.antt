-- What the exact test answers for the list that was read.
use Rattle.std.proofs.Common.{◌≡◌, length, sym, refl, ap, subst, arith}
use Rattle.bench_exports.proofs.Read.{asked_last, last_asked, last-left, last_taken, none_to_ask}
use Rattle.bench_exports.specs.Measured.{TakesLast}
use Rattle.bench_exports.specs.Measured.AskedExact.{unreadable}
use Rattle.std.proofs.lemmas.Bool.{true≢false}
use Rattle.tasks.specs.Filling.{tasks_of}
use Rattle.bench_exports.proofs.bench_ask_exact.Goals as goal

pub returns-in-Err : goal.returns-in-Err
returns-in-Err c =
    rw c.number.ensures (unreadable c.in-Err.fault c.in-Err.ensures.0)

pub returns-in_default-split_last : goal.returns-in_default-split_last
returns-in_default-split_last c =
    let read = c.in_default.ensures in
    let list = c.read.new.self in
    let none : length (tasks_of list) ≡ 0 = omega (arith, c.in_default-split_last.ensures.cases, ap length c.records.ensures) in
    none_to_ask c.args.sheet.now list read.0 read.1 read.2 none

pub returns-then-fits : goal.returns-then-fits
returns-then-fits c =
    let read = c.in_default.ensures in
    last_taken c.args.sheet.now c.read.new.self read.0 read.1 read.2
    (subst TakesLast c.records.ensures
    (last_asked c.records.result.now c.in-Some.row.now c.in-Some.asked.now c.in-Some.ensures.cases.0 (c.if-fits.ensures.0 refl)))

pub returns-else-fits : goal.returns-else-fits
returns-else-fits c =
    let read = c.in_default.ensures in
    last-left c.args.sheet.now c.read.new.self read.0 read.1 read.2
    (λ fits.
    true≢false
    (sym (c.if-fits.ensures.1
    (asked_last c.records.result.now c.in-Some.row.now c.in-Some.asked.now c.in-Some.ensures.cases.0 (subst TakesLast (sym c.records.ensures) fits)))))
