use Rattle.std.proofs.Common.{◌≡◌, ◌≢◌, length, Some, refl, rules}
use Rattle.std.proofs.lemmas.Result.{err_from_is_err_and}
use Rattle.tasks.proofs.Scan.{ranged, refused, went_on}
use Rattle.tasks.specs.Filling.{tasks_of}
use Rattle.tasks.specs.Reading.Unreadable.{unframed}
use Rattle.tasks.proofs.read.scan.Goals as goal

pub returns-in_err-sheet : goal.returns-in_err-sheet
returns-in_err-sheet c =
    let p = err_from_is_err_and c.from_residual.result c.from_residual.ensures.1 in
    rw (p.1, p.2) (unframed c.in_err-sheet.ensures)

pub returns-in_err-start : goal.returns-in_err-start
returns-in_err-start c =
    let p = err_from_is_err_and c.from_residual-in_err-start.result c.from_residual-in_err-start.ensures.1 in
    rw (p.1, p.2) (ranged c.args.bytes.now c.in_ok-sheet.sheet c.grid.result c.lanes.result c.in_err-start.field-0.0 c.in_ok-sheet.ensures c.grid.ensures c.lanes.ensures c.in_err-start.ensures.0)

pub returns-in_err-found : goal.returns-in_err-found
returns-in_err-found c =
    let p = err_from_is_err_and c.from_residual-in_err-found.result c.from_residual-in_err-found.ensures.1 in
    rw (p.1, p.2) (refused c.args.bytes.now c.args.asked c.loop-sheet.sheet c.loop-sheet.list c.loop-sheet.name c.loop-sheet.invariant c.in_err-found.field-0.0 c.in_err-found.ensures)

pub loop-sheet-preserved-then-eq : goal.loop-sheet-preserved-then-eq
loop-sheet-preserved-then-eq c =
    let joined = c.in_ok-found.ensures in
    let is : c.args.asked ≡ Some (length (tasks_of c.loop-sheet.list)) = search rules in
    went_on c.args.bytes.now c.args.asked c.loop-sheet.sheet c.loop-sheet.list c.loop-sheet.name c.loop-sheet.invariant c.in_ok-found.found c.take_record.new.sheet c.take_record.new.list joined.0 joined.1 c.in_ok-found.found (λ _. refl) (λ other. absurd (other is))

pub loop-sheet-preserved : goal.loop-sheet-preserved
loop-sheet-preserved c =
    let joined = c.in_ok-found.ensures in
    let other : c.args.asked ≢ Some (length (tasks_of c.loop-sheet.list)) = search rules in
    went_on c.args.bytes.now c.args.asked c.loop-sheet.sheet c.loop-sheet.list c.loop-sheet.name c.loop-sheet.invariant c.in_ok-found.found c.take_record.new.sheet c.take_record.new.list joined.0 joined.1 c.loop-sheet.name (λ is. absurd (other is)) (λ _. refl)
