-- The lines are played on the board that was prepared.
use Rattle.std.proofs.Common.{◌≡◌, ℕ, List, [], Ok, Err, Result, subst}
use Rattle.std.proofs.lemmas.Result.{err_from_is_err_and}
use Rattle.board.specs.PlainBoard.{PlainBoard, new_board}
use Rattle.board.specs.Preparing.{Prepared}
use Rattle.board.specs.View.{view}
use Rattle.board.specs.declared.fault.BoardFault.{BoardFault}
use Rattle.fit.specs.Tests.{EitherYes, ExactYes, LinearYes}
use Rattle.bench_exports.specs.Playing.{ReadiedFromNew}
use Rattle.bench_exports.specs.Playing.Played.{answered, refused, unreadable}
use Rattle.bench_exports.proofs.play.play_sheet.Goals as goal

-- The test is over the list's grid, and the board was new.
from_new :
    (grid over : ℕ) → over ≡ grid → (sheet plan : List ℕ) (start : ℕ) (b₀ : PlainBoard) → b₀ ≡ new_board [] 1 [] 0
    → (r : Result (Unit {0}) BoardFault) (placed : List ℕ) (b : PlainBoard)
    → Prepared (EitherYes (LinearYes over) ExactYes) sheet plan start b₀ r placed b → ReadiedFromNew grid sheet plan start r placed b
from_new grid over same sheet plan start b₀ new r placed b p =
    subst (λ (g : ℕ). Prepared (EitherYes (LinearYes g) ExactYes) sheet plan start (new_board [] 1 [] 0) r placed b) same
    (subst (λ (from : PlainBoard). Prepared (EitherYes (LinearYes over) ExactYes) sheet plan start from r placed b) new p)

pub returns-in_err-read : goal.returns-in_err-read
returns-in_err-read c =
    let p = err_from_is_err_and c.from_residual.result c.from_residual.ensures.1 in
    rw (p.1, p.2) (unreadable c.in_err-read.field-0.0 c.in_err-read.ensures.0)

pub returns-in_err-prepare : goal.returns-in_err-prepare
returns-in_err-prepare c =
    let sheet = c.args.sheet.now in
    let list = c.read.new.self in
    let read = c.in_ok-read.ensures in
    let placed = c.prepare.new.plan in
    let b = view c.prepare.new.board in
    let fault = c.in_err-prepare.field-0.0 in
    let p = err_from_is_err_and c.from_residual-in_err-prepare.result c.from_residual-in_err-prepare.ensures.1 in
    rw (p.1, p.2) (refused list.grid list.lanes read.0 fault placed b read.1
    (from_new list.grid c.either_over.result.first.grid c.either_over.ensures sheet c.args.plan.now c.args.start
    (view c.new-board.result) c.new-board.ensures (Err fault) placed b c.in_err-prepare.ensures))

pub returns : goal.returns
returns c =
    let sheet = c.args.sheet.now in
    let list = c.read.new.self in
    let read = c.in_ok-read.ensures in
    let placed = c.prepare.new.plan in
    let b = view c.prepare.new.board in
    rw c.play.ensures (answered list.grid list.lanes read.0 placed b read.1
    (from_new list.grid c.either_over.result.first.grid c.either_over.ensures sheet c.args.plan.now c.args.start
    (view c.new-board.result) c.new-board.ensures (Ok tt) placed b c.in_ok-prepare.ensures))
