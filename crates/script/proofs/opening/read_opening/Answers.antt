use Rattle.std.proofs.Common.{◌∙◌, sym, subst}
use Rattle.script.specs.Headings.{FitRead, PlanRead, SheetRead, StartRead, proposed}
use Rattle.script.specs.Opening.{Opened}
use Rattle.script.specs.Opening.Unheaded.{no_sheet, no_plan, no_fit, no_start}
use Rattle.script.proofs.Headed.{fourth_line, read_at, refusal_is, second-line, third-line}
use Rattle.words.specs.Lines.{lines_left}
use Rattle.script.proofs.opening.read_opening.Goals as goal

pub returns-in_err-sheet-2 : goal.returns-in_err-sheet-2
returns-in_err-sheet-2 c =
    let lines = lines_left c.args.lines.now in
    let left = lines_left c.next_or_blank.new.lines in
    let e = c.in_err-sheet-2.ensures in
    let r = c.from_residual-in_err-sheet-2 in
    subst (λ o. Opened lines o left) (sym (refusal_is c.in_ok-sheet.sheet 1 c.in_err-sheet-2.field-0.0 r.result e.value e.ok_part r.ensures.1))
    (no_sheet (read_at SheetRead c.next_or_blank.ensures.line e.ok_part c.in_ok-sheet.ensures))

pub returns-in_err-plan-2 : goal.returns-in_err-plan-2
returns-in_err-plan-2 c =
    let lines = lines_left c.args.lines.now in
    let a = lines_left c.next_or_blank.new.lines in
    let left = lines_left c.next_or_blank-2.new.lines in
    let e = c.in_err-plan-2.ensures in
    let r = c.from_residual-in_err-plan-2 in
    let second = c.next_or_blank-2.ensures.line ∙ second-line lines a c.next_or_blank.ensures.rest in
    subst (λ o. Opened lines o left) (sym (refusal_is c.in_ok-plan.plan 2 c.in_err-plan-2.field-0.0 r.result e.value e.ok_part r.ensures.1))
    (no_plan (read_at SheetRead c.next_or_blank.ensures.line c.in_ok-sheet-2.ensures.ok_part c.in_ok-sheet.ensures)
    (read_at PlanRead second e.ok_part c.in_ok-plan.ensures))

pub returns-in_err-fit : goal.returns-in_err-fit
returns-in_err-fit c =
    let lines = lines_left c.args.lines.now in
    let a = lines_left c.next_or_blank.new.lines in
    let b = lines_left c.next_or_blank-2.new.lines in
    let left = lines_left c.next_or_blank-3.new.lines in
    let e = c.in_err-fit.ensures in
    let r = c.from_residual-in_err-fit in
    let second = c.next_or_blank-2.ensures.line ∙ second-line lines a c.next_or_blank.ensures.rest in
    let third = c.next_or_blank-3.ensures.line ∙ third-line lines a b c.next_or_blank.ensures.rest c.next_or_blank-2.ensures.rest in
    subst (λ o. Opened lines o left) (sym (refusal_is c.fit.result 3 c.in_err-fit.field-0.0 r.result e.value e.ok_part r.ensures.1))
    (no_fit (proposed c.in_ok-plan-2.plan)
    (read_at SheetRead c.next_or_blank.ensures.line c.in_ok-sheet-2.ensures.ok_part c.in_ok-sheet.ensures)
    (read_at PlanRead second c.in_ok-plan-2.ensures.ok_part c.in_ok-plan.ensures)
    (read_at FitRead third e.ok_part c.fit.ensures))

pub returns-in_err-start : goal.returns-in_err-start
returns-in_err-start c =
    let lines = lines_left c.args.lines.now in
    let a = lines_left c.next_or_blank.new.lines in
    let b = lines_left c.next_or_blank-2.new.lines in
    let d = lines_left c.next_or_blank-3.new.lines in
    let left = lines_left c.next_or_blank-4.new.lines in
    let e = c.in_err-start.ensures in
    let r = c.from_residual-in_err-start in
    let second = c.next_or_blank-2.ensures.line ∙ second-line lines a c.next_or_blank.ensures.rest in
    let third = c.next_or_blank-3.ensures.line ∙ third-line lines a b c.next_or_blank.ensures.rest c.next_or_blank-2.ensures.rest in
    let fourth = c.next_or_blank-4.ensures.line ∙ fourth_line lines a b d c.next_or_blank.ensures.rest c.next_or_blank-2.ensures.rest c.next_or_blank-3.ensures.rest in
    subst (λ o. Opened lines o left) (sym (refusal_is c.start.result 4 c.in_err-start.field-0.0 r.result e.value e.ok_part r.ensures.1))
    (no_start (proposed c.in_ok-plan-2.plan) c.in_ok-fit.fit.test
    (read_at SheetRead c.next_or_blank.ensures.line c.in_ok-sheet-2.ensures.ok_part c.in_ok-sheet.ensures)
    (read_at PlanRead second c.in_ok-plan-2.ensures.ok_part c.in_ok-plan.ensures)
    (read_at FitRead third c.in_ok-fit.ensures.ok_part c.fit.ensures)
    (read_at StartRead fourth e.ok_part c.start.ensures))
