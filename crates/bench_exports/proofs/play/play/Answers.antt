-- Each turn fills one line.
use Rattle.std.proofs.Common.{get_or, ap, ◌∙◌, arith}
use Rattle.board.specs.View.{view}
use Rattle.board.specs.PlainBoard.{after_call, answer_to}
use Rattle.bench_exports.specs.Playing.{answer_code, answer_value, call_said}
use Rattle.bench_exports.specs.declared.play.Line.{Line}
use Rattle.bench_exports.proofs.Playing.{all-played, one-played}
use Rattle.bench_exports.proofs.play.play.Goals as goal

abbrev none : Line
none = record { call = 0; argument = 0; code = 0; value = 0 }

pub loop-line-preserved : goal.loop-line-preserved
loop-line-preserved c =
    let b = view c.loop-line.board in
    let line = get_or c.loop-line.lines c.loop-line.line-index none in
    let given = c.answer-answer.ensures.value ∙ ap (answer_to b) c.from.ensures in
    one-played (view c.args.board.now) c.args.lines.now c.loop-line.line-index b c.loop-line.lines c.loop-line.invariant
    none (omega arith) (view c.answer-answer.new.self) (c.answer-answer.ensures.after ∙ ap (after_call b) c.from.ensures) _
    (ap (λ n. record { call = line.call; argument = line.argument; code = n; value = c.value_of-line.result }) (c.code_of-line.ensures ∙ ap answer_code given)
    ∙ ap (λ n. record { call = line.call; argument = line.argument; code = answer_code (answer_to b (call_said line)); value = n }) (c.value_of-line.ensures ∙ ap answer_value given))

pub returns : goal.returns
returns c =
    all-played (view c.args.board.now) c.args.lines.now c.loop-line.line-index (view c.loop-line.board) c.loop-line.lines c.loop-line.invariant (omega arith)
