use Rattle.std.proofs.Common.{vec_items, ap, ◌∙◌, ◌++◌}
use Rattle.board.specs.Codes.{number, place}
use Rattle.script.proofs.Days.{day_text, last_line_is, no_last_line}
use Rattle.script.specs.Day.AfterHeadings.{refused}
use Rattle.script.specs.Texts.{refused_line}
use Rattle.std.proofs.lemmas.Result.{on_ok_weaker}
use Rattle.words.specs.Lines.{lines_left}
use Rattle.script.proofs.day.add_day.Goals as goal

pub returns-in-Err : goal.returns-in-Err
returns-in-Err c =
    let fault = c.in-Err.fault in
    on_ok_weaker c.not_set_up.result (λ is. (refused_line (number fault) (place fault), refused c.in-Err.ensures, is)) c.not_set_up.ensures

pub returns-in-Some : goal.returns-in-Some
returns-in-Some c =
    let session = c.in_ok-entries.field-0 in
    let lined = vec_items c.add_answers.new.text in
    let played = day_text c.args.headings.now (lines_left c.args.lines) session c.as_mut_slice.result.now c.run.new.entries c.as_slice.result.now (vec_items c.args.text.now) (vec_items c.set_up.new.text) lined (vec_items c.not_understood.new.text)
    c.in_ok-entries.ensures c.as_mut_slice.ensures.value c.run.auto.entries c.as_slice.ensures.value c.in_default.ensures c.in_ok-set_up.ensures c.in_ok-add_answers.ensures in
    on_ok_weaker c.not_understood.result
    (λ is. played (is ∙ ap (λ t. lined ++ t) (last_line_is session.stop c.in-Some.line _ c.in-Some.is c.in_ok-entries.ensures.stop_is)))
    c.not_understood.ensures

pub returns : goal.returns
returns c =
    let session = c.in_ok-entries.field-0 in
    let lined = vec_items c.add_answers.new.text in
    day_text c.args.headings.now (lines_left c.args.lines) session c.as_mut_slice.result.now c.run.new.entries c.as_slice.result.now (vec_items c.args.text.now) (vec_items c.set_up.new.text) lined lined
    c.in_ok-entries.ensures c.as_mut_slice.ensures.value c.run.auto.entries c.as_slice.ensures.value c.in_default.ensures c.in_ok-set_up.ensures c.in_ok-add_answers.ensures
    (no_last_line session.stop lined _ c.in-None.is)
