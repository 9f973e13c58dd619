use Rattle.std.proofs.Common.{Err, ◌++◌, ap, ◌∙◌, subst, vec_items}
use Rattle.script.proofs.Days.{headed_text, unheaded_text}
use Rattle.script.specs.Opening.{Opened}
use Rattle.script.specs.Texts.{not_understood_line}
use Rattle.std.proofs.lemmas.Result.{on_ok_weaker}
use Rattle.words.specs.Lines.{lines_left}
use Rattle.script.proofs.day.add_replay.Goals as goal

pub returns-in-Ok : goal.returns-in-Ok
returns-in-Ok c =
    let lines = lines_left c.of-lines.result in
    let left = lines_left c.read_opening.new.lines in
    on_ok_weaker c.add_day.result (λ day none. headed_text c.args.input.now lines left c.in-Ok.headings (vec_items c.args.text.now) (vec_items c.add_day.new.text) c.of-lines.ensures c.in-Ok.ensures none day) c.add_day.ensures

pub returns-in-Err-NotUnderstood : goal.returns-in-Err-NotUnderstood
returns-in-Err-NotUnderstood c =
    let lines = lines_left c.of-lines.result in
    let left = lines_left c.read_opening.new.lines in
    let opened = subst (λ e. Opened lines (Err e) left) c.in-Err-NotUnderstood.field-0-is c.in-Err-NotUnderstood.ensures in
    on_ok_weaker c.not_understood.result (λ is none. unheaded_text c.args.input.now lines left c.in-Err-NotUnderstood.line (vec_items c.args.text.now) (vec_items c.not_understood.new.text) c.of-lines.ensures opened none (is ∙ ap (λ n. vec_items c.args.text.now ++ not_understood_line n) c.in-Err-NotUnderstood.line-is)) c.not_understood.ensures
