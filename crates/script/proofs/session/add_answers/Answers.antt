use Rattle.std.proofs.Common.{vec_items, ap, ◌∙◌, ⊎_elim}
use Rattle.script.specs.Texts.{given_in}
use Rattle.script.proofs.Sessions.{no_answers, no_lines}
use Rattle.std.proofs.lemmas.List.{nil_from_length}
use Rattle.words.specs.Lines.{lines_left}
use Rattle.script.proofs.session.add_answers.Goals as goal

pub returns-in-None : goal.returns-in-None
returns-in-None c =
    let text = vec_items c.loop-entry.text in
    let left = lines_left c.loop-entry.entry-iterator.b in
    let entries = c.loop-entry.entry-iterator.a.rest.now in
    ⊎_elim
    (λ ended. no_answers text left (given_in entries) (ap given_in (nil_from_length entries ended.1.0)))
    (λ ended. no_lines text left (given_in entries) ended.1.0)
    c.in-None.ensures.steps
    ∙ c.loop-entry.invariant.2
