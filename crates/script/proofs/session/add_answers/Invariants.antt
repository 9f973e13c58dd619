use Rattle.std.proofs.Common.{◌≡◌, ◌++◌, vec_items}
use Rattle.script.specs.Texts.{answer_lines, given_in}
use Rattle.words.specs.Lines.{lines_left}
use Rattle.script.proofs.session.add_answers.Given as goal

abbrev pub invariant-loop-entry : goal.invariant-loop-entry
invariant-loop-entry l =
    (goal.iterator-loop-entry).can_next l.entry-iterator × (goal.iterator-loop-entry).is_finite l.entry-iterator
    × (vec_items l.text ++ answer_lines (lines_left l.entry-iterator.b) (given_in l.entry-iterator.a.rest.now) ≡ vec_items l.initial.text ++ answer_lines (lines_left l.fn.lines) (given_in l.entries))
