use Rattle.std.proofs.Common.{ℕ, ◌+◌, List, ap, ◌∙◌, length, refl, arith}
use Rattle.std.specs.Borrow.{Bor}
use Rattle.words.proofs.Feeds.{next_line, no_line, part_from}
use Rattle.std.proofs.lemmas.Grind.{common_steps}
use Rattle.words.proofs.lines.LinesIterator.next.Goals as goal

pub returns-then-is_empty-clause-steps : goal.returns-then-is_empty-clause-steps
returns-then-is_empty-clause-steps c =
    let none = no_line c.args.self.now.rest.now c.if-is_empty.ensures in (none, none)

pub returns : goal.returns
returns c =
    let bytes = c.args.self.now.rest.now in
    let after = ap (λ (r : Bor (List ℕ)). r.now) c.unwrap_or-self.ensures ∙ part_from bytes (c.line_end-end.result + 1) c.get.result _ c.get.ensures.lookup refl in
    let next = next_line bytes c.unwrap_or-self.result.now c.line_end-end.result c.line_end-end.ensures c.if-is_empty.ensures after in
    record { steps = next; goes = grind (arith, common_steps, ap length next) }
