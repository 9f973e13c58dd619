-- The task's queue counts what waits.
use Rattle.std.proofs.Common.{◌<◌, length, sym, refl, ap, ◌∙◌, arith}
use Rattle.std.proofs.lemmas.Bool.{lt-leb}
use Rattle.fit.specs.Lane.{Standing}
use Rattle.board.specs.PlainBoard.{fault_if}
use Rattle.board.specs.Seating.{tasks_on}
use Rattle.board.specs.declared.call.Answer.TheVariants as answer
use Rattle.board.specs.declared.fault.BoardFault.TheVariants.{NoTask}
use Rattle.board.proofs.Refusals.{view-stands}
use Rattle.board.proofs.board.Board.waiting.Goals as goal

pub returns : goal.returns
returns c =
    let b = c.args.self.now in
    let task = c.args.task in
    let inside : task < length (tasks_on b.seats) = omega (arith, c.count.ensures) in (
      ap (λ a. fault_if a (NoTask task)) (lt-leb (length (tasks_on b.seats)) task inside),
      ap answer.Waiting (c.count-2.ensures ∙ ap (λ (s : Standing). length s.waiting) (c.queue.ensures ∙ sym (view-stands b task inside))),
      refl,
    )
