-- The seats are those of the list and the plan, and nothing waits.
use Rattle.std.proofs.Common.{ℕ, false, List, map, replicate, ap, ◌∙◌, arith}
use Rattle.fit.specs.Lane.{Standing, unreleased}
use Rattle.tasks.specs.Filling.{tasks_of}
use Rattle.tasks.specs.declared.list.TaskList.{TaskList}
use Rattle.board.specs.Queues.{standing}
use Rattle.board.specs.Seating.{plan_of, tasks_on}
use Rattle.board.specs.View.{board_of}
use Rattle.board.proofs.Next.{none-next}
use Rattle.board.proofs.View.{fresh_board}
use Rattle.board.proofs.board.Board.set_up.Goals as goal

pub invariant_of-self-clause-at_hand : goal.invariant_of-self-clause-at_hand
invariant_of-self-clause-at_hand g c =
    none-next (tasks_on c.new.result) (plan_of c.new.result) (map standing c.none.result.queues) _ c.none.ensures.queues c.none.ensures.next

pub returns : goal.returns
returns g c =
    let list = c.args.list.now in
    let seats = c.new.result in
    let start = c.args.start in (
      c.in_ok-check.ensures.0,
      omega arith,
      ap (λ (ss : List Standing). board_of (tasks_on seats) seats.list.lanes (plan_of seats) ss start false) c.none.ensures.queues
          ∙ (ap (λ (p : List ℕ). board_of (tasks_on seats) seats.list.lanes p (replicate 32 unreleased) start false) c.new.ensures.plan
          ∙ (ap (λ (l : TaskList). board_of (tasks_of l) l.lanes c.args.plan.now (replicate 32 unreleased) start false) c.new.ensures.list
          ∙ fresh_board (tasks_of list) list.lanes c.args.plan.now start)),
    )
