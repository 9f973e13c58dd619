-- The board has it at hand.
use Rattle.std.proofs.Common.{ℕ, ◌<◌, length, IfSome, Option, sym, ◌∙◌, subst}
use Rattle.board.specs.Seating.{plan_of, tasks_on}
use Rattle.board.specs.View.{standings_on}
use Rattle.board.proofs.Next.{known-next, next_inside}
use Rattle.board.proofs.board.Board.served.Goals as goal

pub returns : goal.returns
returns c =
    let b = c.args.self.now in
    let is = c.next.ensures ∙ known-next b.seats b.jobs b.at_hand c.args.lane in
    record {
      value = is;
      bound =
          subst (λ (o : Option ℕ). IfSome o (λ number. number < length (tasks_on b.seats))) (sym is)
          (next_inside (tasks_on b.seats) (plan_of b.seats) c.args.lane (standings_on b));
    }
