-- The first task in order on the lane with a job that waits.
use Rattle.std.proofs.Common.{ℕ, ◌<◌, length, ◌&&◌, ◌==◌, map, sym, ap, ◌∙◌, subst, rules, arith}
use Rattle.std.specs.List.{find}
use Rattle.std.proofs.lemmas.Iterator.{YieldsList-from_slice}
use Rattle.std.proofs.lemmas.Iterator.Adapters.{option_map_id, serves_from_places}
use Rattle.std.proofs.lemmas.Iterator.Consumers.{YieldsList-from_copied}
use Rattle.std.proofs.lemmas.Iterator.Search.{find_from_yields_List}
use borrow.Author.Tests.{tests}
use Rattle.plan.specs.Placing.{lane_of}
use Rattle.board.specs.Queues.{has_job, standing, stands_at}
use Rattle.board.specs.Seating.{plan_of, tasks_on}
use Rattle.board.proofs.Next.{turn_inside}
use Rattle.board.proofs.jobs.Jobs.first_waiting.Goals as goal

pub find-requires-clause-callable : goal.find-requires-clause-callable
find-requires-clause-callable c =
    let tasks = tasks_on c.args.seats.now in
    serves_from_places (YieldsList-from_copied (YieldsList-from_slice c.order.result.now cc))
    (λ x q k. search (rules, tests))
    (λ x k h e. let inside : x < length tasks = subst (λ (n : ℕ). n < length tasks) (sym e) (turn_inside tasks c.order.result.now k x c.order.ensures h) in λ y is a b d f g i j. omega (arith, inside, is))

pub returns : goal.returns
returns c =
    let test = λ (n : ℕ). lane_of (plan_of c.args.seats.now) n == c.args.lane && has_job (stands_at (map standing c.args.self.now.queues) n) in
    sym (option_map_id c.find.result)
    ∙ (find_from_yields_List test _ _ _ c.find.ensures.ran (YieldsList-from_copied (YieldsList-from_slice c.order.result.now cc)) (λ x b q k. search (rules, tests))
    ∙ ap (find test) c.order.ensures)
