-- The seats are those of the plan, which is safe.
use Rattle.std.proofs.Common.{◌≡◌, ℕ, ◌<◌, List, length, get_or, take, sym, ap, ◌∙◌, subst, arith}
use Rattle.std.proofs.lemmas.List.{get_or-take}
use Rattle.plan.proofs.Awaiting.{length-tasks}
use Rattle.plan.specs.Placing.{LanesAreSafe}
use Rattle.tasks.specs.Filling.{tasks_of}
use Rattle.board.proofs.seats.Seats.new.Goals as goal

pub padded-requires : goal.padded-requires
padded-requires c = omega (arith, c.requires.long, length-tasks c.args.list.now)

front : (n : ℕ) (plan lanes : List ℕ) → length plan ≡ n → take (length plan) lanes ≡ plan → take n lanes ≡ plan
front n plan lanes long e = subst (λ (m : ℕ). take m lanes ≡ plan) long e

pub invariant_of-result-clause-on_lanes : goal.invariant_of-result-clause-on_lanes
invariant_of-result-clause-on_lanes c =
    λ number h.
    let list = c.args.list.now in
    let tasks = tasks_of list in
    let is = front (length tasks) c.args.plan.now c.padded.result c.requires.long c.padded.ensures in
    let read = get_or-take (length tasks) c.padded.result number 0 h in
    subst (λ (n : ℕ). n < list.lanes) (ap (λ (ns : List ℕ). get_or ns number 0) (sym is) ∙ read) (c.requires.on_lanes number h)

pub invariant_of-result-clause-safe : goal.invariant_of-result-clause-safe
invariant_of-result-clause-safe c =
    let list = c.args.list.now in
    let tasks = tasks_of list in
    subst (LanesAreSafe list.lanes tasks) (sym (front (length tasks) c.args.plan.now c.padded.result c.requires.long c.padded.ensures)) c.requires.safe

pub returns-clause-plan : goal.returns-clause-plan
returns-clause-plan c = front (length (tasks_of c.args.list.now)) c.args.plan.now c.padded.result c.requires.long c.padded.ensures
