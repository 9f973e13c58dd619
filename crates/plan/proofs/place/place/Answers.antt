-- The placing is written once every task has its lane; else the plan stays.
use Rattle.std.proofs.Common.{◌≡◌, ℕ, ◌-◌, ◌≤◌, List, length, take, sym, ap, ◌∙◌, subst, arith}
use Rattle.tasks.specs.Filling.{tasks_of}
use Rattle.plan.specs.Placing.{Passes, Places}
use Rattle.plan.proofs.Awaiting.{length-tasks}
use Rattle.plan.proofs.FirstFit.{placed_front}
use Rattle.plan.proofs.place.place.Goals as goal

pub returns : goal.returns
returns g c =
    let list = c.args.list.now in
    let tasks = tasks_of list in
    let yes_to = g.F.FitTest.yes c.args.test.now in
    let lanes = c.in_ok-lanes.lanes in
    let room : length tasks ≤ length lanes = omega (arith, length-tasks list, c.in_ok-lanes.ensures.0) in
    let whole : length tasks ≡ c.len-count.result - 0 = omega arith in
    subst (λ (plan : List ℕ). Places yes_to list.lanes tasks plan × Passes yes_to list.lanes tasks plan)
    (ap (λ (n : ℕ). take n lanes) whole ∙ sym c.copy_from_slice.ensures.after)
    (placed_front yes_to list.lanes tasks lanes room c.in_ok-lanes.ensures.1)
