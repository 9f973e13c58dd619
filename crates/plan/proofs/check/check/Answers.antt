-- A plan that is long enough, on lanes of the box and accepted in turn passes, and its lanes are safe.
use Rattle.std.proofs.Common.{◌≡◌, ℕ, length, subst, Some, None, arith}
use Rattle.tasks.specs.Filling.{tasks_of}
use Rattle.plan.proofs.OffLanes.{OffLanes, off_lanes}
use Rattle.plan.proofs.Growing.{checked_in_turn}
use Rattle.plan.proofs.check.check.Goals as goal

-- The first byte that is no lane of the box.
pub returns-in-Some : goal.returns-in-Some
returns-in-Some g c =
    let list = c.args.list.now in
    let plan = c.args.plan.now in
    let long : length plan ≡ length (tasks_of list) = omega arith in
    let off = subst (λ (m : ℕ). OffLanes m plan (Some c.in-Some.task)) c.lanes.ensures (off_lanes c.lanes.result plan (Some c.in-Some.task) c.in-Some.ensures) in
    (long, omega (arith, off.0), off.1, off.2)

pub each_fits-requires-clause-lanes : goal.each_fits-requires-clause-lanes
each_fits-requires-clause-lanes g c number h =
    omega (arith, off_lanes c.lanes.result c.args.plan.now None c.in_default.ensures number (omega arith), c.lanes.ensures)

pub returns : goal.returns
returns g c =
    let list = c.args.list.now in
    let plan = c.args.plan.now in
    let long : length plan ≡ length (tasks_of list) = omega arith in
    checked_in_turn (g.F.FitTest.yes c.args.test.now) list.lanes (tasks_of list) plan
    (g.met.F.FitTest.safe c.args.test.now) long
    (λ number h. omega (arith, off_lanes c.lanes.result plan None c.in_default.ensures number (omega arith), c.lanes.ensures))
    c.each_fits.result c.each_fits.ensures
