-- The first byte of a plan that is no lane of the box.
use Rattle.std.proofs.Common.{◌≡◌, ℕ, ◌<◌, ◌≤◌, List, length, Some, None, Option, sym, subst, leb}
use Rattle.std.specs.Prelude.{position}
use Rattle.std.proofs.lemmas.Bool.{leb-true, leb-false}
use Rattle.sheet.proofs.Printing.{position_such}
use Rattle.plan.specs.Placing.{lane_of}

-- The lowest byte of the plan that is no lane of the box; or every byte is one.
abbrev pub OffLanes : ℕ → List ℕ → Option ℕ → Type 0
OffLanes lanes plan None = (number : ℕ) → number < length plan → lane_of plan number < lanes
OffLanes lanes plan (Some number) =
    (number < length plan) × (lanes ≤ lane_of plan number) × ((lower : ℕ) → lower < number → lane_of plan lower < lanes)

pub off_lanes : (lanes : ℕ) (plan : List ℕ) (found : Option ℕ) → found ≡ position (leb lanes) plan → OffLanes lanes plan found
off_lanes lanes plan found e =
    subst (OffLanes lanes plan) (sym e)
    (position_such (leb lanes) plan 0 (OffLanes lanes plan)
    (λ i inside before here. (
      inside,
      leb-true lanes (lane_of plan i) here,
      λ lower l. leb-false lanes (lane_of plan lower) (before lower l),
    ))
    (λ before number l. leb-false lanes (lane_of plan number) (before number l)))
