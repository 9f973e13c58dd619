-- The plain board's refusals and answers, read off a board's arrays.
use Rattle.std.proofs.Common.{◌≡◌, ℕ, ◌<◌, ◌≤◌, Bool, true, false, cond, not, ◌&&◌, ltb, leb, List, [], ◌∷◌, map, length, set, Some, None, Option, sym, refl, ap, ◌∙◌, arith}
use Rattle.std.specs.List.{find}
use Rattle.std.proofs.lemmas.List.{length-map}
use Rattle.std.proofs.lemmas.Bool.{le-leb, le-ltb, lt-leb, lt-ltb}
use Rattle.fit.specs.Lane.{Standing}
use Rattle.plan.specs.Placing.{record_of}
use Rattle.plan.proofs.Awaiting.{length-tasks}
use Rattle.board.specs.PlainBoard.{PlainBoard, bit, busy, fault_if, first_fault, most_waiting, next_release, not_served, post_fault, standing_of, with_standing}
use Rattle.board.specs.Queues.{standing, stands_at}
use Rattle.board.specs.Seating.{plan_of, tasks_on}
use Rattle.board.specs.View.{board_of, lane_of_standings, standings_on, view}
use Rattle.board.specs.declared.board.Board.{Board}
use Rattle.board.specs.declared.fault.BoardFault.{BoardFault}
use Rattle.board.specs.declared.fault.BoardFault.TheVariants.{Early, NoTask, NotServed, QueueFull, SlotOpen}
use Rattle.board.proofs.Next.{on_lane}
use Rattle.board.proofs.Counted.{length-counted}
use Rattle.board.proofs.View.{stands-is, with_standing-is}

-- A fault that does not apply is passed over; the first that applies is given.
module _ {applies : Bool} (fault : BoardFault) (faults : List (Option BoardFault)) where
  pub passed : applies ≡ false → first_fault (fault_if applies fault ∷ faults) ≡ first_fault faults
  passed e = ap (λ a. first_fault (fault_if a fault ∷ faults)) e

  pub applied : applies ≡ true → first_fault (fault_if applies fault ∷ faults) ≡ Some fault
  applied e = ap (λ a. first_fault (fault_if a fault ∷ faults)) e

module _ (b : Board) where
  pub few-tasks : length (tasks_on b.seats) ≤ 32
  few-tasks = length-tasks b.seats.list

  pub length-standings : length (standings_on b) ≡ 32
  length-standings = length-map b.jobs.queues standing ∙ b.jobs.long

  pub length-lanes : length (view b).lanes ≡ b.seats.list.lanes
  length-lanes = length-counted (lane_of_standings (tasks_on b.seats) (plan_of b.seats) (standings_on b)) b.seats.list.lanes

  module _ (task : ℕ) (inside : task < length (tasks_on b.seats)) where
    pub view-stands : standing_of (view b) task ≡ stands_at (standings_on b) task
    view-stands =
        stands-is (tasks_on b.seats) b.seats.list.lanes (plan_of b.seats) (standings_on b) b.clock b.slot_open task inside (on_lane b.seats task inside)

    pub view_with : (s : Standing) → with_standing (view b) task s ≡ board_of (tasks_on b.seats) b.seats.list.lanes (plan_of b.seats) (set (standings_on b) task s) b.clock b.slot_open
    view_with s =
        with_standing-is (tasks_on b.seats) b.seats.list.lanes (plan_of b.seats) (standings_on b) b.clock b.slot_open task inside (on_lane b.seats task inside)
        s (omega (arith, few-tasks, length-standings))

    -- The faults of a post, from how the task stands.
    abbrev faults_of : Standing → Option BoardFault
    faults_of s =
        first_fault (
        fault_if (leb (length (tasks_on b.seats)) task) (NoTask task)
        ∷ fault_if b.slot_open (SlotOpen b.clock)
        ∷ fault_if (ltb b.clock (next_release (record_of (tasks_on b.seats) task) s)) (Early (next_release (record_of (tasks_on b.seats) task) s))
        ∷ fault_if (leb most_waiting (length s.waiting)) (QueueFull task)
        ∷ [])

    pub post_faults : post_fault (view b) task ≡ faults_of (stands_at (standings_on b) task)
    post_faults = ap faults_of view-stands

    abbrev now_stands : Standing
    now_stands = stands_at (standings_on b) task

    module _ (shut : b.slot_open ≡ false) (next : ℕ) (is : next ≡ next_release (record_of (tasks_on b.seats) task) now_stands) where
      reached-gap : post_fault (view b) task ≡ first_fault (fault_if (ltb b.clock (next_release (record_of (tasks_on b.seats) task) now_stands)) (Early (next_release (record_of (tasks_on b.seats) task) now_stands)) ∷ fault_if (leb most_waiting (length now_stands.waiting)) (QueueFull task) ∷ [])
      reached-gap =
          post_faults
          ∙ (passed (NoTask task) _ (lt-leb (length (tasks_on b.seats)) task inside) ∙ passed (SlotOpen b.clock) _ shut)

      pub post_early : b.clock < next → post_fault (view b) task ≡ Some (Early next)
      post_early h =
          reached-gap
          ∙ (applied (Early (next_release (record_of (tasks_on b.seats) task) now_stands)) _ (lt-ltb b.clock _ (omega (arith, is)))
          ∙ ap (λ n. Some (Early n)) (sym is))

      reached-count : next ≤ b.clock → post_fault (view b) task ≡ first_fault (fault_if (leb most_waiting (length now_stands.waiting)) (QueueFull task) ∷ [])
      reached-count h =
          reached-gap ∙ passed (Early (next_release (record_of (tasks_on b.seats) task) now_stands)) _ (le-ltb b.clock _ (omega (arith, is)))

      pub post_full : next ≤ b.clock → 4 ≤ length now_stands.waiting → post_fault (view b) task ≡ Some (QueueFull task)
      post_full h w = reached-count h ∙ applied (QueueFull task) [] (le-leb 4 (length now_stands.waiting) w)

      pub post_open : next ≤ b.clock → length now_stands.waiting < 4 → post_fault (view b) task ≡ None
      post_open h w = reached-count h ∙ passed (QueueFull task) [] (lt-leb 4 (length now_stands.waiting) w)

abbrev pub fault_at : Option ℕ → Option BoardFault
fault_at found = elim found [ None ↦ None | Some k ↦ Some (NotServed k) ]

-- The first of these lanes whose bit is set though it has no job gives the fault.
pub first_not_served :
    (b : PlainBoard) (finished : ℕ) (lanes : List ℕ)
    → first_fault (map (not_served b finished) lanes)
    ≡ fault_at (find (λ k. bit finished k && not (busy b k)) lanes)
first_not_served b finished [] = refl
first_not_served b finished (k ∷ lanes) =
    elim (bit finished k && not (busy b k)) as (λ t. first_fault (fault_if t (NotServed k) ∷ map (not_served b finished) lanes) ≡ fault_at (cond t (Some k) (find (λ k. bit finished k && not (busy b k)) lanes))) [
      | true ↦ refl
      | false ↦ first_not_served b finished lanes
    ]
