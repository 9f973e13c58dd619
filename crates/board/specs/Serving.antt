-- What one slot of service leaves on a board's arrays.
use Rattle.std.specs.Prelude.{◌≡◌, ℕ, ◌<◌, map}
use Rattle.board.specs.PlainBoard.{after_service, byte_of, closes_at_end, count_from}
use Rattle.board.specs.Seating.{plan_of, tasks_on}
use Rattle.board.specs.View.{lane_of_standings, standings_on, view}
use Rattle.board.specs.declared.board.Board.{Board}

-- Everything but the jobs is as it was.
pub record SameButJobs (before after : Board) : Type 0 where
  pub seats : after.seats ≡ before.seats
  pub clock : after.clock ≡ before.clock
  pub slot : after.slot_open ≡ before.slot_open

-- Every lane was served.
pub record LanesServed (before : Board) (finished closed : ℕ) (after : Board) : Type 0 where
  pub same : SameButJobs before after
  pub stands : (lane : ℕ) → lane < before.seats.list.lanes
      → lane_of_standings (tasks_on before.seats) (plan_of before.seats) (standings_on after) lane ≡ after_service (view before) finished lane
  pub closes : closed ≡ byte_of (map (closes_at_end (view before) finished) (count_from 0 before.seats.list.lanes))
