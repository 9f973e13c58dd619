-- The plain board that a board stands for, read off its own arrays.
use Rattle.std.specs.Prelude.{ℕ, Bool, List, map, filter, nat_eq}
use Rattle.board.specs.PlainBoard.{PlainBoard, count_from}
use Rattle.board.specs.Queues.{standing, stands_at}
use Rattle.board.specs.Seating.{plan_of, tasks_on}
use Rattle.board.specs.declared.board.Board.{Board}
use Rattle.fit.specs.Lane.{Standing}
use Rattle.plan.specs.Placing.{lane_of, order}
use Rattle.tasks.specs.declared.record.TaskRecord.{TaskRecord}

-- The numbers of the tasks on a lane, in the order of tasks.
abbrev pub numbers_on : List TaskRecord → List ℕ → ℕ → List ℕ
numbers_on tasks plan lane = filter (λ number. nat_eq (lane_of plan number) lane) (order tasks)

-- For each lane, how its tasks stand, where each task stands so by its number.
abbrev pub lane_of_standings : List TaskRecord → List ℕ → List Standing → ℕ → List Standing
lane_of_standings tasks plan standings lane = map (stands_at standings) (numbers_on tasks plan lane)

abbrev pub board_of : List TaskRecord → ℕ → List ℕ → List Standing → ℕ → Bool → PlainBoard
board_of tasks lanes plan standings clock slot_open =
    record { tasks = tasks; plan = plan; clock = clock; slot_open = slot_open; lanes = map (lane_of_standings tasks plan standings) (count_from 0 lanes) }

-- How all tasks stand on a board, by their numbers.
abbrev pub standings_on : Board → List Standing
standings_on b = map standing b.jobs.queues

abbrev pub view : Board → PlainBoard
view b =
    board_of (tasks_on b.seats) b.seats.list.lanes (plan_of b.seats) (standings_on b) b.clock b.slot_open
