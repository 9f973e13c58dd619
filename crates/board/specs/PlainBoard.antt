-- The plain board: the meaning of every answer. It is some plain lanes with one clock, and a mark whether a slot is open.
use Rattle.std.specs.Prelude.{ℕ, zero, suc, ◌+◌, ◌*◌, ◌/◌, ◌%◌, ◌^◌, Bool, true, false, cond, not, ◌&&◌, List, [], ◌∷◌, map, length, get_or, Some, None, filter, Option, ◌==◌, nat_eq, nat_le, nat_lt, slice_index, slice_index_or, slice_set}
use Rattle.board.specs.declared.call.Answer.{Answer}
use Rattle.board.specs.declared.call.Answer.TheVariants as answer
use Rattle.board.specs.declared.call.Call.{Call}
use Rattle.board.specs.declared.call.Call.TheVariants.{Post, Begin, End, Serving, Waiting, Clock}
use Rattle.board.specs.declared.fault.BoardFault.{BoardFault}
use Rattle.board.specs.declared.fault.BoardFault.TheVariants.{NoLane, NoTask, Early, QueueFull, SlotOpen, SlotShut, NotServed, ClockEnd}
use Rattle.fit.specs.Lane.{Job, Standing, closes, fresh, serve, served_once, unreleased, with_job}
use Rattle.plan.specs.Placing.{lane_of, lane_row, order, record_of}
use Rattle.tasks.specs.declared.record.TaskRecord.{TaskRecord}

pub record PlainBoard : Type 0 where
  -- the tasks of the list, by their numbers, and the lane of each
  pub tasks : List TaskRecord
  pub plan : List ℕ
  pub clock : ℕ
  pub slot_open : Bool
  -- for each lane, how its tasks stand, in the lane's order
  pub lanes : List (List Standing)

-- So many numbers, from this one on.
abbrev pub count_from : ℕ → ℕ → List ℕ
count_from from zero = []
count_from from (suc n) = from ∷ count_from (suc from) n

-- A new board: these tasks on so many lanes by this plan, at this clock, with no job and no release, the slot shut.
abbrev pub new_board : List TaskRecord → ℕ → List ℕ → ℕ → PlainBoard
new_board tasks lanes plan start =
    record { tasks = tasks; plan = plan; clock = start; slot_open = false; lanes = map (λ lane. (fresh start (lane_row tasks plan lane)).standings) (count_from 0 lanes) }

-- The clock's end, and the most jobs of a task that wait.
abbrev pub clock_end : ℕ
clock_end = 1099511627776

abbrev pub most_waiting : ℕ
most_waiting = 4

-- The numbers of a lane's tasks, in the lane's order.
abbrev pub lane_numbers : PlainBoard → ℕ → List ℕ
lane_numbers b lane = filter (λ number. nat_eq (lane_of b.plan number) lane) (order b.tasks)

-- Where a number stands in a list of numbers.
abbrev pub place_among : List ℕ → ℕ → ℕ
place_among [] number = 0
place_among (n ∷ ns) number = cond (n == number) 0 (suc (place_among ns number))

-- How a task stands: on its lane, at its place there.
abbrev pub lane_standings : PlainBoard → ℕ → List Standing
lane_standings b lane = slice_index_or b.lanes lane []

abbrev pub task_place : PlainBoard → ℕ → ℕ
task_place b task = place_among (lane_numbers b (lane_of b.plan task)) task

abbrev pub standing_of : PlainBoard → ℕ → Standing
standing_of b task = slice_index_or (lane_standings b (lane_of b.plan task)) (task_place b task) unreleased

-- The board with another standing of one task.
abbrev pub with_standing : PlainBoard → ℕ → Standing → PlainBoard
with_standing b task s =
    record { tasks = b.tasks; plan = b.plan; clock = b.clock; slot_open = b.slot_open; lanes = slice_set b.lanes (lane_of b.plan task) (slice_set (lane_standings b (lane_of b.plan task)) (task_place b task) s) }

-- The first clock at which a task may release a job.
abbrev pub next_release : TaskRecord → Standing → ℕ
next_release t s = elim s.last [ None ↦ 0 | Some last ↦ last + t.gap ]

-- The first of the faults that applies, where several could.
abbrev pub first_fault : List (Option BoardFault) → Option BoardFault
first_fault [] = None
first_fault (None ∷ faults) = first_fault faults
first_fault (Some fault ∷ faults) = Some fault

abbrev pub fault_if : Bool → BoardFault → Option BoardFault
fault_if applies fault = cond applies (Some fault) None

-- Post takes a job of one task, released at the present clock.
abbrev pub post_fault : PlainBoard → ℕ → Option BoardFault
post_fault b task =
    first_fault (
    fault_if (nat_le (length b.tasks) task) (NoTask task)
    ∷ fault_if b.slot_open (SlotOpen b.clock)
    ∷ fault_if (nat_lt b.clock (next_release (record_of b.tasks task) (standing_of b task))) (Early (next_release (record_of b.tasks task) (standing_of b task)))
    ∷ fault_if (nat_le most_waiting (length (standing_of b task).waiting)) (QueueFull task)
    ∷ [])

abbrev pub after_post : PlainBoard → ℕ → PlainBoard
after_post b task = with_standing b task (with_job b.clock (standing_of b task))

-- The place in a lane of the first task that has a waiting job, if any has.
abbrev pub first_waiting : List Standing → Option ℕ
first_waiting [] = None
first_waiting (s ∷ ss) =
    elim s.waiting [ [] ↦ elim (first_waiting ss) [ None ↦ None | Some place ↦ Some (suc place) ] | job ∷ jobs ↦ Some 0 ]

-- Whether a lane has a job to serve, and the number of the task that it serves.
abbrev pub busy : PlainBoard → ℕ → Bool
busy b lane = elim (first_waiting (lane_standings b lane)) [ None ↦ false | Some place ↦ true ]

abbrev pub served_task : PlainBoard → ℕ → Option ℕ
served_task b lane =
    elim (first_waiting (lane_standings b lane)) [ None ↦ None | Some place ↦ Some (slice_index (lane_numbers b lane) place) ]

-- Bit k of a byte, and the byte whose bit k is the k-th of these.
abbrev pub bit : ℕ → ℕ → Bool
bit byte k = (byte / 2 ^ k) % 2 == 1

abbrev pub byte_of : List Bool → ℕ
byte_of [] = 0
byte_of (b ∷ bs) = cond b 1 0 + 2 * byte_of bs

-- Begin opens a slot, and answers which lanes have a job to serve.
abbrev pub begin_fault : PlainBoard → Option BoardFault
begin_fault b =
    first_fault (
    fault_if b.slot_open (SlotOpen b.clock)
    ∷ fault_if (nat_le clock_end b.clock) (ClockEnd b.clock)
    ∷ [])

abbrev pub busy_byte : PlainBoard → ℕ
busy_byte b = byte_of (map (busy b) (count_from 0 (length b.lanes)))

abbrev pub after_begin : PlainBoard → PlainBoard
after_begin b = record { tasks = b.tasks; plan = b.plan; clock = b.clock; slot_open = true; lanes = b.lanes }

-- End: bit k of the byte says that the job that lane k serves is finished. It is refused where a bit is set and its lane serves no job.
abbrev pub not_served : PlainBoard → ℕ → ℕ → Option BoardFault
not_served b finished k = fault_if (bit finished k && not (busy b k)) (NotServed k)

abbrev pub end_fault : PlainBoard → ℕ → Option BoardFault
end_fault b finished =
    first_fault (fault_if (not b.slot_open) (SlotShut b.clock) ∷ map (not_served b finished) (count_from 0 8))

-- Every lane serves one slot, and closes its job where it finished or has had its whole work.
abbrev pub after_service : PlainBoard → ℕ → ℕ → List Standing
after_service b finished lane = serve (bit finished lane) (lane_row b.tasks b.plan lane) (lane_standings b lane)

abbrev pub after_end : PlainBoard → ℕ → PlainBoard
after_end b finished =
    record { tasks = b.tasks; plan = b.plan; clock = b.clock + 1; slot_open = false; lanes = map (after_service b finished) (count_from 0 (length b.lanes)) }

-- Whether the job that a lane serves closes at the slot's end.
abbrev pub first_closes : TaskRecord → Bool → List Job → Bool
first_closes t said [] = false
first_closes t said (job ∷ jobs) = closes t said (served_once job)

abbrev pub closes_at_end : PlainBoard → ℕ → ℕ → Bool
closes_at_end b finished lane =
    elim (first_waiting (lane_standings b lane)) [ None ↦ false | Some place ↦ first_closes (slice_index_or (lane_row b.tasks b.plan lane) place (record_of [] 0)) (bit finished lane) (get_or (lane_standings b lane) place unreleased).waiting ]

abbrev pub closed_byte : PlainBoard → ℕ → ℕ
closed_byte b finished = byte_of (map (closes_at_end b finished) (count_from 0 (length b.lanes)))

abbrev pub serving_fault : PlainBoard → ℕ → Option BoardFault
serving_fault b lane =
    first_fault (
    fault_if (nat_le (length b.lanes) lane) (NoLane lane)
    ∷ fault_if (not b.slot_open) (SlotShut b.clock)
    ∷ [])

abbrev pub waiting_fault : PlainBoard → ℕ → Option BoardFault
waiting_fault b task = fault_if (nat_le (length b.tasks) task) (NoTask task)

-- Which fault refuses a call, if any does; what an accepted call answers; and what it leaves.
abbrev pub refusal : PlainBoard → Call → Option BoardFault
refusal b (Post task) = post_fault b task
refusal b Begin = begin_fault b
refusal b (End finished) = end_fault b finished
refusal b (Serving lane) = serving_fault b lane
refusal b (Waiting task) = waiting_fault b task
refusal b Clock = None

abbrev pub accepted_answer : PlainBoard → Call → Answer
accepted_answer b (Post task) = answer.Posted (b.clock + (record_of b.tasks task).limit)
accepted_answer b Begin = answer.Begun (busy_byte b)
accepted_answer b (End finished) = answer.Ended (closed_byte b finished)
accepted_answer b (Serving lane) = answer.Serving (served_task b lane)
accepted_answer b (Waiting task) = answer.Waiting (length (standing_of b task).waiting)
accepted_answer b Clock = answer.Clock b.clock

abbrev pub accepted_board : PlainBoard → Call → PlainBoard
accepted_board b (Post task) = after_post b task
accepted_board b Begin = after_begin b
accepted_board b (End finished) = after_end b finished
accepted_board b (Serving lane) = b
accepted_board b (Waiting task) = b
accepted_board b Clock = b

-- The plain board's answer to a call, and the plain board after it. A refused call changes nothing.
abbrev pub answer_to : PlainBoard → Call → Answer
answer_to b call = elim (refusal b call) [ None ↦ accepted_answer b call | Some fault ↦ answer.Refused fault ]

abbrev pub after_call : PlainBoard → Call → PlainBoard
after_call b call = elim (refusal b call) [ None ↦ accepted_board b call | Some fault ↦ b ]

-- Its answers to a list of calls, and the board after them.
abbrev pub answers_to : PlainBoard → List Call → List Answer
answers_to b [] = []
answers_to b (call ∷ calls) = answer_to b call ∷ answers_to (after_call b call) calls

abbrev pub after_calls : PlainBoard → List Call → PlainBoard
after_calls b [] = b
after_calls b (call ∷ calls) = after_calls (after_call b call) calls
