-- The worked examples, computed from the very definitions that the contracts cite. Tasks are (work, limit, gap).
use Rattle.std.specs.Prelude.{◌≡◌, ℕ, zero, suc, ◌+◌, ◌*◌, ◌<◌, ◌≤◌, List, [], ◌∷◌, ◌++◌, length, sum_by}
use Rattle.board.specs.PlainBoard.{PlainBoard, after_calls, answer_to, new_board, standing_of}
use Rattle.board.specs.declared.call.Answer.TheVariants as answer
use Rattle.board.specs.declared.call.Call.{Call}
use Rattle.board.specs.declared.call.Call.TheVariants.{Post, Begin, End}
use Rattle.board.specs.declared.fault.BoardFault.TheVariants.{Early}
use Rattle.fit.specs.Tests.{EitherYes, ExactYes, LinearYes, SurchargeYes, line, raised, requests, share}
use Rattle.fit.specs.Theorems.{task}
use Rattle.plan.specs.Placing.{Places}
use Rattle.tasks.specs.declared.record.TaskRecord.{TaskRecord}

-- The office's tasks: lock, journal, and one without a name; and a lighter one in its place.
abbrev pub lock : TaskRecord
lock = task 2 6 10

abbrev pub journal : TaskRecord
journal = task 1 4 5

abbrev pub third : TaskRecord
third = task 5 12 12

abbrev pub lighter : TaskRecord
lighter = task 4 12 12

abbrev pub each_slot : TaskRecord
each_slot = task 1 1 1

-- The two sides of the linear test's first rule, and what the exact test asks for within a time.
abbrev pub needed : ℕ → List TaskRecord → TaskRecord → ℕ
needed grid row asked = grid * asked.work + sum_by (line grid asked.limit) row

abbrev pub asked_for : List TaskRecord → TaskRecord → ℕ → ℕ
asked_for row asked time = asked.work + sum_by (requests time) row

-- So many slots in which nobody says that a job is finished.
abbrev pub quiet_slots : ℕ → List Call
quiet_slots zero = []
quiet_slots (suc n) = Begin ∷ End 0 ∷ quiet_slots n

-- The office's three tasks on lane 0, at clock 0, all posted.
abbrev pub office : PlainBoard
office = after_calls (new_board (lock ∷ journal ∷ third ∷ []) 1 (0 ∷ 0 ∷ 0 ∷ []) 0) (Post 0 ∷ Post 1 ∷ Post 2 ∷ [])

-- Journal posted again at 5, none finishing early: the board after so many more slots.
abbrev pub quiet_day : ℕ → PlainBoard
quiet_day slots = after_calls office (quiet_slots 5 ++ (Post 1 ∷ quiet_slots slots))

-- The same, but lock says that it is finished in slot 1.
abbrev pub short_lock_day : ℕ → PlainBoard
short_lock_day slots =
    after_calls office (Begin ∷ End 0 ∷ Begin ∷ End 1 ∷ (quiet_slots 3 ++ (Post 1 ∷ quiet_slots slots)))

-- How many jobs of the third task wait.
abbrev pub third_waits : PlainBoard → ℕ
third_waits b = length (standing_of b 2).waiting

pub record WorkedExamples : Type 0 where
  -- 1. An empty list is placed with an empty plan.
  pub empty_list : (grid lanes : ℕ) → Places (LinearYes grid) lanes [] []
  -- 2. Grid 1: (1, 1, 1) alone is yes by linear and exact.
  pub alone : LinearYes 1 [] each_slot × ExactYes [] each_slot
  -- 3. A second (1, 1, 1) under it is no by both.
  pub second : (LinearYes 1 (each_slot ∷ []) each_slot → ⊥) × (ExactYes (each_slot ∷ []) each_slot → ⊥)
  -- 4. Grid 60: lock under journal is linear yes, 252 ≤ 360.
  pub lock_fits : LinearYes 60 (journal ∷ []) lock × (needed 60 (journal ∷ []) lock ≡ 252) × (60 * lock.limit ≡ 360)
  -- 5. (4, 12, 12) under both is linear yes, 708 ≤ 720.
  pub lighter_fits : LinearYes 60 (journal ∷ lock ∷ []) lighter × (needed 60 (journal ∷ lock ∷ []) lighter ≡ 708) × (60 * lighter.limit ≡ 720)
  -- 6. (5, 12, 12) there is linear no, 768; exact yes, first at t = 9.
  pub third_not_linear : (LinearYes 60 (journal ∷ lock ∷ []) third → ⊥) × (needed 60 (journal ∷ lock ∷ []) third ≡ 768)
  pub third_exact : ExactYes (journal ∷ lock ∷ []) third × (asked_for (journal ∷ lock ∷ []) third 9 ≤ 9)
  pub third_no_sooner : (time : ℕ) → 1 ≤ time → time < 9 → time < asked_for (journal ∷ lock ∷ []) third time
  -- 7. (1, 6, 5) alone, grid 60: linear yes, exact no.
  pub long_limit : LinearYes 60 [] (task 1 6 5) × (ExactYes [] (task 1 6 5) → ⊥)
  -- 8. Grid 5: (3, 20, 5) under (3, 10, 5) meets the first rule, 90 ≤ 100, and is no by the shares, 6 > 5.
  pub shares_first : (needed 5 (task 3 10 5 ∷ []) (task 3 20 5) ≡ 90) × (5 * 20 ≡ 100)
  pub shares_second : (share 5 (task 3 20 5) + sum_by (share 5) (task 3 10 5 ∷ []) ≡ 6) × (LinearYes 5 (task 3 10 5 ∷ []) (task 3 20 5) → ⊥)
  -- 9. Grid 60, cost 1 over either: lock under journal is yes, by exact only.
  pub dear_lock : SurchargeYes 1 (EitherYes (LinearYes 60) ExactYes) (journal ∷ []) lock
  pub dear_needed : needed 60 (raised 1 journal ∷ []) (raised 1 lock) ≡ 444
  pub dear_lock_not_linear : SurchargeYes 1 (LinearYes 60) (journal ∷ []) lock → ⊥
  -- 10. The three tasks on lane 0, all posted at 0, journal again at 5, none finishing early:
  -- the third task closes as the clock becomes 9.
  pub quiet : ((quiet_day 3).clock ≡ 8) × (third_waits (quiet_day 3) ≡ 1) × ((quiet_day 4).clock ≡ 9) × (third_waits (quiet_day 4) ≡ 0)
  -- 11. The same, but lock says finished in slot 1: it closes at 8.
  pub short_lock : ((short_lock_day 2).clock ≡ 7) × (third_waits (short_lock_day 2) ≡ 1) × ((short_lock_day 3).clock ≡ 8) × (third_waits (short_lock_day 3) ≡ 0)
  -- 12. Journal posted at 0 is refused at 4 with 14, place 5; at 5 it is taken and answers 9.
  pub early_journal : answer_to (after_calls office (quiet_slots 4)) (Post 1) ≡ answer.Refused (Early 5)
  pub journal_again : answer_to (after_calls office (quiet_slots 5)) (Post 1) ≡ answer.Posted 9
