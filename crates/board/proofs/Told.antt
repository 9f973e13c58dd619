-- A slot's end takes one job from each lane whose bit is set in its answer, and none from the others.
use Rattle.std.proofs.Common.{◌≡◌, ℕ, suc, ◌+◌, ◌<◌, Bool, true, false, cond, List, [], ◌∷◌, length, take, Some, None, sum_by, Option, sym, refl, ap, ◌∙◌, arith}
use Rattle.std.proofs.lemmas.List.Sums.{sum_by-cons}
use Rattle.tasks.specs.declared.record.TaskRecord.{TaskRecord}
use Rattle.fit.specs.Lane.{Job, Standing, after_service as service, closes, serve, served_once}
use Rattle.fit.specs.Prefix.{length_releases}
use Rattle.plan.specs.Placing.{lane_of, lane_row}
use Rattle.board.specs.declared.call.Call.{Call}
use Rattle.board.specs.PlainBoard.{PlainBoard, after_end, after_service, bit, closes_at_end, first_waiting, lane_standings, new_board}
use Rattle.board.specs.Promise.{AlwaysTold, ClosingsAreTold, board_at, jobs_on}
use Rattle.board.proofs.Bytes.{bit-counted}
use Rattle.board.proofs.Lanes.{closes_at, closing, one_on}
use Rattle.board.proofs.Counted.{counted-at}
use Rattle.board.proofs.Run.{Run, WorksFit, run-after_calls, run_from_new}

abbrev many : Standing → ℕ
many s = length s.waiting

one_less : (c : Bool) (j : Job) (rest : List Job) → length (cond c rest (j ∷ rest)) + cond c 1 0 ≡ suc (length rest)
one_less true j rest = omega arith
one_less false j rest = omega arith

closes_on : (said : Bool) (t : TaskRecord) (row : List TaskRecord) (s : Standing) (ss : List Standing) (o : Option ℕ) →
    closes_at said (t ∷ row) (s ∷ ss) (one_on o) ≡ closes_at said row ss o
closes_on said t row s ss None = refl
closes_on said t row s ss (Some place) = refl

count_from-first :
    (said : Bool) (t : TaskRecord) (row : List TaskRecord) (last : Option ℕ) (jobs : List Job) (ss : List Standing)
    → sum_by many (serve said row ss) + cond (closing said row ss) 1 0 ≡ sum_by many ss
    → sum_by many (serve said (t ∷ row) (record { last = last; waiting = jobs } ∷ ss)) + cond (closing said (t ∷ row) (record { last = last; waiting = jobs } ∷ ss)) 1 0
    ≡ sum_by many (record { last = last; waiting = jobs } ∷ ss)
count_from-first said t row last [] ss below =
    let s : Standing = record { last = last; waiting = [] } in
    ap (λ (c : Bool). sum_by many (s ∷ serve said row ss) + cond c 1 0) (closes_on said t row s ss (first_waiting ss))
    ∙ omega (arith, below, sum_by-cons many s (serve said row ss), sum_by-cons many s ss)
count_from-first said t row last (j ∷ rest) ss below =
    let s : Standing = record { last = last; waiting = j ∷ rest } in
    ap (λ (n : ℕ). n + cond (closes t said (served_once j)) 1 0) (sum_by-cons many (service t said s j rest) ss)
    ∙ omega (arith, one_less (closes t said (served_once j)) (served_once j) rest, sum_by-cons many s ss)

lane-told :
    (said : Bool) (row : List TaskRecord) (ss : List Standing) → length row ≡ length ss
    → sum_by many (serve said row ss) + cond (closing said row ss) 1 0 ≡ sum_by many ss
lane-told said [] [] long = omega arith
lane-told said [] (s ∷ ss) long = absurd (omega arith)
lane-told said (t ∷ row) [] long = omega arith
lane-told said (t ∷ row) (s ∷ ss) long = count_from-first said t row s.last s.waiting ss (lane-told said row ss (omega arith))

pub closings_told : (lanes : ℕ) (b : PlainBoard) → Run lanes b → (finished : ℕ) → ClosingsAreTold b finished
closings_told lanes b run finished lane h =
    let own = run.each lane (omega (arith, run.many)) in
    let row = lane_row b.tasks b.plan lane in
    let told = lane-told (bit finished lane) row (lane_standings b lane) (sym (length_releases own.released)) in
    ap (λ (c : Bool). jobs_on (after_end b finished) lane + cond c 1 0) (bit-counted (closes_at_end b finished) (length b.lanes) lane h)
    ∙ (ap (λ (ss : List Standing). sum_by many ss + cond (closes_at_end b finished lane) 1 0) (counted-at (after_service b finished) (length b.lanes) lane [] h)
    ∙ told)

module _ (tasks : List TaskRecord) (lanes : ℕ) (plan : List ℕ) (start : ℕ) where
  pub always_told :
      WorksFit tasks → ((task : ℕ) → task < length tasks → lane_of plan task < lanes)
      → (calls : List Call) → AlwaysTold (new_board tasks lanes plan start) calls
  always_told works on_lanes calls k finished h =
      let new = new_board tasks lanes plan start in
      closings_told lanes (board_at new calls k) (run-after_calls lanes new (take k calls) (run_from_new tasks lanes plan start works on_lanes)) finished
