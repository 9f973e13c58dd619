-- What holds of every board that calls reach: each lane is a run of its row between two slots, and the jobs posted since.
use Rattle.std.proofs.Common.{◌≡◌, ℕ, zero, suc, ◌+◌, ◌<◌, ◌≤◌, Bool, true, false, ltb, leb, List, [], ◌∷◌, length, get_or, take, set, Some, None, Option, sym, refl, ap, ◌∙◌, subst, ⊎_elim, arith}
use Rattle.std.proofs.lemmas.List.{get_or-set_other, get_or-set_same, length-set}
use Rattle.std.proofs.lemmas.Bool.{cases_eq, leb-false, ltb-false}
use Rattle.tasks.specs.Task.{WorkFits}
use Rattle.tasks.specs.declared.record.TaskRecord.{TaskRecord}
use Rattle.fit.specs.Lane.{Job, Standing, MayRelease, Reached, starts, slot, Releases, no_more, stays, comes, fresh, no_task, unreleased, with_job}
use Rattle.fit.specs.Prefix.{length_reached}
use Rattle.plan.specs.Placing.{lane_of, lane_row, record_of}
use Rattle.board.specs.declared.call.Call.{Call}
use Rattle.board.specs.declared.call.Call.TheVariants.{Post, Begin, End, Serving, Waiting, Clock}
use Rattle.board.specs.declared.fault.BoardFault.{BoardFault}
use Rattle.board.specs.declared.fault.BoardFault.TheVariants.{NoTask, Early, QueueFull, SlotOpen}
use Rattle.board.specs.PlainBoard.{PlainBoard, accepted_board, after_begin, after_call, after_calls, after_end, after_post, after_service, bit, fault_if, first_fault, lane_standings, most_waiting, new_board, next_release, post_fault, refusal, standing_of, task_place}
use Rattle.board.specs.Promise.{AlwaysRuns, LaneRun}
use Rattle.board.proofs.Counted.{counted-at, length-counted}
use Rattle.board.proofs.Places.{place_in_row, record_at_place}

-- Every task of a list has some work, which fits into its limit and into its gap.
abbrev pub WorksFit : List TaskRecord → Type 0
WorksFit tasks = (task : ℕ) → task < length tasks → WorkFits (record_of tasks task)

-- The two ways of a call: it is accepted, or a fault refuses it.
abbrev left_by : PlainBoard → Call → Option BoardFault → PlainBoard
left_by b call r = elim r [ None ↦ accepted_board b call | Some fault ↦ b ]

pub after_call_ways :
    (P : PlainBoard → Type 0) (b : PlainBoard) (call : Call)
    → (refusal b call ≡ None → P (accepted_board b call)) → P b → P (after_call b call)
after_call_ways P b call accepted refused =
    elim (refusal b call) as (λ r. refusal b call ≡ r → P (left_by b call r)) [
      | None ↦ accepted
      | Some fault ↦ λ _. refused
    ] refl

pub after-accepted : (b : PlainBoard) (call : Call) → refusal b call ≡ None → after_call b call ≡ accepted_board b call
after-accepted b call none = ap (left_by b call) none

pub after-refused : (b : PlainBoard) (call : Call) (fault : BoardFault) → refusal b call ≡ Some fault → after_call b call ≡ b
after-refused b call fault some = ap (left_by b call) some

-- No call changes the tasks and the plan: what is so of them stays so.
module _ (P : List TaskRecord → List ℕ → Type 0) where
  kept_when_accepted : (b : PlainBoard) (call : Call) → P b.tasks b.plan → P (accepted_board b call).tasks (accepted_board b call).plan
  kept_when_accepted b (Post task) h = h
  kept_when_accepted b Begin h = h
  kept_when_accepted b (End finished) h = h
  kept_when_accepted b (Serving lane) h = h
  kept_when_accepted b (Waiting task) h = h
  kept_when_accepted b Clock h = h

  pub kept_after_calls :
      (b : PlainBoard) (calls : List Call) → P b.tasks b.plan → P (after_calls b calls).tasks (after_calls b calls).plan
  kept_after_calls b [] h = h
  kept_after_calls b (call ∷ calls) h =
      kept_after_calls (after_call b call) calls
      (after_call_ways (λ (after : PlainBoard). P after.tasks after.plan) b call (λ _. kept_when_accepted b call h) h)

pub no_fault :
    (applies : Bool) (fault : BoardFault) (faults : List (Option BoardFault))
    → first_fault (fault_if applies fault ∷ faults) ≡ None → (applies ≡ false) × (first_fault faults ≡ None)
no_fault true fault faults e = cc
no_fault false fault faults e = (refl, e)

-- What an accepted post says of its task.
pub record AcceptedPost (b : PlainBoard) (task : ℕ) : Type 0 where
  pub inside : task < length b.tasks
  pub due : next_release (record_of b.tasks task) (standing_of b task) ≤ b.clock

pub accepted_post : (b : PlainBoard) (task : ℕ) → post_fault b task ≡ None → AcceptedPost b task
accepted_post b task none =
    let next = next_release (record_of b.tasks task) (standing_of b task) in
    let full = fault_if (leb most_waiting (length (standing_of b task).waiting)) (QueueFull task) ∷ [] in
    let early = fault_if (ltb b.clock next) (Early next) ∷ full in
    let first = no_fault (leb (length b.tasks) task) (NoTask task) (fault_if b.slot_open (SlotOpen b.clock) ∷ early) none in
    let second = no_fault b.slot_open (SlotOpen b.clock) early first.1 in
    let third = no_fault (ltb b.clock next) (Early next) full second.1 in
    record { inside = leb-false (length b.tasks) task first.0; due = ltb-false b.clock next third.0 }

all_stay : (clock : ℕ) (row : List TaskRecord) (ss : List Standing) → length ss ≡ length row → Releases clock row ss ss
all_stay clock [] [] e = no_more
all_stay clock [] (s ∷ ss) e = absurd (omega arith)
all_stay clock (t ∷ row) [] e = absurd (omega arith)
all_stay clock (t ∷ row) (s ∷ ss) e = stays (all_stay clock row ss (omega arith))

between_slots : (row : List TaskRecord) (clock : ℕ) (ss : List Standing) → Reached row (record { clock = clock; standings = ss }) → LaneRun row clock ss
between_slots row clock ss r =
    record { before = ss; reached = r; released = all_stay clock row ss (length_reached row r) }

may_release_after :
    (clock : ℕ) (t : TaskRecord) (last : Option ℕ) (waiting : List Job)
    → next_release t (record { last = last; waiting = waiting }) ≤ clock
    → MayRelease clock t (record { last = last; waiting = waiting })
may_release_after clock t None waiting h = tt
may_release_after clock t (Some last) waiting h = h

pub may_release : (clock : ℕ) (t : TaskRecord) (s : Standing) → next_release t s ≤ clock → MayRelease clock t s
may_release clock t s h = may_release_after clock t s.last s.waiting h

-- A post is one more release: its task has not released at this clock, since its gap is at least 1.
posted :
    {clock : ℕ} {row : List TaskRecord} {ss ss' : List Standing} → Releases clock row ss ss'
    → (place : ℕ) → place < length row → 1 ≤ (get_or row place no_task).gap
    → next_release (get_or row place no_task) (get_or ss' place unreleased) ≤ clock
    → Releases clock row ss (set ss' place (with_job clock (get_or ss' place unreleased)))
posted no_more place h g n = absurd (omega arith)
posted {clock} (stays {t = t} {s = s} r) zero h g n = comes (may_release clock t s n) r
posted (stays r) (suc place) h g n = stays (posted r place (omega arith) g n)
posted (comes may r) zero h g n = absurd (omega arith)
posted (comes may r) (suc place) h g n = comes may (posted r place (omega arith) g n)

-- What holds of a board on so many lanes, whatever calls it took.
pub record Run (lanes : ℕ) (b : PlainBoard) : Type 0 where
  pub works : WorksFit b.tasks
  pub on_lanes : (task : ℕ) → task < length b.tasks → lane_of b.plan task < lanes
  pub many : length b.lanes ≡ lanes
  pub each : (lane : ℕ) → lane < lanes → LaneRun (lane_row b.tasks b.plan lane) b.clock (lane_standings b lane)

module _ (lanes : ℕ) (b : PlainBoard) (run : Run lanes b) where
  -- The lane of a task takes one more release of it.
  posted_lane :
      (task : ℕ) → task < length b.tasks → next_release (record_of b.tasks task) (standing_of b task) ≤ b.clock
      → LaneRun (lane_row b.tasks b.plan (lane_of b.plan task)) b.clock (set (lane_standings b (lane_of b.plan task)) (task_place b task) (with_job b.clock (standing_of b task)))
  posted_lane task h n =
      let own = run.each (lane_of b.plan task) (run.on_lanes task h) in
      let there = record_at_place b task h no_task in
      record {
        before = own.before;
        reached = own.reached;
        released = posted own.released (task_place b task) (place_in_row b task h)
            (subst (λ (t : TaskRecord). 1 ≤ t.gap) (sym there) (omega (arith, run.works task h)))
            (subst (λ (t : TaskRecord). next_release t (standing_of b task) ≤ b.clock) (sym there) n);
      }

  run-after_post : (task : ℕ) → post_fault b task ≡ None → Run lanes (after_post b task)
  run-after_post task none =
      let post = accepted_post b task none in
      let h = post.inside in
      let own = lane_of b.plan task in
      let now = posted_lane task h post.due in
      let new = set (lane_standings b own) (task_place b task) (with_job b.clock (standing_of b task)) in
      record {
        works = run.works;
        on_lanes = run.on_lanes;
        many = length-set b.lanes own new ∙ run.many;
        each = λ lane l.
            ⊎_elim
            (λ same.
            subst (λ (k : ℕ). LaneRun (lane_row b.tasks b.plan k) b.clock (get_or (set b.lanes own new) k [])) (sym same)
            (subst (LaneRun (lane_row b.tasks b.plan own) b.clock) (sym (get_or-set_same b.lanes own new [] (omega (arith, run.on_lanes task h, run.many)))) now))
            (λ other.
            subst (LaneRun (lane_row b.tasks b.plan lane) b.clock) (sym (get_or-set_other b.lanes own lane new [] other)) (run.each lane l))
            (cases_eq lane own);
      }

  run-after_begin : Run lanes (after_begin b)
  run-after_begin = record { works = run.works; on_lanes = run.on_lanes; many = run.many; each = run.each }

  -- At the slot's end each lane has run one slot further.
  run-after_end : (finished : ℕ) → Run lanes (after_end b finished)
  run-after_end finished =
      record {
        works = run.works;
        on_lanes = run.on_lanes;
        many = length-counted (after_service b finished) (length b.lanes) ∙ run.many;
        each = λ lane l.
            let row = lane_row b.tasks b.plan lane in
            let own = run.each lane l in
            subst (LaneRun row (b.clock + 1))
            (sym (counted-at (after_service b finished) (length b.lanes) lane [] (omega (arith, run.many))))
            (between_slots row (b.clock + 1) (after_service b finished lane) (slot own.reached own.released (bit finished lane)));
      }

  run-after-accepted : (call : Call) → refusal b call ≡ None → Run lanes (accepted_board b call)
  run-after-accepted (Post task) none = run-after_post task none
  run-after-accepted Begin none = run-after_begin
  run-after-accepted (End finished) none = run-after_end finished
  run-after-accepted (Serving lane) none = run
  run-after-accepted (Waiting task) none = run
  run-after-accepted Clock none = run

  pub run-after_call : (call : Call) → Run lanes (after_call b call)
  run-after_call call = after_call_ways (Run lanes) b call (run-after-accepted call) run

-- A new board is such a board, and stays one.
module _ (tasks : List TaskRecord) (lanes : ℕ) (plan : List ℕ) (start : ℕ) where
  pub run_from_new :
      WorksFit tasks → ((task : ℕ) → task < length tasks → lane_of plan task < lanes) → Run lanes (new_board tasks lanes plan start)
  run_from_new works on_lanes =
      let new : ℕ → List Standing = λ lane. (fresh start (lane_row tasks plan lane)).standings in
      record {
        works = works;
        on_lanes = on_lanes;
        many = length-counted new lanes;
        each = λ lane l.
            subst (LaneRun (lane_row tasks plan lane) start) (sym (counted-at new lanes lane [] l))
            (between_slots (lane_row tasks plan lane) start (new lane) (starts start));
      }

pub run-after_calls : (lanes : ℕ) (b : PlainBoard) (calls : List Call) → Run lanes b → Run lanes (after_calls b calls)
run-after_calls lanes b [] run = run
run-after_calls lanes b (call ∷ calls) run = run-after_calls lanes (after_call b call) calls (run-after_call lanes b run call)

module _ (tasks : List TaskRecord) (lanes : ℕ) (plan : List ℕ) (start : ℕ) where
  -- At every point of every list of calls each lane is on some run.
  pub always_runs :
      WorksFit tasks → ((task : ℕ) → task < length tasks → lane_of plan task < lanes)
      → (calls : List Call) → AlwaysRuns (new_board tasks lanes plan start) calls
  always_runs works on_lanes calls k h lane inside =
      let new = new_board tasks lanes plan start in
      let run = run-after_calls lanes new (take k calls) (run_from_new tasks lanes plan start works on_lanes) in
      run.each lane (omega (arith, run.many))
