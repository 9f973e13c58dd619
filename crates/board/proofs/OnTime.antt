-- On a board whose lanes are safe no job that waits has reached its release plus its limit, whatever calls it took.
use Rattle.std.proofs.Common.{◌≡◌, ℕ, zero, suc, ◌+◌, ◌<◌, ◌≤◌, ◌⊎◌, List, length, get_or, take, sym, ap, subst, inl, inr, ⊎_elim, arith}
use Rattle.std.specs.List.{ContainsAt}
use Rattle.std.proofs.ByRecursion.{has_push_cases}
use Rattle.std.proofs.lemmas.Bool.{cases_lt}
use Rattle.tasks.specs.declared.record.TaskRecord.{TaskRecord}
use Rattle.fit.specs.Lane.{Job, Standing, Releases, no_more, stays, comes, no_task, unreleased}
use Rattle.plan.specs.Placing.{LanesAreSafe, lane_of, record_of}
use Rattle.board.specs.declared.call.Call.{Call}
use Rattle.board.specs.PlainBoard.{PlainBoard, new_board, task_place}
use Rattle.board.specs.Promise.{AlwaysOnTime, OnTime}
use Rattle.board.proofs.Places.{record_at_place}
use Rattle.board.proofs.Run.{Run, WorksFit, kept_after_calls, run-after_calls, run_from_new}

-- A job that waits did so before the releases, or was just released.
waits_or_came :
    {clock : ℕ} {row : List TaskRecord} {ss ss' : List Standing} → Releases clock row ss ss'
    → (place : ℕ) (job : Job) → ContainsAt (get_or ss' place unreleased).waiting job
    → ContainsAt (get_or ss place unreleased).waiting job ⊎ (job.release ≡ clock)
waits_or_came no_more place job h = inl h
waits_or_came (stays r) zero job h = inl h
waits_or_came (stays r) (suc place) job h = waits_or_came r place job h
waits_or_came {clock} (comes {s = s} may r) zero job h =
    ⊎_elim (λ old. inl old) (λ new. inr (sym (ap (λ (j : Job). j.release) new)))
    (has_push_cases s.waiting (record { release = clock; served = 0 }) job h)
waits_or_came (comes may r) (suc place) job h = waits_or_came r place job h

pub on_time : (lanes : ℕ) (b : PlainBoard) → Run lanes b → LanesAreSafe lanes b.tasks b.plan → OnTime b
on_time lanes b run safe task job h waits =
    let own = lane_of b.plan task in
    let place = task_place b task in
    let inside = run.on_lanes task h in
    let lane = run.each own inside in
    let there = record_at_place b task h no_task in
    let fits = run.works task h in
    ⊎_elim
    (λ old.
    ⊎_elim (λ early. early)
    (λ late.
    absurd
    (safe own inside place
    (record {
      lane = record { clock = b.clock; standings = lane.before };
      reached = lane.reached;
      job = job;
      waits = old;
      past = subst (λ (t : TaskRecord). job.release + t.limit ≤ b.clock) (sym there) late;
    })))
    (cases_lt b.clock (job.release + (record_of b.tasks task).limit)))
    (λ new. omega (arith, fits))
    (waits_or_came lane.released place job waits)

module _ (tasks : List TaskRecord) (lanes : ℕ) (plan : List ℕ) (start : ℕ) where
  -- No job is late at any point of any list of calls.
  pub always_on_time :
      WorksFit tasks → ((task : ℕ) → task < length tasks → lane_of plan task < lanes) → LanesAreSafe lanes tasks plan
      → (calls : List Call) → AlwaysOnTime (new_board tasks lanes plan start) calls
  always_on_time works on_lanes safe calls k h =
      let new = new_board tasks lanes plan start in
      on_time lanes _ (run-after_calls lanes new (take k calls) (run_from_new tasks lanes plan start works on_lanes))
      (kept_after_calls (LanesAreSafe lanes) new (take k calls) safe)
