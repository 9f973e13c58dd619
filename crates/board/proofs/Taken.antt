-- A job that a post takes waits on the board after it.
use Rattle.std.proofs.Common.{◌≡◌, ℕ, ◌<◌, List, [], length, get_or, take, set, None, sym, ap, ◌∙◌, subst, arith}
use Rattle.std.specs.List.{ContainsAt}
use Rattle.std.proofs.ByRecursion.{has_push}
use Rattle.std.proofs.lemmas.List.{get_or-set_same}
use Rattle.tasks.specs.declared.record.TaskRecord.{TaskRecord}
use Rattle.fit.specs.Lane.{Job, Standing, unreleased, with_job}
use Rattle.fit.specs.Prefix.{length_releases}
use Rattle.plan.specs.Placing.{lane_of}
use Rattle.board.specs.declared.call.Call.{Call}
use Rattle.board.specs.declared.call.Call.TheVariants.{Clock, Post}
use Rattle.board.specs.PlainBoard.{PlainBoard, after_call, after_post, lane_standings, new_board, refusal, standing_of, task_place}
use Rattle.board.specs.Promise.{AlwaysTaken, Taken, Waits, board_at}
use Rattle.board.proofs.Places.{place_in_row}
use Rattle.board.proofs.Run.{Run, WorksFit, accepted_post, after-accepted, run-after_calls, run_from_new}

module _ (lanes : ℕ) (b : PlainBoard) (run : Run lanes b) where
  abbrev new_job : Job
  new_job = record { release = b.clock; served = 0 }

  -- After the post the task stands as it was written.
  pub standing-after_post :
      (task : ℕ) → task < length b.tasks → standing_of (after_post b task) task ≡ with_job b.clock (standing_of b task)
  standing-after_post task h =
      let own = lane_of b.plan task in
      let place = task_place b task in
      let inside = run.on_lanes task h in
      let s = with_job b.clock (standing_of b task) in
      ap (λ (ss : List Standing). get_or ss place unreleased)
      (get_or-set_same b.lanes own (set (lane_standings b own) place s) [] (omega (arith, inside, run.many)))
      ∙ get_or-set_same (lane_standings b own) place s unreleased
      (omega (arith, length_releases (run.each own inside).released, place_in_row b task h))

  taken_by_post : (task : ℕ) → refusal b (Post task) ≡ None → Waits (after_call b (Post task)) task new_job
  taken_by_post task none =
      subst (λ (after : PlainBoard). Waits after task new_job) (sym (after-accepted b (Post task) none))
      (subst (λ (s : Standing). ContainsAt s.waiting new_job)
      (sym (standing-after_post task (accepted_post b task none).inside))
      (has_push (standing_of b task).waiting new_job))

  pub taken : (call : Call) → Taken b call
  taken call task is none =
      subst (λ (c : Call). refusal b c ≡ None → Waits (after_call b c) task new_job) (sym is) (taken_by_post task) none

module _ (tasks : List TaskRecord) (lanes : ℕ) (plan : List ℕ) (start : ℕ) where
  pub always_taken :
      WorksFit tasks → ((task : ℕ) → task < length tasks → lane_of plan task < lanes)
      → (calls : List Call) → AlwaysTaken (new_board tasks lanes plan start) calls
  always_taken works on_lanes calls k h =
      let new = new_board tasks lanes plan start in
      taken lanes (board_at new calls k) (run-after_calls lanes new (take k calls) (run_from_new tasks lanes plan start works on_lanes)) (get_or calls k Clock)
