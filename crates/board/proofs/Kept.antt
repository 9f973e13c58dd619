-- The promise is kept: by the plain board, for every plan that passes the check and every list of calls.
use Rattle.std.proofs.Common.{◌≡◌, ℕ, List}
use Rattle.tasks.specs.declared.record.TaskRecord.{TaskRecord}
use Rattle.plan.specs.Placing.{Passes}
use Rattle.plan.proofs.Growing.{lanes_are-safe}
use Rattle.board.specs.declared.call.Answer.{Answer}
use Rattle.board.specs.declared.call.Call.{Call}
use Rattle.board.specs.PlainBoard.{PlainBoard, after_calls, answers_to, new_board}
use Rattle.board.specs.Promise.{Promise}
use Rattle.board.proofs.Closing.{always_closed_rightly}
use Rattle.board.proofs.Judged.{KeepsTheLaw}
use Rattle.board.proofs.OnTime.{always_on_time}
use Rattle.board.proofs.Run.{WorksFit}
use Rattle.board.proofs.Taken.{always_taken}

module _ (yes_to : List TaskRecord → TaskRecord → Type 0) (lanes : ℕ) (tasks : List TaskRecord) where
  -- A board that answered as the plain board and stands as the plain board has kept it.
  pub promise_kept :
      KeepsTheLaw yes_to → WorksFit tasks
      → (plan : List ℕ) (start : ℕ) → Passes yes_to lanes tasks plan
      → (calls : List Call) (answers : List Answer) (left : PlainBoard)
      → answers ≡ answers_to (new_board tasks lanes plan start) calls
      → left ≡ after_calls (new_board tasks lanes plan start) calls
      → Promise yes_to lanes tasks plan start calls answers left
  promise_kept law works plan start passes calls answers left answered board_left =
      let safe = lanes_are-safe yes_to lanes tasks plan law passes in
      record {
        passed = passes;
        safe = safe;
        answered = answered;
        board_left = board_left;
        taken = always_taken tasks lanes plan start works passes.on_lanes calls;
        on_time = always_on_time tasks lanes plan start works passes.on_lanes safe calls;
        closed_rightly = always_closed_rightly (new_board tasks lanes plan start) calls;
      }
