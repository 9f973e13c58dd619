-- What the lines of a played day mean, and what the call that plays them answers.
use Rattle.std.specs.Prelude.{ℕ, ◌%◌, cond, List, [], ◌∷◌, Some, None, Ok, Err, Result, ◌==◌}
use Rattle.bench_exports.specs.declared.play.Line.{Line}
use Rattle.board.specs.Codes as board
use Rattle.board.specs.PlainBoard.{PlainBoard, after_call, answer_to, new_board}
use Rattle.board.specs.Preparing.{Prepared}
use Rattle.board.specs.declared.call.Answer.{Answer}
use Rattle.board.specs.declared.call.Answer.TheVariants as answer
use Rattle.board.specs.declared.call.Call.{Call}
use Rattle.board.specs.declared.call.Call.TheVariants.{Post, Begin, End, Serving, Waiting, Clock}
use Rattle.board.specs.declared.fault.BoardFault.{BoardFault}
use Rattle.fit.specs.Tests.{EitherYes, ExactYes, LinearYes}
use Rattle.sheet.specs.Spelling.{Entry}
use Rattle.tasks.specs.Codes as list
use Rattle.tasks.specs.Reading.{Spells, Unreadable}
use Rattle.tasks.specs.declared.fault.ListFault.{ListFault}

-- The call that a line says: 0 post, 1 begin, 2 end, 3 serving, 4 waiting, and any other number the clock.
abbrev pub call_said : Line → Call
call_said line =
    cond (line.call == 0) (Post line.argument) (cond (line.call == 1) Begin (cond (line.call == 2) (End (line.argument % 256)) (cond (line.call == 3) (Serving line.argument) (cond (line.call == 4) (Waiting line.argument) Clock))))

-- 0 for an answer, 1 for none, and else the number of the refusal.
abbrev pub answer_code : Answer → ℕ
answer_code (answer.Posted clock) = 0
answer_code (answer.Begun byte) = 0
answer_code (answer.Ended byte) = 0
answer_code (answer.Serving (Some task)) = 0
answer_code (answer.Serving None) = 1
answer_code (answer.Waiting jobs) = 0
answer_code (answer.Clock clock) = 0
answer_code (answer.Refused fault) = board.number fault

-- The answer as a number, or the place of the refusal.
abbrev pub answer_value : Answer → ℕ
answer_value (answer.Posted clock) = clock
answer_value (answer.Begun byte) = byte
answer_value (answer.Ended byte) = byte
answer_value (answer.Serving (Some task)) = task
answer_value (answer.Serving None) = 0
answer_value (answer.Waiting jobs) = jobs
answer_value (answer.Clock clock) = clock
answer_value (answer.Refused fault) = board.place fault

-- The line with its answer.
abbrev pub told : Line → Answer → Line
told line given = record { call = line.call; argument = line.argument; code = answer_code given; value = answer_value given }

-- The lines with the answers that the plain board gives to their calls in turn.
abbrev pub played : PlainBoard → List Line → List Line
played b [] = []
played b (line ∷ lines) = told line (answer_to b (call_said line)) ∷ played (after_call b (call_said line)) lines

-- Preparing from the board that every box begins with, by the linear test over this grid or else the exact one.
abbrev pub ReadiedFromNew : ℕ → List ℕ → List ℕ → ℕ → Result (Unit {0}) BoardFault → List ℕ → PlainBoard → Type 0
ReadiedFromNew grid sheet plan start = Prepared (EitherYes (LinearYes grid) ExactYes) sheet plan start (new_board [] 1 [] 0)

-- 0 for a day that was played, and else the fault's number.
abbrev pub code_of_day : Result (Unit {0}) BoardFault → ℕ
code_of_day (Ok _) = 0
code_of_day (Err fault) = board.number fault

-- The sheet spells no list; or it gives a board, and the lines are played on it; or it gives none, and the lines are as they were
-- (and the plan, as `Prepared` says).
pub data Played (sheet plan : List ℕ) (start : ℕ) (lines : List Line) : ℕ → List ℕ → List Line → Type 0 where
  unreadable : (fault : ListFault) → Unreadable sheet fault → Played sheet plan start lines (list.number fault) plan lines
  answered : (grid lanes : ℕ) (entries : List Entry) (placed : List ℕ) (b : PlainBoard) → Spells sheet grid lanes entries
      → ReadiedFromNew grid sheet plan start (Ok tt) placed b → Played sheet plan start lines 0 placed (played b lines)
  refused : (grid lanes : ℕ) (entries : List Entry) (fault : BoardFault) (placed : List ℕ) (b : PlainBoard) → Spells sheet grid lanes entries
      → ReadiedFromNew grid sheet plan start (Err fault) placed b → Played sheet plan start lines (board.number fault) placed lines
