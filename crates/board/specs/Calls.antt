-- What a call to a board answers and leaves: what the plain board gives.
use Rattle.std.specs.Prelude.{◌≡◌, Some, None, Ok, Err, Result}
use Rattle.board.specs.PlainBoard.{PlainBoard, accepted_answer, accepted_board, refusal}
use Rattle.board.specs.declared.call.Answer.{Answer}
use Rattle.board.specs.declared.call.Call.{Call}
use Rattle.board.specs.declared.fault.BoardFault.{BoardFault}

-- The call was answered: accepted with the plain board's answer, in the form `as_answer` gives the result, and the board that
-- it leaves; or refused with the fault that applies first, and nothing changed.
abbrev pub Answered : {R : Type 0} → PlainBoard → Call → (R → Answer) → Result R BoardFault → PlainBoard → Type 0
Answered before call as_answer (Ok result) after =
    (refusal before call ≡ None) × (as_answer result ≡ accepted_answer before call) × (after ≡ accepted_board before call)
Answered before call as_answer (Err fault) after = (refusal before call ≡ Some fault) × (after ≡ before)
