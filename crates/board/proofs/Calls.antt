-- What a call answers, accepted or refused, and the answers of a list of calls, one by one.
use Rattle.std.proofs.Common.{◌≡◌, ℕ, zero, suc, ◌+◌, ◌<◌, ◌≤◌, List, [], ◌∷◌, ◌++◌, length, get_or, take, Some, None, Option, refl, ap, ◌∙◌, arith}
use Rattle.std.proofs.lemmas.List.{take_all, take_more}
use Rattle.board.specs.declared.call.Answer.{Answer}
use Rattle.board.specs.declared.call.Answer.TheVariants.{Refused}
use Rattle.board.specs.declared.call.Call.{Call}
use Rattle.board.specs.declared.fault.BoardFault.{BoardFault}
use Rattle.board.specs.PlainBoard.{PlainBoard, accepted_answer, after_call, after_calls, answer_to, answers_to, refusal}
use Rattle.board.specs.Promise.{board_at}

abbrev pub answer_by : PlainBoard → Call → Option BoardFault → Answer
answer_by b call r = elim r [ None ↦ accepted_answer b call | Some fault ↦ Refused fault ]

-- What an accepted call answers, and a refused one.
pub answer_accepted : (b : PlainBoard) (call : Call) → refusal b call ≡ None → answer_to b call ≡ accepted_answer b call
answer_accepted b call none = ap (answer_by b call) none

pub answer_refused : (b : PlainBoard) (call : Call) (fault : BoardFault) → refusal b call ≡ Some fault → answer_to b call ≡ Refused fault
answer_refused b call fault some = ap (answer_by b call) some

after_push : (b : PlainBoard) (calls : List Call) (call : Call) → after_calls b (calls ++ (call ∷ [])) ≡ after_call (after_calls b calls) call
after_push b [] call = refl
after_push b (first ∷ calls) call = after_push (after_call b first) calls call

answers_push :
    (b : PlainBoard) (calls : List Call) (call : Call)
    → answers_to b (calls ++ (call ∷ [])) ≡ answers_to b calls ++ (answer_to (after_calls b calls) call ∷ [])
answers_push b [] call = refl
answers_push b (first ∷ calls) call =
    ap {B = List Answer} (λ (rest : List Answer). answer_to b first ∷ rest) (answers_push (after_call b first) calls call)

module _ (b : PlainBoard) (calls : List Call) where
  -- One more call of the list.
  pub board_more : (k : ℕ) (d : Call) → k < length calls → board_at b calls (k + 1) ≡ after_call (board_at b calls k) (get_or calls k d)
  board_more k d h = ap (after_calls b) (take_more calls k d h) ∙ after_push b (take k calls) (get_or calls k d)

  pub answers_more :
      (k : ℕ) (d : Call) → k < length calls
      → answers_to b (take (k + 1) calls) ≡ answers_to b (take k calls) ++ (answer_to (board_at b calls k) (get_or calls k d) ∷ [])
  answers_more k d h = ap (answers_to b) (take_more calls k d h) ∙ answers_push b (take k calls) (get_or calls k d)

  -- All calls of the list.
  pub board_all : (k : ℕ) → length calls ≤ k → board_at b calls k ≡ after_calls b calls
  board_all k h = ap (after_calls b) (take_all k calls h)

  pub answers_all : (k : ℕ) → length calls ≤ k → answers_to b (take k calls) ≡ answers_to b calls
  answers_all k h = ap (answers_to b) (take_all k calls h)

-- Every call has one answer.
pub length_answers : (b : PlainBoard) (calls : List Call) → length (answers_to b calls) ≡ length calls
length_answers b [] = refl
length_answers b (call ∷ calls) = ap suc (length_answers (after_call b call) calls)

-- The k-th answer is that of the board after the calls before it.
pub answer_at :
    (b : PlainBoard) (calls : List Call) (k : ℕ) (d : Answer) (c : Call) → k < length calls
    → get_or (answers_to b calls) k d ≡ answer_to (board_at b calls k) (get_or calls k c)
answer_at b [] k d c h = absurd (omega arith)
answer_at b (call ∷ calls) zero d c h = refl
answer_at b (call ∷ calls) (suc k) d c h = answer_at (after_call b call) calls k d c (omega arith)
