-- On a board whose lanes are safe a task always has room for its next job: no post is refused because too many wait.
use Rattle.std.proofs.Common.{◌≡◌, ℕ, zero, suc, ◌*◌, ◌<◌, ◌≤◌, Bool, true, false, not, ◌&&◌, ltb, leb, List, [], ◌∷◌, map, length, get_or, Some, None, Option, sym, refl, subst, arith}
use Rattle.std.specs.List.{AllByRecursion}
use Rattle.std.proofs.ByRecursion.{all-has}
use Rattle.std.proofs.lemmas.Bool.{leb-false, lt-leb, ltb-false}
use Rattle.tasks.specs.declared.record.TaskRecord.{TaskRecord}
use Rattle.fit.specs.Lane.{Standing, Releases, no_more, stays, comes, no_task, unreleased}
use Rattle.fit.proofs.Apart.{room_for_a_release}
use Rattle.plan.specs.Placing.{LanesAreSafe, lane_of, lane_row, record_of}
use Rattle.board.specs.declared.call.Answer.{Answer}
use Rattle.board.specs.declared.call.Answer.TheVariants.{Posted, Begun, Ended, Serving as Serves, Waiting as Waits, Clock as Tells, Refused}
use Rattle.board.specs.declared.call.Call.{Call}
use Rattle.board.specs.declared.call.Call.TheVariants.{Post, Begin, End, Serving, Waiting, Clock}
use Rattle.board.specs.declared.fault.BoardFault.{BoardFault}
use Rattle.board.specs.declared.fault.BoardFault.TheVariants.{Plan, NoLane, NoTask, Early, QueueFull, SlotOpen, SlotShut, NotServed, ClockEnd}
use Rattle.board.specs.PlainBoard.{PlainBoard, accepted_answer, after_call, answer_to, answers_to, busy, bit, clock_end, count_from, fault_if, first_fault, most_waiting, new_board, next_release, not_served, refusal, standing_of, task_place}
use Rattle.board.specs.Promise.{NeverFull}
use Rattle.board.proofs.Places.{record_at_place}
use Rattle.board.proofs.Run.{Run, WorksFit, kept_after_calls, may_release, run-after_call, run_from_new}

-- A task that may release a job has not released one at this clock.
not_yet :
    {clock : ℕ} {row : List TaskRecord} {ss ss' : List Standing} → Releases clock row ss ss'
    → (place : ℕ) → 1 ≤ (get_or row place no_task).gap
    → next_release (get_or row place no_task) (get_or ss' place unreleased) ≤ clock
    → get_or ss place unreleased ≡ get_or ss' place unreleased
not_yet no_more place g n = refl
not_yet (stays r) zero g n = refl
not_yet (stays r) (suc place) g n = not_yet r place g n
not_yet (comes may r) zero g n = absurd (omega arith)
not_yet (comes may r) (suc place) g n = not_yet r place g n

-- Every task of a list has a limit of at most four gaps.
abbrev pub LimitsCovered : List TaskRecord → Type 0
LimitsCovered tasks = (task : ℕ) → task < length tasks → (record_of tasks task).limit ≤ most_waiting * (record_of tasks task).gap

-- Any other fault than this one.
abbrev NotFull : BoardFault → Type 0
NotFull (Plan fault) = Unit {0}
NotFull (NoLane lane) = Unit {0}
NotFull (NoTask task) = Unit {0}
NotFull (Early clock) = Unit {0}
NotFull (QueueFull task) = ⊥
NotFull (SlotOpen clock) = Unit {0}
NotFull (SlotShut clock) = Unit {0}
NotFull (NotServed k) = Unit {0}
NotFull (ClockEnd clock) = Unit {0}

abbrev IfAny : Option BoardFault → Type 0
IfAny None = Unit {0}
IfAny (Some fault) = NotFull fault

abbrev IfRefused : Answer → Type 0
IfRefused (Posted clock) = Unit {0}
IfRefused (Begun byte) = Unit {0}
IfRefused (Ended byte) = Unit {0}
IfRefused (Serves task) = Unit {0}
IfRefused (Waits many) = Unit {0}
IfRefused (Tells clock) = Unit {0}
IfRefused (Refused fault) = NotFull fault

first_not_full : (faults : List (Option BoardFault)) → AllByRecursion IfAny faults → IfAny (first_fault faults)
first_not_full [] h = tt
first_not_full (None ∷ faults) h = first_not_full faults h.1
first_not_full (Some fault ∷ faults) h = h.0

if_not_full : (applies : Bool) (fault : BoardFault) → NotFull fault → IfAny (fault_if applies fault)
if_not_full true fault h = h
if_not_full false fault h = tt

all-not_served : (b : PlainBoard) (finished : ℕ) (ks : List ℕ) → AllByRecursion IfAny (map (not_served b finished) ks)
all-not_served b finished [] = tt
all-not_served b finished (k ∷ ks) =
    (if_not_full (bit finished k && not (busy b k)) (NotServed k) tt, all-not_served b finished ks)

-- Four faults in their order, of which the last does not apply where the first and the third do not.
fourth_never :
    (a₁ a₂ a₃ a₄ : Bool) (f₁ f₂ f₃ f₄ : BoardFault) → NotFull f₁ → NotFull f₂ → NotFull f₃
    → (a₁ ≡ false → a₃ ≡ false → a₄ ≡ false)
    → IfAny (first_fault (fault_if a₁ f₁ ∷ fault_if a₂ f₂ ∷ fault_if a₃ f₃ ∷ fault_if a₄ f₄ ∷ []))
fourth_never true a₂ a₃ a₄ f₁ f₂ f₃ f₄ n₁ n₂ n₃ h = n₁
fourth_never false true a₃ a₄ f₁ f₂ f₃ f₄ n₁ n₂ n₃ h = n₂
fourth_never false false true a₄ f₁ f₂ f₃ f₄ n₁ n₂ n₃ h = n₃
fourth_never false false false a₄ f₁ f₂ f₃ f₄ n₁ n₂ n₃ h =
    subst (λ (a : Bool). IfAny (first_fault (fault_if a f₄ ∷ []))) (sym (h refl refl)) tt

accepted_not_full : (b : PlainBoard) (call : Call) → IfRefused (accepted_answer b call)
accepted_not_full b (Post task) = tt
accepted_not_full b Begin = tt
accepted_not_full b (End finished) = tt
accepted_not_full b (Serving lane) = tt
accepted_not_full b (Waiting task) = tt
accepted_not_full b Clock = tt

module _ (lanes : ℕ) (b : PlainBoard) (run : Run lanes b) (safe : LanesAreSafe lanes b.tasks b.plan) (covered : LimitsCovered b.tasks) where
  -- Where the task may release a job, fewer wait than may.
  room :
      (task : ℕ) → task < length b.tasks → next_release (record_of b.tasks task) (standing_of b task) ≤ b.clock
      → length (standing_of b task).waiting < most_waiting
  room task h due =
      let own = lane_of b.plan task in
      let place = task_place b task in
      let row = lane_row b.tasks b.plan own in
      let inside = run.on_lanes task h in
      let lane = run.each own inside in
      let there = record_at_place b task h no_task in
      let due_there = subst (λ (t : TaskRecord). next_release t (standing_of b task) ≤ b.clock) (sym there) due in
      let same = not_yet lane.released place (subst (λ (t : TaskRecord). 1 ≤ t.gap) (sym there) (omega (arith, run.works task h))) due_there in
      subst (λ (s : Standing). length s.waiting < most_waiting) same
      (room_for_a_release row place most_waiting (record { clock = b.clock; standings = lane.before }) (safe own inside place) (omega arith)
      (subst (λ (t : TaskRecord). t.limit ≤ most_waiting * t.gap) (sym there) (covered task h))
      lane.reached
      (may_release b.clock (get_or row place no_task) (get_or lane.before place unreleased)
      (subst (λ (s : Standing). next_release (get_or row place no_task) s ≤ b.clock) (sym same) due_there)))

  refusal_not_full : (call : Call) → IfAny (refusal b call)
  refusal_not_full (Post task) =
      let next = next_release (record_of b.tasks task) (standing_of b task) in
      fourth_never (leb (length b.tasks) task) b.slot_open (ltb b.clock next) (leb most_waiting (length (standing_of b task).waiting)) (NoTask task) (SlotOpen b.clock) (Early next) (QueueFull task) tt tt tt
      (λ inside due.
      lt-leb most_waiting (length (standing_of b task).waiting)
      (room task (leb-false (length b.tasks) task inside) (ltb-false b.clock next due)))
  refusal_not_full Begin =
      first_not_full (fault_if b.slot_open (SlotOpen b.clock) ∷ fault_if (leb clock_end b.clock) (ClockEnd b.clock) ∷ [])
      (if_not_full b.slot_open (SlotOpen b.clock) tt, (if_not_full (leb clock_end b.clock) (ClockEnd b.clock) tt, tt))
  refusal_not_full (End finished) =
      first_not_full (fault_if (not b.slot_open) (SlotShut b.clock) ∷ map (not_served b finished) (count_from 0 8))
      (if_not_full (not b.slot_open) (SlotShut b.clock) tt, all-not_served b finished (count_from 0 8))
  refusal_not_full (Serving lane) =
      first_not_full (fault_if (leb (length b.lanes) lane) (NoLane lane) ∷ fault_if (not b.slot_open) (SlotShut b.clock) ∷ [])
      (if_not_full (leb (length b.lanes) lane) (NoLane lane) tt, (if_not_full (not b.slot_open) (SlotShut b.clock) tt, tt))
  refusal_not_full (Waiting task) = if_not_full (leb (length b.tasks) task) (NoTask task) tt
  refusal_not_full Clock = tt

  answer_not_full : (call : Call) → IfRefused (answer_to b call)
  answer_not_full call =
      elim (refusal b call) as (λ r. IfAny r → IfRefused (elim r [ None ↦ accepted_answer b call | Some fault ↦ Refused fault ])) [
        | None ↦ λ _. accepted_not_full b call
        | Some fault ↦ λ h. h
      ] (refusal_not_full call)

answers_not_full :
    (lanes : ℕ) (b : PlainBoard) (calls : List Call) → Run lanes b → LanesAreSafe lanes b.tasks b.plan → LimitsCovered b.tasks
    → AllByRecursion IfRefused (answers_to b calls)
answers_not_full lanes b [] run safe covered = tt
answers_not_full lanes b (call ∷ calls) run safe covered = (
  answer_not_full lanes b run safe covered call,
  answers_not_full lanes (after_call b call) calls (run-after_call lanes b run call)
      (kept_after_calls (LanesAreSafe lanes) b (call ∷ []) safe)
      (kept_after_calls (λ tasks plan. LimitsCovered tasks) b (call ∷ []) covered),
)

module _ (tasks : List TaskRecord) (lanes : ℕ) (plan : List ℕ) (start : ℕ) where
  -- No post is ever refused because too many jobs wait.
  pub never_full :
      WorksFit tasks → LimitsCovered tasks → ((task : ℕ) → task < length tasks → lane_of plan task < lanes) → LanesAreSafe lanes tasks plan
      → (calls : List Call) → NeverFull (answers_to (new_board tasks lanes plan start) calls)
  never_full works covered on_lanes safe calls task has =
      let new = new_board tasks lanes plan start in
      all-has IfRefused (answers_to new calls) (Refused (QueueFull task))
      (answers_not_full lanes new calls (run_from_new tasks lanes plan start works on_lanes) safe covered) has
