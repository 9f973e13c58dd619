-- How the rows of the lanes grow, turn by turn, and why lanes whose every task fits are safe.
use Rattle.std.proofs.Common.{◌≡◌, ℕ, zero, suc, ◌+◌, ◌<◌, ◌≤◌, Bool, cond, eqb, ◌≢◌, List, [], ◌∷◌, ◌++◌, map, length, get_or, take, set, Ok, Err, filter, Result, sym, refl, ap, ◌∙◌, subst, ⊎_elim, add-one, arith, MatchResult}
use Rattle.std.proofs.lemmas.List.Elements.{filter_more}
use Rattle.std.proofs.lemmas.List.{append-nil, get_or_append_left, get_or-map, get_or_push, get_or-set_other, length_push, map-append, take_all, take-append-le, take_at}
use Rattle.std.proofs.lemmas.Bool.{cases_eq, cases_lt, eq-eqb, ne_eqb}
use Rattle.fit.specs.Lane.{SafeTask, no_task}
use Rattle.fit.specs.Theorems.{AcceptedInTurn}
use Rattle.fit.specs.Prefix.{accepted_lanes_are_safe}
use Rattle.tasks.specs.List.{held}
use Rattle.tasks.specs.declared.record.TaskRecord.{TaskRecord}
use Rattle.tasks.specs.declared.table.Table.{Table}
use Rattle.plan.specs.Placing.{Checked, Fails, Fits, LanesAreSafe, OnLanes, Passes, Places, Takes, earlier, lane_of, lane_row, order, record_of, row_among, turn}
use Rattle.plan.specs.Steps.{row_on}
use Rattle.plan.specs.declared.fault.PlanFault.{PlanFault}
use Rattle.plan.proofs.Order.{length-order, turn_of, turns_apart}

pub row_read : (rows : List Table) (lane : ℕ) (d : Table) → lane < length rows → row_on rows lane ≡ held (get_or rows lane d)
row_read rows lane d h = get_or-map held rows lane d [] h

module _ (tasks : List TaskRecord) where
  -- The row of a lane before the k-th turn.
  abbrev pub row_at : List ℕ → ℕ → ℕ → List TaskRecord
  row_at plan lane k = row_among tasks plan lane (earlier tasks k)

  module _ (plan : List ℕ) (lane k : ℕ) (h : k < length tasks) where
    grown : row_at plan lane (k + 1) ≡ row_at plan lane k ++ map (record_of tasks) (cond (eqb (lane_of plan (turn tasks k)) lane) (turn tasks k ∷ []) [])
    grown =
        ap (map (record_of tasks)) (filter_more (λ n. eqb (lane_of plan n) lane) (order tasks) k 0 (omega (arith, length-order tasks)))
        ∙ map-append (record_of tasks) (filter (λ n. eqb (lane_of plan n) lane) (earlier tasks k)) (cond (eqb (lane_of plan (turn tasks k)) lane) (turn tasks k ∷ []) [])

    -- The k-th turn's task stands at the end of its own lane's row.
    pub row_grows : lane_of plan (turn tasks k) ≡ lane → row_at plan lane (k + 1) ≡ row_at plan lane k ++ (record_of tasks (turn tasks k) ∷ [])
    row_grows e =
        grown
        ∙ ap (λ (b : Bool). row_at plan lane k ++ map (record_of tasks) (cond b (turn tasks k ∷ []) [])) (eq-eqb (lane_of plan (turn tasks k)) lane e)

    -- The rows of the other lanes stay.
    pub row_stays : lane_of plan (turn tasks k) ≢ lane → row_at plan lane (k + 1) ≡ row_at plan lane k
    row_stays e =
        grown
        ∙ (ap (λ (b : Bool). row_at plan lane k ++ map (record_of tasks) (cond b (turn tasks k ∷ []) [])) (ne_eqb (lane_of plan (turn tasks k)) lane e)
        ∙ append-nil (row_at plan lane k))

  -- No row is longer than the turns before it.
  pub row_short : (plan : List ℕ) (lane k : ℕ) → k ≤ length tasks → length (row_at plan lane k) ≤ k
  row_short plan lane zero h = omega arith
  row_short plan lane (suc k) h =
      let before = row_short plan lane k (omega arith) in
      let inside : k < length tasks = omega arith in
      subst (λ (i : ℕ). length (row_at plan lane i) ≤ i) (add-one k)
      (⊎_elim
      (λ same. omega (arith, ap length (row_grows plan lane k inside same), length_push (row_at plan lane k) (record_of tasks (turn tasks k))))
      (λ other. omega (arith, ap length (row_stays plan lane k inside other)))
      (cases_eq (lane_of plan (turn tasks k)) lane))

  -- Two plans that agree on the tasks before the k-th turn.
  abbrev pub Agree : List ℕ → List ℕ → ℕ → Type 0
  Agree plan plan' k = (j : ℕ) → j < k → lane_of plan (turn tasks j) ≡ lane_of plan' (turn tasks j)

  -- They have the same rows there.
  pub rows_agree : (plan plan' : List ℕ) (lane k : ℕ) → k ≤ length tasks → Agree plan plan' k → row_at plan lane k ≡ row_at plan' lane k
  rows_agree plan plan' lane zero h a = refl
  rows_agree plan plan' lane (suc k) h a =
      let before = rows_agree plan plan' lane k (omega arith) (λ j l. a j (omega arith)) in
      let inside : k < length tasks = omega arith in
      let here = a k (omega arith) in
      let row : ℕ → List TaskRecord = λ i. row_at plan lane i in
      subst (λ (i : ℕ). row_at plan lane i ≡ row_at plan' lane i) (add-one k)
      (⊎_elim
      (λ same.
      row_grows plan lane k inside same
      ∙ (ap (λ (r : List TaskRecord). r ++ (record_of tasks (turn tasks k) ∷ [])) before
      ∙ sym (row_grows plan' lane k inside (sym here ∙ same))))
      (λ other.
      row_stays plan lane k inside other ∙ (before ∙ sym (row_stays plan' lane k inside (λ e. other (here ∙ e)))))
      (cases_eq (lane_of plan (turn tasks k)) lane))

  -- A lane written for the k-th turn's task changes nothing before that turn.
  pub written_agrees : (plan : List ℕ) (v k : ℕ) → k < length tasks → Agree plan (set plan (turn tasks k) v) k
  written_agrees plan v k h j l = sym (get_or-set_other plan (turn tasks k) (turn tasks j) v 0 (turns_apart tasks j k l h))

-- One more accepted task.
pub accepted_push :
    (yes_to : List TaskRecord → TaskRecord → Type 0) (row : List TaskRecord) (t : TaskRecord)
    → AcceptedInTurn yes_to row → yes_to row t → AcceptedInTurn yes_to (row ++ (t ∷ []))
accepted_push yes_to row t h y k l =
    ⊎_elim
    (λ below.
    let front : take k (row ++ (t ∷ [])) ≡ take k row = take-append-le k row (t ∷ []) (omega arith) in
    let here : get_or (row ++ (t ∷ [])) k no_task ≡ get_or row k no_task = get_or_append_left row (t ∷ []) no_task k below in
    subst (λ (r : List TaskRecord). yes_to r (get_or (row ++ (t ∷ [])) k no_task)) (sym front)
    (subst (λ (x : TaskRecord). yes_to (take k row) x) (sym here) (h k below)))
    (λ past.
    let last : length row ≡ k = omega (arith, length_push row t) in
    subst (λ (r : List TaskRecord). yes_to r (get_or (row ++ (t ∷ [])) k no_task)) (sym (take_at row (t ∷ []) k last))
    (subst (λ (x : TaskRecord). yes_to row x) (sym (get_or_push row t no_task k last)) y))
    (cases_lt k (length row))

module _ (yes_to : List TaskRecord → TaskRecord → Type 0) (lanes : ℕ) (tasks : List TaskRecord) (plan : List ℕ) where
  -- Where each task fits, the row of a lane was accepted task by task.
  pub accepted_rows :
      (lane k : ℕ) → k ≤ length tasks → ((j : ℕ) → j < k → Fits yes_to lanes tasks plan j)
      → AcceptedInTurn yes_to (row_at tasks plan lane k)
  accepted_rows lane zero h fits = λ i l. absurd (omega arith)
  accepted_rows lane (suc k) h fits =
      let before = accepted_rows lane k (omega arith) (λ j l. fits j (omega arith)) in
      let inside : k < length tasks = omega arith in
      let t = record_of tasks (turn tasks k) in
      subst (λ (i : ℕ). AcceptedInTurn yes_to (row_at tasks plan lane i)) (add-one k)
      (⊎_elim
      (λ same.
      subst (AcceptedInTurn yes_to) (sym (row_grows tasks plan lane k inside same))
      (accepted_push yes_to (row_at tasks plan lane k) t before
      (subst (λ (own : ℕ). Takes yes_to lanes tasks plan own k) same (fits k (omega arith)))))
      (λ other. subst (AcceptedInTurn yes_to) (sym (row_stays tasks plan lane k inside other)) before)
      (cases_eq (lane_of plan (turn tasks k)) lane))

  -- The check's promise: if the test keeps the law, a plan that passes has no late job on any lane, in any run.
  pub lanes_are-safe :
      ((row : List TaskRecord) (asked : TaskRecord) → yes_to row asked → SafeTask (row ++ (asked ∷ [])) (length row))
      → Passes yes_to lanes tasks plan → LanesAreSafe lanes tasks plan
  lanes_are-safe law passes lane l =
      accepted_lanes_are_safe yes_to law (lane_row tasks plan lane)
      (subst (λ (numbers : List ℕ). AcceptedInTurn yes_to (row_among tasks plan lane numbers))
      (take_all (length tasks) (order tasks) (omega (arith, length-order tasks)))
      (accepted_rows lane (length tasks) (omega arith) passes.fits))

  -- A placing by first fit passes the check.
  pub placed_passes : Places yes_to lanes tasks plan → Passes yes_to lanes tasks plan
  placed_passes p =
      record {
        long = p.long;
        on_lanes = λ number h.
            let at = turn_of tasks number h in
            subst (λ (n : ℕ). lane_of plan n < lanes) at.2 (p.first_fit at.0 at.1).on_lane;
        fits = λ k h. (p.first_fit k h).fits;
      }

  -- What the check answers once length and lanes are seen to.
  pub checked_in_turn :
      ((row : List TaskRecord) (asked : TaskRecord) → yes_to row asked → SafeTask (row ++ (asked ∷ [])) (length row))
      → length plan ≡ length tasks → OnLanes yes_to lanes tasks plan → (r : Result (Unit {0}) PlanFault)
      → MatchResult r (λ _. (k : ℕ) → k < length tasks → Fits yes_to lanes tasks plan k) (λ fault. Fails yes_to lanes tasks plan fault)
      → Checked yes_to lanes tasks plan r
  checked_in_turn law long on (Ok _) fits =
      let passes : Passes yes_to lanes tasks plan = record { long = long; on_lanes = on; fits = fits } in
      (passes, lanes_are-safe law passes)
  checked_in_turn law long on (Err fault) fails = fails
