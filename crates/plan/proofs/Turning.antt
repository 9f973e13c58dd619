-- What a loop over the turns keeps: the rows are those of the plan.
use Rattle.std.proofs.Common.{◌≡◌, ℕ, ◌+◌, ◌<◌, ◌≤◌, Bool, List, [], ◌∷◌, ◌++◌, map, length, get_or, set, Decides, sym, ap, ◌∙◌, subst, ⊎_elim, arith}
use Rattle.std.proofs.lemmas.List.{get_or-set_other, get_or-set_same, length-map}
use Rattle.std.proofs.lemmas.Bool.{cases_eq}
use Rattle.tasks.specs.List.{held}
use Rattle.tasks.specs.declared.record.TaskRecord.{TaskRecord}
use Rattle.tasks.specs.declared.table.Table.{Table}
use Rattle.plan.specs.Placing.{Takes, lane_of, record_of, turn}
use Rattle.plan.specs.Steps.{RowsAt, row_on}
use Rattle.plan.proofs.Growing.{Agree, row_at, row_grows, row_short, row_stays, rows_agree}

-- After k turns.
pub record Turned (tasks : List TaskRecord) (plan : List ℕ) (k : ℕ) (rows : List Table) : Type 0 where
  pub rows_are : RowsAt tasks plan k rows
  pub within : k ≤ length tasks

pub turned_start :
    (tasks : List TaskRecord) (plan : List ℕ) (rows : List Table)
    → ((lane : ℕ) → row_on rows lane ≡ []) → Turned tasks plan 0 rows
turned_start tasks plan rows e =
    record { rows_are = λ lane l. e lane; within = omega arith }

module _ (tasks : List TaskRecord) (plan : List ℕ) (k : ℕ) (rows : List Table) (t : Turned tasks plan k rows) where
  -- There is room in every row for the next task.
  pub room_in_row : k < length tasks → length tasks ≤ 32 → (lane : ℕ) → lane < 4 → 32 ≤ length (row_on rows lane) → ⊥
  room_in_row h few lane l full =
      omega (arith, ap length (t.rows_are lane l), row_short tasks plan lane k t.within)

  -- The rows are those of any plan that agrees so far.
  pub turned_alike : (plan' : List ℕ) → Agree tasks plan plan' k → Turned tasks plan' k rows
  turned_alike plan' a =
      record {
        rows_are = λ lane l. t.rows_are lane l ∙ rows_agree tasks plan plan' lane k t.within a;
        within = t.within;
      }

  -- What a lane is asked about the next task is what the plan's row of that lane asks in this turn.
  module _ (yes_to : List TaskRecord → TaskRecord → Type 0) (lanes : ℕ) (records : List TaskRecord) (same : records ≡ tasks) (number : ℕ) (is : number ≡ turn tasks k) (lane : ℕ) (l : lane < 4) where
    same-task : record_of records number ≡ record_of tasks (turn tasks k)
    same-task = ap (λ (all : List TaskRecord). record_of all number) same ∙ ap (record_of tasks) is

    pub asked_takes : yes_to (row_on rows lane) (record_of records number) → Takes yes_to lanes tasks plan lane k
    asked_takes yes' =
        subst (λ (row : List TaskRecord). yes_to row (record_of tasks (turn tasks k))) (t.rows_are lane l)
        (subst (λ (x : TaskRecord). yes_to (row_on rows lane) x) same-task yes')

    pub takes_asked : Takes yes_to lanes tasks plan lane k → yes_to (row_on rows lane) (record_of records number)
    takes_asked takes =
        subst (λ (x : TaskRecord). yes_to (row_on rows lane) x) (sym same-task)
        (subst (λ (row : List TaskRecord). yes_to row (record_of tasks (turn tasks k))) (sym (t.rows_are lane l)) takes)

    pub asked_in_turn :
        (r : Bool) → Decides r (yes_to (row_on rows lane) (record_of records number)) → Decides r (Takes yes_to lanes tasks plan lane k)
    asked_in_turn r d = (λ e. asked_takes (d.0 e), λ takes. d.1 (takes_asked takes))

  -- The next task joins the row of its lane.
  pub turned_next :
      (number lane : ℕ) (rows' : List Table) → k < length tasks → number ≡ turn tasks k
      → length rows ≡ 4 → lane < 4 → lane_of plan number ≡ lane
      → map held rows' ≡ set (map held rows) lane (row_on rows lane ++ (record_of tasks number ∷ []))
      → Turned tasks plan (k + 1) rows'
  turned_next number lane rows' here is four l own joined =
      let own_turn : lane_of plan (turn tasks k) ≡ lane = ap (lane_of plan) (sym is) ∙ own in
      let longer = row_on rows lane ++ (record_of tasks number ∷ []) in
      let inside : lane < length (map held rows) = omega (arith, length-map rows held) in
      record {
        rows_are = λ i b.
            ⊎_elim
            (λ same.
            ap (λ (all : List (List TaskRecord)). get_or all i []) joined
            ∙ (ap (λ (j : ℕ). get_or (set (map held rows) lane longer) j []) same
            ∙ (get_or-set_same (map held rows) lane longer [] inside
            ∙ (ap (λ (row : List TaskRecord). row ++ (record_of tasks number ∷ [])) (t.rows_are lane l)
            ∙ (ap (λ (n : ℕ). row_at tasks plan lane k ++ (record_of tasks n ∷ [])) is
            ∙ (sym (row_grows tasks plan lane k here own_turn) ∙ ap (λ (j : ℕ). row_at tasks plan j (k + 1)) (sym same)))))))
            (λ other.
            ap (λ (all : List (List TaskRecord)). get_or all i []) joined
            ∙ (get_or-set_other (map held rows) lane i longer [] other
            ∙ (t.rows_are i b ∙ sym (row_stays tasks plan i k here (λ e. other (sym e ∙ own_turn))))))
            (cases_eq i lane);
        within = omega arith;
      }
