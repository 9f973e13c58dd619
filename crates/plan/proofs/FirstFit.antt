-- First fit, one task after the other.
use Rattle.std.proofs.Common.{◌≡◌, ℕ, ◌+◌, ◌<◌, ◌≤◌, List, length, take, set, Some, None, Err, Option, MatchOption, sym, ap, ◌∙◌, subst, arith, below_more}
use Rattle.std.proofs.lemmas.List.{get_or-set_same, get_or-take, length-take-le}
use Rattle.tasks.specs.declared.record.TaskRecord.{TaskRecord}
use Rattle.plan.specs.Placing.{CannotPlace, FirstFit, Passes, Places, Takes, lane_of, turn}
use Rattle.tasks.specs.declared.table.Table.{Table}
use Rattle.plan.specs.Steps.{FirstFitted, FirstThatTakes, row_on}
use Rattle.plan.specs.declared.fault.PlanFault.{PlanFault}
use Rattle.plan.specs.declared.fault.PlanFault.TheVariants.{List as OfList, PlanLength, NoLane, NoFit}
use Rattle.plan.proofs.Growing.{Agree, placed_passes, written_agrees}
use Rattle.plan.proofs.Order.{turn-within}
use Rattle.plan.proofs.Settled.{Begun, takes_alike}

-- The first lane that takes the task, from what a search over the lanes gives.
pub first_taken :
    (yes_to : List TaskRecord → TaskRecord → Type 0) (rows : List Table) (lanes : ℕ) (asked : TaskRecord) (found : Option ℕ)
    → MatchOption found ((lane : ℕ) → 0 ≤ lane → lane < lanes → yes_to (row_on rows lane) asked → ⊥)
    (λ first. (0 ≤ first) × (first < lanes) × yes_to (row_on rows first) asked × ((lower : ℕ) → 0 ≤ lower → lower < first → yes_to (row_on rows lower) asked → ⊥))
    → FirstThatTakes yes_to rows lanes asked found
first_taken yes_to rows lanes asked None h = λ lane. h lane (omega arith)
first_taken yes_to rows lanes asked (Some first) h = (h.1, h.2, λ lower. h.3 lower (omega arith))

module _ (yes_to : List TaskRecord → TaskRecord → Type 0) (lanes : ℕ) (tasks : List TaskRecord) where
  -- First fit looks at nothing but the lanes up to this turn.
  pub first_fit_alike :
      (plan plan' : List ℕ) (k : ℕ) → k < length tasks → Agree tasks plan plan' (k + 1)
      → FirstFit yes_to lanes tasks plan k → FirstFit yes_to lanes tasks plan' k
  first_fit_alike plan plan' k h a f =
      let own = lane_of plan (turn tasks k) in
      let same = a k (omega arith) in
      record {
        on_lane = subst (λ (lane : ℕ). lane < lanes) same f.on_lane;
        fits =
            subst (λ (lane : ℕ). Takes yes_to lanes tasks plan' lane k) same
            (takes_alike yes_to lanes tasks plan plan' own k (omega arith) (λ j l. a j (omega arith)) f.fits);
        lower_refuse = λ lane l takes.
            f.lower_refuse lane (omega (arith, same))
            (takes_alike yes_to lanes tasks plan' plan lane k (omega arith) (λ j m. sym (a j (omega arith))) takes);
      }

  module _ (plan : List ℕ) (k number lane : ℕ) (h : k < length tasks) (is : number ≡ turn tasks k) where
    pub writing_agrees : Agree tasks plan (set plan number lane) k
    writing_agrees = subst (λ (n : ℕ). Agree tasks plan (set plan n lane) k) (sym is) (written_agrees tasks plan lane k h)

    -- The next task gets the first lane that takes it.
    pub begun-next :
        number < length plan → lane < lanes → Begun yes_to lanes tasks plan k → Takes yes_to lanes tasks plan lane k
        → ((lower : ℕ) → lower < lane → Takes yes_to lanes tasks plan lower k → ⊥)
        → Begun yes_to lanes tasks (set plan number lane) (k + 1)
    begun-next inside on begun takes none =
        let plan' = set plan number lane in
        let own : lane_of plan' (turn tasks k) ≡ lane =
        ap (lane_of plan') (sym is) ∙ get_or-set_same plan number lane 0 inside in
        below_more (λ (j : ℕ). FirstFit yes_to lanes tasks plan' j) k
        (λ j l. first_fit_alike plan plan' j (omega arith) (λ i m. writing_agrees i (omega arith)) (begun j l))
        (record {
          on_lane = omega (arith, own);
          fits =
              subst (λ (l : ℕ). Takes yes_to lanes tasks plan' l k) (sym own)
              (takes_alike yes_to lanes tasks plan plan' lane k (omega arith) writing_agrees takes);
          lower_refuse = λ lower l t.
              none lower (omega (arith, own))
              (takes_alike yes_to lanes tasks plan' plan lower k (omega arith) (λ j m. sym (writing_agrees j m)) t);
        })

  -- The first bytes of the plan are the placing.
  placing_front :
      (plan : List ℕ) → length tasks ≤ length plan → Begun yes_to lanes tasks plan (length tasks)
      → Places yes_to lanes tasks (take (length tasks) plan)
  placing_front plan long begun =
      let front = take (length tasks) plan in
      record {
        long = length-take-le (length tasks) plan long;
        first_fit = λ k h.
            first_fit_alike plan front k h
            (λ j l.
            let within : j < length tasks = omega arith in
            sym (get_or-take (length tasks) plan (turn tasks j) 0 (turn-within tasks j within)))
            (begun k h);
      }

  pub placed_front :
      (plan : List ℕ) → length tasks ≤ length plan → Begun yes_to lanes tasks plan (length tasks)
      → Places yes_to lanes tasks (take (length tasks) plan) × Passes yes_to lanes tasks (take (length tasks) plan)
  placed_front plan long begun =
      let places = placing_front plan long begun in (places, placed_passes yes_to lanes tasks (take (length tasks) plan) places)

  -- If none was found, there is none.
  pub none_fitted :
      (before : List ℕ) → length before ≡ length tasks → (fault : PlanFault)
      → FirstFitted yes_to lanes tasks (Err fault) → CannotPlace yes_to lanes tasks before fault
  none_fitted before long (NoFit number) h = (h.0, h.1, long, h.2, h.3, h.4, h.5)
  none_fitted before long (OfList fault) h = h
  none_fitted before long (PlanLength found) h = absurd h
  none_fitted before long (NoLane number) h = h
