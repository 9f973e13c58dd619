-- Place and check have one answer each: no two faults, no fault beside a pass, and no two placings.
use Rattle.std.proofs.Common.{◌≡◌, ℕ, zero, suc, ◌+◌, ◌<◌, ◌≤◌, List, length, sym, ap, ◌∙◌, subst, ⊎_elim, arith}
use Rattle.std.proofs.lemmas.List.{ext_get_or}
use Rattle.std.proofs.lemmas.Bool.{cases_lt, cases_order}
use Rattle.tasks.specs.declared.record.TaskRecord.{TaskRecord}
use Rattle.plan.specs.Placing.{CannotPlace, Fails, FirstFit, Passes, Places, Settled, Takes, lane_of, record_of, turn}
use Rattle.plan.specs.declared.fault.PlanFault.{PlanFault}
use Rattle.plan.specs.declared.fault.PlanFault.TheVariants.{List as OfList, PlanLength, NoLane, NoFit}
use Rattle.plan.proofs.Order.{turn_of}
use Rattle.plan.proofs.Growing.{Agree, rows_agree}

module _ (yes_to : List TaskRecord → TaskRecord → Type 0) (lanes : ℕ) (tasks : List TaskRecord) where
  -- The tasks before the k-th turn are placed by first fit.
  abbrev pub Begun : List ℕ → ℕ → Type 0
  Begun plan k = (j : ℕ) → j < k → FirstFit yes_to lanes tasks plan j

  pub takes_alike :
      (plan plan' : List ℕ) (lane k : ℕ) → k ≤ length tasks → Agree tasks plan plan' k
      → Takes yes_to lanes tasks plan lane k → Takes yes_to lanes tasks plan' lane k
  takes_alike plan plan' lane k h a =
      subst (λ (row : List TaskRecord). yes_to row (record_of tasks (turn tasks k))) (rows_agree tasks plan plan' lane k h a)

  same_lane :
      (plan plan' : List ℕ) (k : ℕ) → k ≤ length tasks → Agree tasks plan plan' k
      → FirstFit yes_to lanes tasks plan k → FirstFit yes_to lanes tasks plan' k
      → lane_of plan (turn tasks k) ≡ lane_of plan' (turn tasks k)
  same_lane plan plan' k h a f f' =
      let own = lane_of plan (turn tasks k) in
      let own' = lane_of plan' (turn tasks k) in
      ⊎_elim (λ e. e)
      (⊎_elim
      (λ lower. absurd (f'.lower_refuse own lower (takes_alike plan plan' own k h a f.fits)))
      (λ lower. absurd (f.lower_refuse own' lower (takes_alike plan' plan own' k h (λ j l. sym (a j l)) f'.fits))))
      (cases_order own own')

  -- Two placings by first fit agree, as far as both have come.
  pub begun_agree : (plan plan' : List ℕ) (k : ℕ) → k ≤ length tasks → Begun plan k → Begun plan' k → Agree tasks plan plan' k
  begun_agree plan plan' zero h b b' j l = absurd (omega arith)
  begun_agree plan plan' (suc k) h b b' j l =
      let before = begun_agree plan plan' k (omega arith) (λ i m. b i (omega arith)) (λ i m. b' i (omega arith)) in
      ⊎_elim (λ sooner. before j sooner)
      (λ past.
      let here : k ≡ j = omega arith in
      subst (λ (i : ℕ). lane_of plan (turn tasks i) ≡ lane_of plan' (turn tasks i)) here
      (same_lane plan plan' k (omega arith) before (b k (omega arith)) (b' k (omega arith))))
      (cases_lt j k)

  -- What no lane takes after one placing, no lane takes after another.
  stuck :
      (begun plan : List ℕ) (k : ℕ) → k < length tasks → Begun begun k → Begun plan (k + 1)
      → ((lane : ℕ) → lane < lanes → Takes yes_to lanes tasks begun lane k → ⊥) → ⊥
  stuck begun plan k h b p none =
      let fit = p k (omega arith) in
      let a = begun_agree plan begun k (omega arith) (λ i m. p i (omega arith)) b in
      let own = lane_of plan (turn tasks k) in
      none own fit.on_lane (takes_alike plan begun own k (omega arith) a fit.fits)

  one_placing : (plan plan' : List ℕ) → Places yes_to lanes tasks plan → Places yes_to lanes tasks plan' → plan ≡ plan'
  one_placing plan plan' p p' =
      ext_get_or 0 plan plan' (p.long ∙ sym p'.long)
      (λ n l.
      let at = turn_of tasks n (omega (arith, p.long)) in
      subst (λ (i : ℕ). lane_of plan i ≡ lane_of plan' i) at.2
      (begun_agree plan plan' (length tasks) (omega arith) p.first_fit p'.first_fit at.0 at.1))

  one_place_fault :
      (plan : List ℕ) (f f' : PlanFault) → CannotPlace yes_to lanes tasks plan f → CannotPlace yes_to lanes tasks plan f' → f ≡ f'
  one_place_fault plan (OfList x) f' h h' = absurd h
  one_place_fault plan (NoLane n) f' h h' = absurd h
  one_place_fault plan (PlanLength n) (OfList x) h h' = absurd h'
  one_place_fault plan (PlanLength n) (NoLane m) h h' = absurd h'
  one_place_fault plan (PlanLength n) (PlanLength m) h h' = ap PlanLength (h.1 ∙ sym h'.1)
  one_place_fault plan (PlanLength n) (NoFit m) h h' = absurd (h.0 h'.2)
  one_place_fault plan (NoFit n) (OfList x) h h' = absurd h'
  one_place_fault plan (NoFit n) (NoLane m) h h' = absurd h'
  one_place_fault plan (NoFit n) (PlanLength m) h h' = absurd (h'.0 h.2)
  one_place_fault plan (NoFit n) (NoFit m) h h' =
      ⊎_elim (λ e. ap NoFit (h.4 ∙ (ap (turn tasks) e ∙ sym h'.4)))
      (⊎_elim
      (λ sooner. absurd (stuck h.1 h'.1 h.0 h.3 h.5 (λ i l. h'.5 i (omega arith)) h.6))
      (λ sooner. absurd (stuck h'.1 h.1 h'.0 h'.3 h'.5 (λ i l. h.5 i (omega arith)) h'.6)))
      (cases_order h.0 h'.0)

  no_fault_placed :
      (before plan : List ℕ) (f : PlanFault) → length before ≡ length tasks
      → CannotPlace yes_to lanes tasks before f → Places yes_to lanes tasks plan → ⊥
  no_fault_placed before plan (OfList x) long h p = h
  no_fault_placed before plan (NoLane n) long h p = h
  no_fault_placed before plan (PlanLength n) long h p = h.0 long
  no_fault_placed before plan (NoFit n) long h p =
      let inside = h.3 in
      stuck h.1 plan h.0 h.3 h.5 (λ i l. p.first_fit i (omega arith)) h.6

  one_check_fault :
      (plan : List ℕ) (f f' : PlanFault) → Fails yes_to lanes tasks plan f → Fails yes_to lanes tasks plan f' → f ≡ f'
  one_check_fault plan (OfList x) f' h h' = absurd h
  one_check_fault plan (PlanLength n) (OfList x) h h' = absurd h'
  one_check_fault plan (PlanLength n) (PlanLength m) h h' = ap PlanLength (h.1 ∙ sym h'.1)
  one_check_fault plan (PlanLength n) (NoLane m) h h' = absurd (h.0 h'.0)
  one_check_fault plan (PlanLength n) (NoFit m) h h' = absurd (h.0 h'.4)
  one_check_fault plan (NoLane n) (OfList x) h h' = absurd h'
  one_check_fault plan (NoLane n) (PlanLength m) h h' = absurd (h'.0 h.0)
  one_check_fault plan (NoLane n) (NoLane m) h h' =
      ⊎_elim (λ e. ap NoLane e)
      (⊎_elim (λ lower. absurd (omega (arith, h.2, h'.3 n lower))) (λ lower. absurd (omega (arith, h'.2, h.3 m lower))))
      (cases_order n m)
  one_check_fault plan (NoLane n) (NoFit m) h h' = absurd (omega (arith, h.2, h'.5 n h.1))
  one_check_fault plan (NoFit n) (OfList x) h h' = absurd h'
  one_check_fault plan (NoFit n) (PlanLength m) h h' = absurd (h'.0 h.4)
  one_check_fault plan (NoFit n) (NoLane m) h h' = absurd (omega (arith, h'.2, h.5 m h'.1))
  one_check_fault plan (NoFit n) (NoFit m) h h' =
      ⊎_elim (λ e. ap NoFit (h.2 ∙ (ap (turn tasks) e ∙ sym h'.2)))
      (⊎_elim (λ sooner. absurd (h.3 (h'.6 h.0 sooner))) (λ sooner. absurd (h'.3 (h.6 h'.0 sooner))))
      (cases_order h.0 h'.0)

  no_fault_passes : (plan : List ℕ) (f : PlanFault) → Fails yes_to lanes tasks plan f → Passes yes_to lanes tasks plan → ⊥
  no_fault_passes plan (OfList x) h p = h
  no_fault_passes plan (PlanLength n) h p = h.0 p.long
  no_fault_passes plan (NoLane n) h p = omega (arith, h.2, p.on_lanes n h.1)
  no_fault_passes plan (NoFit n) h p = h.3 (p.fits h.0 h.1)

  pub settled : Settled yes_to lanes tasks
  settled =
      record {
        one_check_fault = one_check_fault;
        no_fault_passes = no_fault_passes;
        one_placing = one_placing;
        one_place_fault = one_place_fault;
        no_fault_placed = no_fault_placed;
      }
