-- Where a task stands on its lane: its place in the lane's order, and its record in the lane's row.
use Rattle.std.proofs.Common.{◌≡◌, ℕ, zero, suc, ◌<◌, Bool, true, false, cond, eqb, List, [], ◌∷◌, length, get_or, filter, sym, refl, ap, ◌∙◌, subst, arith}
use Rattle.std.proofs.lemmas.List.{get_or-map, length-map}
use Rattle.std.proofs.lemmas.Bool.{both_ways, eq-eqb, eqb-true}
use Rattle.tasks.specs.declared.record.TaskRecord.{TaskRecord}
use Rattle.plan.specs.Placing.{lane_of, lane_row, order, record_of}
use Rattle.plan.proofs.Order.{length-order, turn_of}
use Rattle.board.specs.PlainBoard.{PlainBoard, lane_numbers, place_among, task_place}

-- A number that stands in a list stands at its place.
at_place : (ns : List ℕ) (n : ℕ) → place_among ns n < length ns → get_or ns (place_among ns n) 0 ≡ n
at_place [] n h = absurd (omega arith)
at_place (x ∷ ns) n h =
    elim (eqb x n) as (λ b. eqb x n ≡ b → cond b 0 (suc (place_among ns n)) < suc (length ns) → get_or (x ∷ ns) (cond b 0 (suc (place_among ns n))) 0 ≡ n) [
      | true ↦ λ e l. eqb-true x n e
      | false ↦ λ e l. at_place ns n (omega arith)
    ] refl h

place_found : (ns : List ℕ) (n k : ℕ) → k < length ns → get_or ns k 0 ≡ n → place_among ns n < length ns
place_found [] n k h e = absurd (omega arith)
place_found (x ∷ ns) n zero h e =
    subst (λ (b : Bool). cond b 0 (suc (place_among ns n)) < suc (length ns)) (sym (eq-eqb x n e)) (omega arith)
place_found (x ∷ ns) n (suc k) h e =
    let later = place_found ns n k (omega arith) e in
    elim (eqb x n) as (λ b. cond b 0 (suc (place_among ns n)) < suc (length ns)) [ true ↦ omega arith | false ↦ omega arith ]

-- A filter that keeps the number keeps it a place.
place_kept :
    (keep : ℕ → Bool) (ns : List ℕ) (n : ℕ) → place_among ns n < length ns → keep n ≡ true
    → place_among (filter keep ns) n < length (filter keep ns)
place_kept keep [] n h k = absurd (omega arith)
place_kept keep (x ∷ ns) n h k =
    let kept = filter keep ns in
    elim (keep x) as (λ q. keep x ≡ q → place_among (cond q (x ∷ kept) kept) n < length (cond q (x ∷ kept) kept)) [
      | true ↦ λ e.
          elim (eqb x n) as (λ b. cond b 0 (suc (place_among ns n)) < suc (length ns) → cond b 0 (suc (place_among kept n)) < suc (length kept)) [
            | true ↦ λ l. omega arith
            | false ↦ λ l. omega (arith, place_kept keep ns n (omega arith) k)
          ] h
      | false ↦ λ e.
          elim (eqb x n) as (λ b. eqb x n ≡ b → cond b 0 (suc (place_among ns n)) < suc (length ns) → place_among kept n < length kept) [
            | true ↦ λ same l. absurd (both_ways (keep x) e (ap keep (eqb-true x n same) ∙ k))
            | false ↦ λ other l. place_kept keep ns n (omega arith) k
          ] refl h
    ] refl

module _ (b : PlainBoard) (task : ℕ) (h : task < length b.tasks) where
  -- The lane of the task has a place for it, and its number and its record stand there.
  pub task_has_a_place : task_place b task < length (lane_numbers b (lane_of b.plan task))
  task_has_a_place =
      let at = turn_of b.tasks task h in
      place_kept (λ number. eqb (lane_of b.plan number) (lane_of b.plan task)) (order b.tasks) task
      (place_found (order b.tasks) task at.0 (omega (arith, at.1, length-order b.tasks)) at.2)
      (eq-eqb (lane_of b.plan task) (lane_of b.plan task) refl)

  pub number-at-place : get_or (lane_numbers b (lane_of b.plan task)) (task_place b task) 0 ≡ task
  number-at-place = at_place (lane_numbers b (lane_of b.plan task)) task task_has_a_place

  pub place_in_row : task_place b task < length (lane_row b.tasks b.plan (lane_of b.plan task))
  place_in_row = omega (arith, task_has_a_place, length-map (lane_numbers b (lane_of b.plan task)) (record_of b.tasks))

  pub record_at_place :
      (d : TaskRecord) → get_or (lane_row b.tasks b.plan (lane_of b.plan task)) (task_place b task) d ≡ record_of b.tasks task
  record_at_place d =
      get_or-map (record_of b.tasks) (lane_numbers b (lane_of b.plan task)) (task_place b task) 0 d task_has_a_place
      ∙ ap (record_of b.tasks) number-at-place
