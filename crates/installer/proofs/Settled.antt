-- The call has one answer, since reading and placing have.
use Rattle.std.proofs.Common.{◌≡◌, ℕ, List, ◌++◌, length, take, drop, sym, refl, ap, ◌∙◌, subst, arith}
use Rattle.fit.specs.Tests.{LinearYes}
use Rattle.installer.specs.Installing.{CallSettled, NoPlan, PlacedList, Written}
use Rattle.installer.specs.Installing.Installed.{placed, refused}
use Rattle.plan.proofs.Settled.{settled as placing}
use Rattle.plan.specs.Codes.{number}
use Rattle.plan.specs.Placing.{CannotPlace}
use Rattle.plan.specs.declared.fault.PlanFault.{PlanFault}
use Rattle.plan.specs.declared.fault.PlanFault.TheVariants.{List as OfList, PlanLength, NoLane, NoFit}
use Rattle.sheet.specs.Spelling.{Entry}
use Rattle.std.proofs.lemmas.List.{length-map, length-take-le, take-append-drop}
use Rattle.tasks.proofs.Settled.{settled as reading}
use Rattle.tasks.specs.Codes as list
use Rattle.tasks.specs.Reading.{Spells, numbers_said, tasks_said}

module _ (sheet before : List ℕ) where
  -- bytes that are written by the same list are the same
  one_written : (grid lanes : ℕ) (entries : List Entry) (after after' : List ℕ) → Written grid lanes entries before after
      → Written grid lanes entries before after' → after ≡ after'
  one_written grid lanes entries after after' w w' =
      let n = length entries in
      let front : take n after ≡ take n after' = (placing (LinearYes grid) lanes (tasks_said entries)).one_placing (take n after) (take n after') w.places w'.places in
      sym (take-append-drop n after)
      ∙ ap (λ (xs : List ℕ). xs ++ drop n after) front
      ∙ ap (λ (xs : List ℕ). take n after' ++ xs) (w.rest ∙ sym w'.rest)
      ∙ take-append-drop n after'

  one-plan : (after after' : List ℕ) → PlacedList sheet before after → PlacedList sheet before after' → after ≡ after'
  one-plan after after' p q =
      let same = reading.one_list sheet q.grid p.grid q.lanes p.lanes q.entries p.entries q.spells p.spells in
      let on_grid = subst (λ (g : ℕ). Written g q.lanes q.entries before after') same.0 q.written in
      let on_lanes = subst (λ (m : ℕ). Written p.grid m q.entries before after') same.1 on_grid in
      let here = subst (λ (es : List Entry). Written p.grid p.lanes es before after') same.2 on_lanes in
      one_written p.grid p.lanes p.entries after after' p.written here

  -- a sheet has as many entries as it has
  as_many : (grid grid' lanes lanes' : ℕ) (es es' : List Entry) → Spells sheet grid lanes es → Spells sheet grid' lanes' es' → length es ≡ length es'
  as_many grid grid' lanes lanes' es es' s s' = ap length (reading.one_list sheet grid grid' lanes lanes' es es' s s').2

  -- where there is a plan there is no fault
  never_both : (after : List ℕ) → PlacedList sheet before after → (fault : PlanFault) → NoPlan sheet before fault → ⊥
  never_both after p (OfList fault) bad = reading.never_both sheet p.grid p.lanes p.entries fault p.spells bad
  never_both after p (PlanLength found) bad =
      let few = bad.4 in
      let room = p.written.room in
      omega (arith, as_many bad.0 p.grid bad.1 p.lanes bad.2 p.entries bad.3 p.spells)
  never_both after p (NoFit task) bad =
      let same = reading.one_list sheet bad.0 p.grid bad.1 p.lanes bad.2 p.entries bad.3 p.spells in
      let n = length p.entries in
      let on_grid = subst (λ (g : ℕ). CannotPlace (LinearYes g) bad.1 (tasks_said bad.2) (take (length bad.2) before) (NoFit task)) same.0 bad.5 in
      let on_lanes = subst (λ (m : ℕ). CannotPlace (LinearYes p.grid) m (tasks_said bad.2) (take (length bad.2) before) (NoFit task)) same.1 on_grid in
      let here = subst (λ (es : List Entry). CannotPlace (LinearYes p.grid) p.lanes (tasks_said es) (take (length es) before) (NoFit task)) same.2 on_lanes in
      let long : length (take n before) ≡ length (tasks_said p.entries) = length-take-le n before p.written.room ∙ sym (length-map p.entries numbers_said) in
      (placing (LinearYes p.grid) p.lanes (tasks_said p.entries)).no_fault_placed (take n before) (take n after) (NoFit task) long here p.written.places
  never_both after p (NoLane task) bad = elim bad [ ]

  -- two faults have one number
  one_number : (f g : PlanFault) → NoPlan sheet before f → NoPlan sheet before g → number f ≡ number g
  one_number (OfList f) (OfList g) a b = ap list.number (reading.one_fault sheet f g a b)
  one_number (OfList f) (PlanLength found) a b = absurd (reading.never_both sheet b.0 b.1 b.2 f b.3 a)
  one_number (OfList f) (NoFit task) a b = absurd (reading.never_both sheet b.0 b.1 b.2 f b.3 a)
  one_number (PlanLength found) (OfList g) a b = absurd (reading.never_both sheet a.0 a.1 a.2 g a.3 b)
  one_number (PlanLength found) (PlanLength found') a b = refl
  one_number (PlanLength found) (NoFit task) a b =
      let few = a.4 in
      let room = b.4 in
      absurd (omega (arith, as_many a.0 b.0 a.1 b.1 a.2 b.2 a.3 b.3))
  one_number (NoFit task) (OfList g) a b = absurd (reading.never_both sheet a.0 a.1 a.2 g a.3 b)
  one_number (NoFit task) (PlanLength found) a b =
      let few = b.4 in
      let room = a.4 in
      absurd (omega (arith, as_many a.0 b.0 a.1 b.1 a.2 b.2 a.3 b.3))
  one_number (NoFit task) (NoFit task') a b = refl
  one_number (NoLane task) g a b = elim a [ ]
  one_number (OfList f) (NoLane task) a b = elim b [ ]
  one_number (PlanLength found) (NoLane task) a b = elim b [ ]
  one_number (NoFit task) (NoLane task') a b = elim b [ ]

pub call_settled : CallSettled
call_settled sheet before _ _ after after' (placed p) (placed q) = (refl, one-plan sheet before after after' p q)
call_settled sheet before _ _ after after' (placed p) (refused fault bad) = absurd (never_both sheet before after p fault bad)
call_settled sheet before _ _ after after' (refused fault bad) (placed q) = absurd (never_both sheet before after' q fault bad)
call_settled sheet before _ _ after after' (refused f a) (refused g b) = (one_number sheet before f g a b, refl)
