-- Placing into other bytes, as many as the plan has.
use Rattle.std.proofs.Common.{◌≡◌, ℕ, List, length, sym, ◌∙◌}
use Rattle.plan.specs.Placing.{CannotPlace}
use Rattle.plan.specs.declared.fault.PlanFault.{PlanFault}
use Rattle.plan.specs.declared.fault.PlanFault.TheVariants.{List as OfList, PlanLength, NoLane, NoFit}
use Rattle.tasks.specs.declared.record.TaskRecord.{TaskRecord}

module _ (yes_to : List TaskRecord → TaskRecord → Type 0) (lanes : ℕ) (tasks : List TaskRecord) where
  -- Why there is no placing depends on how many bytes there are, and not on what they hold.
  pub same-refusal :
      (bytes others : List ℕ) → length bytes ≡ length others → (fault : PlanFault)
      → CannotPlace yes_to lanes tasks bytes fault → CannotPlace yes_to lanes tasks others fault
  same-refusal bytes others e (PlanLength found) h = (λ long. h.0 (e ∙ long), h.1 ∙ e)
  same-refusal bytes others e (NoFit number) h = (h.0, h.1, sym e ∙ h.2, h.3, h.4, h.5, h.6)
  same-refusal bytes others e (NoLane number) h = h
  same-refusal bytes others e (OfList fault) h = h
