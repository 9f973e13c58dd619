-- A block of the listing from what place answered.
use Rattle.std.proofs.Common.{◌≡◌, ℕ, List, ◌++◌, length, take, drop, ap, ◌∙◌, subst, append_assoc, arith}
use Rattle.std.proofs.lemmas.Grind.{common_steps}
use Rattle.lanes.specs.Listing.{refusal_line, task_lines}
use Rattle.lanes.specs.Listing.Block.{placed, unplaced}
use Rattle.lanes.specs.Steps.{BlockAdded, LinesAdded}
use Rattle.plan.specs.Codes.{number, place}
use Rattle.plan.specs.Placing.{CannotPlace, Places}
use Rattle.plan.specs.declared.fault.PlanFault.{PlanFault}
use Rattle.plan.specs.declared.fault.PlanFault.TheVariants.{List as OfList, PlanLength, NoLane, NoFit}
use Rattle.std.proofs.lemmas.List.{length-map}
use Rattle.tasks.specs.Filling.{tasks_of}
use Rattle.tasks.specs.Reading.{numbers_said}
use Rattle.tasks.specs.declared.list.TaskList.{TaskList}
use Rattle.tasks.specs.declared.record.TaskRecord.{TaskRecord}

-- a plan that was filled in its place
pub filled_in_place : (plan filled : List ℕ) (count : ℕ) → count ≡ length plan → length filled ≡ length plan → take count (filled ++ drop (length filled) plan) ≡ filled
filled_in_place plan filled count count_is long = grind (arith, common_steps)

module _ (yes_to : List TaskRecord → TaskRecord → Type 0) (bytes : List ℕ) (list : TaskList) (heading text begun done : List ℕ) (headed : begun ≡ text ++ heading) where
  -- every task has a lane
  pub block_placed : (plan : List ℕ) → Places yes_to list.lanes (tasks_of list) plan → LinesAdded bytes plan (length plan) begun done
      → BlockAdded yes_to bytes list heading text done
  block_placed plan places lines entries read =
      let all : length plan ≡ length entries = places.long ∙ ap length read.tasks_are ∙ length-map entries numbers_said in
      let here = subst (λ ts. Places yes_to list.lanes ts plan) read.tasks_are places in (
        heading ++ task_lines plan entries (length entries),
        placed plan here,
        lines list.grid list.lanes entries read.spells all
            ∙ ap (λ n. begun ++ task_lines plan entries n) all
            ∙ ap (λ t. t ++ task_lines plan entries (length entries)) headed
            ∙ append_assoc text heading (task_lines plan entries (length entries)),
      )

  -- some task has none
  pub block_unplaced : (plan : List ℕ) (fault : PlanFault) → length plan ≡ length (tasks_of list)
      → CannotPlace yes_to list.lanes (tasks_of list) plan fault → done ≡ begun ++ refusal_line (number fault) (place fault)
      → BlockAdded yes_to bytes list heading text done
  block_unplaced plan (NoFit task) long cannot refused entries read =
      let here = subst (λ ts. CannotPlace yes_to list.lanes ts plan (NoFit task)) read.tasks_are cannot in (
        heading ++ refusal_line 12 task,
        unplaced plan task here,
        refused ∙ ap (λ t. t ++ refusal_line 12 task) headed ∙ append_assoc text heading (refusal_line 12 task),
      )
  block_unplaced plan (PlanLength found) long cannot refused entries read = absurd (cannot.0 long)
  block_unplaced plan (NoLane task) long cannot refused entries read = elim cannot [ ]
  block_unplaced plan (OfList fault) long cannot refused entries read = elim cannot [ ]
