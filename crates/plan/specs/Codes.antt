-- The layer, the number and the place of each fault of the plan layer.
use Rattle.std.specs.Prelude.{ℕ}
use Rattle.plan.specs.declared.fault.PlanFault.{PlanFault}
use Rattle.plan.specs.declared.fault.PlanFault.TheVariants.{List, PlanLength, NoLane, NoFit}
use Rattle.sheet.specs.declared.fault.Layer.{Layer}
use Rattle.sheet.specs.declared.fault.Layer.TheVariants.{Plan}
use Rattle.tasks.specs.Codes as list

abbrev pub layer : PlanFault → Layer
layer (List fault) = list.layer fault
layer (PlanLength length) = Plan
layer (NoLane task) = Plan
layer (NoFit task) = Plan

abbrev pub number : PlanFault → ℕ
number (List fault) = list.number fault
number (PlanLength length) = 10
number (NoLane task) = 11
number (NoFit task) = 12

abbrev pub place : PlanFault → ℕ
place (List fault) = list.place fault
place (PlanLength length) = length
place (NoLane task) = task
place (NoFit task) = task
