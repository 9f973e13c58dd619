-- The layer, the number and the place of each fault of the board layer.
use Rattle.std.specs.Prelude.{ℕ}
use Rattle.board.specs.declared.fault.BoardFault.{BoardFault}
use Rattle.board.specs.declared.fault.BoardFault.TheVariants.{Plan, NoLane, NoTask, Early, QueueFull, SlotOpen, SlotShut, NotServed, ClockEnd}
use Rattle.plan.specs.Codes as plan
use Rattle.sheet.specs.declared.fault.Layer.{Layer}
use Rattle.sheet.specs.declared.fault.Layer.TheVariants.{Board}

abbrev pub layer : BoardFault → Layer
layer (Plan fault) = plan.layer fault
layer (NoLane lane) = Board
layer (NoTask task) = Board
layer (Early clock) = Board
layer (QueueFull task) = Board
layer (SlotOpen clock) = Board
layer (SlotShut clock) = Board
layer (NotServed bit) = Board
layer (ClockEnd clock) = Board

abbrev pub number : BoardFault → ℕ
number (Plan fault) = plan.number fault
number (NoLane lane) = 11
number (NoTask task) = 13
number (Early clock) = 14
number (QueueFull task) = 15
number (SlotOpen clock) = 16
number (SlotShut clock) = 17
number (NotServed bit) = 18
number (ClockEnd clock) = 19

abbrev pub place : BoardFault → ℕ
place (Plan fault) = plan.place fault
place (NoLane lane) = lane
place (NoTask task) = task
place (Early clock) = clock
place (QueueFull task) = task
place (SlotOpen clock) = clock
place (SlotShut clock) = clock
place (NotServed bit) = bit
place (ClockEnd clock) = clock
