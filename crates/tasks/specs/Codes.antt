-- The layer, the number and the place of each fault of the list layer.
use Rattle.std.specs.Prelude.{ℕ}
use Rattle.sheet.specs.Codes as sheet
use Rattle.sheet.specs.declared.fault.Layer.{Layer}
use Rattle.sheet.specs.declared.fault.Layer.TheVariants.{List}
use Rattle.tasks.specs.declared.fault.Setting.TheVariants.{Grid, Lanes, SwitchCost}
use Rattle.tasks.specs.declared.fault.ListFault.{ListFault}
use Rattle.tasks.specs.declared.fault.ListFault.TheVariants.{Sheet, TooMany, OutOfRange, Bound, OffGrid}

abbrev pub layer : ListFault → Layer
layer (Sheet fault) = sheet.layer fault
layer TooMany = List
layer (OutOfRange setting) = List
layer (Bound task) = List
layer (OffGrid task) = List

abbrev pub number : ListFault → ℕ
number (Sheet fault) = sheet.number fault
number TooMany = 6
number (OutOfRange setting) = 7
number (Bound task) = 8
number (OffGrid task) = 9

abbrev pub place : ListFault → ℕ
place (Sheet fault) = sheet.place fault
place TooMany = 32
place (OutOfRange Grid) = 0
place (OutOfRange Lanes) = 1
place (OutOfRange SwitchCost) = 2
place (Bound task) = task
place (OffGrid task) = task
