-- The layer, the number and the place of each fault of the sheet layer.
use Rattle.std.specs.Prelude.{ℕ}
use Rattle.sheet.specs.declared.fault.Layer.{Layer}
use Rattle.sheet.specs.declared.fault.Layer.TheVariants.{Sheet}
use Rattle.sheet.specs.declared.fault.SheetFault.{SheetFault}
use Rattle.sheet.specs.declared.fault.SheetFault.TheVariants.{Short, Version, Trailing, ShortBody, RecordLength, NameByte, NoTask}

abbrev pub layer : SheetFault → Layer
layer fault = Sheet

abbrev pub number : SheetFault → ℕ
number (Short present) = 1
number Version = 2
number (Trailing first) = 3
number ShortBody = 4
number (RecordLength at) = 4
number (NameByte at) = 5
number (NoTask task) = 13

-- offsets count from the sheet's first byte, which is byte 0
abbrev pub place : SheetFault → ℕ
place (Short present) = present
place Version = 0
place (Trailing first) = first
place ShortBody = 3
place (RecordLength at) = at
place (NameByte at) = at
place (NoTask task) = task
