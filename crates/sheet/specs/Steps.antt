-- What the steps of reading one record give.
use Rattle.std.specs.Prelude.{◌≡◌, ℕ, ◌+◌, Bool, ◌||◌, List, ◌++◌, drop, nat_lt}
use Rattle.std.specs.List.{between}
use Rattle.sheet.specs.Reading.{NameAt, name_said}
use Rattle.sheet.specs.Spelling.{four_bytes}
use Rattle.sheet.specs.declared.part.SheetRecord.{SheetRecord}

-- Whether no name may hold the byte: it is not printable.
abbrev pub unprintable : ℕ → Bool
unprintable byte = nat_lt byte 0x21 || nat_lt 0x7e byte

-- The record whose length byte stands at `at` and whose last byte stands before `end`.
pub record RecordAt (bytes : List ℕ) (at end : ℕ) (r : SheetRecord) : Type 0 where
  pub name : name_said r.name ≡ between (at + 13) end bytes
  pub name_at : NameAt bytes (at + 13) r.name
  pub work : drop (at + 1) bytes ≡ four_bytes r.work ++ drop (at + 5) bytes
  pub limit : drop (at + 5) bytes ≡ four_bytes r.limit ++ drop (at + 9) bytes
  pub gap : drop (at + 9) bytes ≡ four_bytes r.gap ++ drop (at + 13) bytes
