-- What a reader answers, against what the bytes spell.
use Rattle.std.specs.Prelude.{◌≡◌, ℕ, ◌+◌, ◌<◌, List, [], ◌++◌, length, drop, Some, None, Ok, Err, Option, Result}
use Rattle.std.specs.List.{between}
use Rattle.sheet.specs.Refusals.{NoFrame, NoRecord}
use Rattle.sheet.specs.Spelling.{Entry, Spellable, Frame, entry_bytes}
use Rattle.sheet.specs.declared.fault.SheetFault.{SheetFault}
use Rattle.sheet.specs.declared.part.Part.{Part}
use Rattle.sheet.specs.declared.part.SheetRecord.{SheetRecord}
use Rattle.sheet.specs.declared.reader.Reader.{Reader}

-- The bytes that the reader has yet to read.
abbrev pub unread : Reader → List ℕ
unread reader = drop reader.at reader.bytes.now

-- A reader is opened exactly over the bytes that have a frame, and stands at the first record.
abbrev pub Opened : List ℕ → Result Reader SheetFault → Type 0
Opened bytes (Ok reader) =
    (reader.bytes.now ≡ bytes) × (reader.at ≡ 8) × Frame bytes reader.grid reader.lanes (unread reader)
Opened bytes (Err fault) = NoFrame bytes fault

-- The name as bytes: none for no name.
abbrev pub name_said : Option Part → List ℕ
name_said None = []
name_said (Some part) = part.bytes.now

-- What a record says that was handed out.
abbrev pub entry_said : SheetRecord → Entry
entry_said r = record { work = r.work; limit = r.limit; gap = r.gap; name = name_said r.name }

-- A name that is handed out has bytes, and is that part of the sheet which begins at this offset.
abbrev pub NameAt : List ℕ → ℕ → Option Part → Type 0
NameAt sheet place None = Unit {0}
NameAt sheet place (Some part) =
    (part.place ≡ place) × (0 < length part.bytes.now) × (part.bytes.now ≡ between place (place + length part.bytes.now) sheet)

-- The reader went over one entry, and nothing else of it changed.
pub record WentOver (e : Entry) (before after : Reader) : Type 0 where
  pub spelled : unread before ≡ entry_bytes e ++ unread after
  pub spellable : Spellable e
  pub at : after.at ≡ before.at + length (entry_bytes e)
  pub bytes : after.bytes.now ≡ before.bytes.now
  pub grid : after.grid ≡ before.grid
  pub lanes : after.lanes ≡ before.lanes

-- The next record: none exactly at the end, and a refusal changes nothing.
abbrev pub Next : Reader → Result (Option SheetRecord) SheetFault → Reader → Type 0
Next before (Ok None) after = (unread before ≡ []) × (after ≡ before)
Next before (Ok (Some r)) after = NameAt before.bytes.now (before.at + 13) r.name × WentOver (entry_said r) before after
Next before (Err fault) after = NoRecord before.at (unread before) fault × (after ≡ before)
