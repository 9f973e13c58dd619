-- When bytes are no sheet: each fault as a statement about the bytes. Offsets count from byte 0.
use Rattle.std.specs.Prelude.{◌≡◌, ℕ, ◌+◌, ◌*◌, ◌<◌, ◌≢◌, ◌⊎◌, List, [], ◌∷◌, length, take, slice_index, slice_range}
use Rattle.std.specs.List.{AllByRecursion}
use Rattle.sheet.specs.Spelling.{Printable}
use Rattle.sheet.specs.declared.fault.SheetFault.{SheetFault}
use Rattle.sheet.specs.declared.fault.SheetFault.TheVariants.{Short, Version, Trailing, ShortBody, RecordLength, NameByte, NoTask}

-- The length of the body as bytes 1 and 2 give it.
abbrev pub claimed_length : List ℕ → ℕ
claimed_length bytes = 256 * slice_index bytes 1 + slice_index bytes 2

-- There are not three bytes, or fewer than the length says.
abbrev pub TooShort : List ℕ → Type 0
TooShort bytes = (length bytes < 3) ⊎ (length bytes < 3 + claimed_length bytes)

-- Bytes that have no frame, each fault only where none above it applies.
abbrev pub NoFrame : List ℕ → SheetFault → Type 0
NoFrame bytes (Short present) = TooShort bytes × (present ≡ length bytes)
NoFrame bytes Version = (TooShort bytes → ⊥) × (slice_index bytes 0 ≢ 1)
NoFrame bytes (Trailing first) =
    (TooShort bytes → ⊥) × (slice_index bytes 0 ≡ 1) × (first ≡ 3 + claimed_length bytes) × (first < length bytes)
NoFrame bytes ShortBody =
    (slice_index bytes 0 ≡ 1) × (length bytes ≡ 3 + claimed_length bytes) × (claimed_length bytes < 5)
NoFrame bytes (RecordLength at) = ⊥
NoFrame bytes (NameByte at) = ⊥
NoFrame bytes (NoTask task) = ⊥

-- The length of the record at the front is outside 12 to 32, or runs past the end.
abbrev pub BadLength : List ℕ → Type 0
BadLength [] = ⊥
BadLength (count ∷ more) = (count < 12) ⊎ ((32 < count) ⊎ (length more < count))

-- The name in the record at the front.
abbrev pub name_bytes : List ℕ → List ℕ
name_bytes [] = []
name_bytes (count ∷ more) = slice_range more 12 count

-- Byte i of the name in the record at the front is the first that is not printable.
pub record BadNameByte (records : List ℕ) (i : ℕ) : Type 0 where
  pub whole : BadLength records → ⊥
  pub inside : i < length (name_bytes records)
  pub fine_before : AllByRecursion Printable (take i (name_bytes records))
  pub bad : Printable (slice_index (name_bytes records) i) → ⊥

-- Bytes that stand at the offset `at` and begin with no record.
abbrev pub NoRecord : ℕ → List ℕ → SheetFault → Type 0
NoRecord at records (RecordLength place) = BadLength records × (place ≡ at)
NoRecord at records (NameByte place) = (i : ℕ) × BadNameByte records i × (place ≡ at + 13 + i)
NoRecord at records (Short present) = ⊥
NoRecord at records Version = ⊥
NoRecord at records (Trailing first) = ⊥
NoRecord at records ShortBody = ⊥
NoRecord at records (NoTask task) = ⊥
