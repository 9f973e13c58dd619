-- What a sheet spells. A byte is a number below 256; all numbers stand with the most significant byte first.
use Rattle.std.specs.Prelude.{◌≡◌, ℕ, ◌+◌, ◌/◌, ◌%◌, ◌^◌, ◌<◌, ◌≤◌, List, [], ◌∷◌, ◌++◌, length}
use Rattle.std.specs.List.{flat_map, AllByRecursion}

abbrev pub two_bytes : ℕ → List ℕ
two_bytes n = n / 256 ∷ n % 256 ∷ []

abbrev pub four_bytes : ℕ → List ℕ
four_bytes n = n / 16777216 ∷ (n / 65536) % 256 ∷ (n / 256) % 256 ∷ n % 256 ∷ []

-- What a record of a sheet says: work, limit and gap of a task, and its name. No bytes: no name.
pub record Entry : Type 0 where
  pub work : ℕ
  pub limit : ℕ
  pub gap : ℕ
  pub name : List ℕ

-- A byte that a name may hold.
abbrev pub Printable : ℕ → Type 0
Printable byte = (0x21 ≤ byte) × (byte ≤ 0x7e)

-- A record: one byte that counts those after it, then work, limit and gap in four bytes each, then the name.
abbrev pub entry_bytes : Entry → List ℕ
entry_bytes e =
    (12 + length e.name) ∷ (four_bytes e.work ++ (four_bytes e.limit ++ (four_bytes e.gap ++ e.name)))

-- What a record can say at all, lawful or not.
pub record Spellable (e : Entry) : Type 0 where
  pub work_fits : e.work < 2 ^ 32
  pub limit_fits : e.limit < 2 ^ 32
  pub gap_fits : e.gap < 2 ^ 32
  pub name_fits : length e.name ≤ 20
  pub name_prints : AllByRecursion Printable e.name

-- The records one after the other.
abbrev pub records_bytes : List Entry → List ℕ
records_bytes es = flat_map entry_bytes es

-- A body: the grid in four bytes, the lane count in one, then the records.
abbrev pub body_bytes : ℕ → ℕ → List ℕ → List ℕ
body_bytes grid lanes records = four_bytes grid ++ (lanes ∷ records)

-- A sheet: the version, which is 1, the length of the body in two bytes, and the body.
abbrev pub sheet_bytes : List ℕ → List ℕ
sheet_bytes body = 1 ∷ (two_bytes (length body) ++ body)

-- The bytes are a sheet with this grid, this lane count and, where its records should stand, these bytes.
pub record Frame (bytes : List ℕ) (grid lanes : ℕ) (records : List ℕ) : Type 0 where
  pub spelled : bytes ≡ sheet_bytes (body_bytes grid lanes records)
  pub length_fits : length (body_bytes grid lanes records) < 2 ^ 16
  pub grid_fits : grid < 2 ^ 32
  pub lanes_fit : lanes < 2 ^ 8
