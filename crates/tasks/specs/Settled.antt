-- That bytes can be read in one way only.
use Rattle.std.specs.Prelude.{◌≡◌, ℕ, List}
use Rattle.sheet.specs.Spelling.{Entry}
use Rattle.tasks.specs.Reading.{Spells, Unreadable}
use Rattle.tasks.specs.declared.fault.ListFault.{ListFault}

-- Reading has one answer: bytes spell at most one list, have at most one fault, and never both.
pub record ReadingSettled : Type 0 where
  pub one_list : (bytes : List ℕ) (grid grid' lanes lanes' : ℕ) (entries entries' : List Entry)
      → Spells bytes grid lanes entries → Spells bytes grid' lanes' entries' → (grid ≡ grid') × (lanes ≡ lanes') × (entries ≡ entries')
  pub one_fault : (bytes : List ℕ) (fault fault' : ListFault) → Unreadable bytes fault → Unreadable bytes fault' → fault ≡ fault'
  pub never_both : (bytes : List ℕ) (grid lanes : ℕ) (entries : List Entry) (fault : ListFault)
      → Spells bytes grid lanes entries → Unreadable bytes fault → ⊥
