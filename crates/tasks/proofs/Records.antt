-- The steps of reading a list: what one record more, or a record that is refused, says of the bytes.
use Rattle.std.proofs.Common.{◌≡◌, ℕ, List, ◌++◌, length, sym, ap, ◌∙◌, arith}
use Rattle.sheet.specs.Spelling.{Entry, Spellable, entry_bytes}
use Rattle.tasks.specs.Filling.{CannotJoin}
use Rattle.tasks.specs.Reading.{NoNextTask, numbers_said}
use Rattle.tasks.specs.declared.fault.ListFault.{ListFault}
use Rattle.tasks.specs.declared.fault.ListFault.TheVariants.{Sheet, TooMany, OutOfRange, Bound, OffGrid}
use Rattle.tasks.specs.declared.record.TaskRecord.{TaskRecord}

-- a whole record stands there, and its task cannot join
pub refused_join : (at grid : ℕ) (tasks : List TaskRecord) (rest : List ℕ) (e : Entry) (more : List ℕ) (fault : ListFault)
    → rest ≡ entry_bytes e ++ more → Spellable e → CannotJoin grid tasks (numbers_said e) fault → NoNextTask at grid tasks rest fault
refused_join at grid tasks rest e more TooMany spelled fits full =
    (full, λ none. let z : ◌≡◌ {A = ℕ} 0 (length (entry_bytes e ++ more)) = sym (ap length none) ∙ ap length spelled in omega arith)
refused_join at grid tasks rest e more (Bound task) spelled fits cannot = (e, more, spelled, fits, cannot)
refused_join at grid tasks rest e more (OffGrid task) spelled fits cannot = (e, more, spelled, fits, cannot)
refused_join at grid tasks rest e more (Sheet fault) spelled fits cannot = elim cannot [ ]
refused_join at grid tasks rest e more (OutOfRange setting) spelled fits cannot = elim cannot [ ]
