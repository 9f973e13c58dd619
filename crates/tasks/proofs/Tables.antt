-- What holds of every record of a table holds after a push, if it holds of the record pushed.
use Rattle.std.proofs.Common.{◌≡◌, ℕ, ◌+◌, ◌<◌, ◌≤◌, ◌⊎◌, List, [], ◌∷◌, ◌++◌, length, get_or, Ok, Err, Result, sym, subst, inl, inr, arith}
use Rattle.std.proofs.lemmas.List.{length_push, get_or_push, get_or_append_left}
use Rattle.std.proofs.lemmas.Bool.{cases_lt}
use Rattle.tasks.specs.List.{held, blank}
use Rattle.tasks.specs.Tables.{Pushed}
use Rattle.tasks.specs.declared.fault.ListFault.{ListFault}
use Rattle.tasks.specs.declared.record.TaskRecord.{TaskRecord}
use Rattle.tasks.specs.declared.table.Table.{Table}

module _ (P : TaskRecord → Type 0) where
  abbrev Each : List TaskRecord → Type 0
  Each xs = (k : ℕ) → k < length xs → P (get_or xs k blank)

  each_push : (xs : List TaskRecord) (t : TaskRecord) → Each xs → P t → Each (xs ++ (t ∷ []))
  each_push xs t all here k inside =
      let long : length (xs ++ (t ∷ [])) ≡ length xs + 1 = length_push xs t in
      go (cases_lt k (length xs)) (omega arith)
    where
      go : (k < length xs) ⊎ (length xs ≤ k) → k < length xs + 1 → P (get_or (xs ++ (t ∷ [])) k blank)
      go (inl old) bound = subst P (sym (get_or_append_left xs (t ∷ []) blank k old)) (all k old)
      go (inr new) bound = subst P (sym (get_or_push xs t blank k (omega arith))) here

  pub each_pushed : (t : TaskRecord) (before : Table) (r : Result (Unit {0}) ListFault) (after : Table)
      → Pushed t before r after → Each (held before) → P t → Each (held after)
  each_pushed t before (Ok u) after pushed all here = subst Each (sym pushed.1) (each_push (held before) t all here)
  each_pushed t before (Err f) after pushed all here = subst (λ table. Each (held table)) (sym pushed.2) all
