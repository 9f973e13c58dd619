-- Two ways to read the same records agree as far as both go, and only one fault can end them.
use Rattle.std.proofs.Common.{◌≡◌, ℕ, ◌<◌, ◌≤◌, ◌⊎◌, List, [], ◌∷◌, ◌++◌, length, sym, refl, ap, ◌∙◌, subst, ap₂, inl, inr, append_assoc, arith}
use Rattle.sheet.proofs.Unique.{end_faultless, entry_faultless, entry_once, record_fault_once}
use Rattle.sheet.specs.Spelling.{Entry, Spellable, entry_bytes, records_bytes}
use Rattle.std.proofs.lemmas.List.{length-map}
use Rattle.std.specs.List.{AllByRecursion}
use Rattle.tasks.specs.Reading.{NoNextTask, numbers_said, tasks_said}
use Rattle.tasks.specs.Task.{Bounded, Lawful, OnGrid}
use Rattle.tasks.specs.declared.fault.ListFault.{ListFault}
use Rattle.tasks.specs.declared.fault.ListFault.TheVariants.{Sheet, TooMany, OutOfRange, Bound, OffGrid}
use Rattle.tasks.specs.declared.record.TaskRecord.{TaskRecord}

pub nothing_there : (e : Entry) (more : List ℕ) → [] ≡ entry_bytes e ++ more → ⊥
nothing_there e more none = let long : ◌≡◌ {A = ℕ} 0 (length (entry_bytes e ++ more)) = ap length none in omega arith

-- At `rest`, after these entries, the next one of a longer list stands.
pub record Goes_on (grid : ℕ) (entries longer : List Entry) (rest : List ℕ) : Type 0 where
  pub next : Entry
  pub more : List ℕ
  pub spelled : rest ≡ entry_bytes next ++ more
  pub spellable : Spellable next
  pub lawful : Lawful grid (numbers_said next)
  pub fewer : length entries < length longer

module _ (grid : ℕ) where
  abbrev LawfulEntry : Entry → Type 0
  LawfulEntry e = Lawful grid (numbers_said e)

  abbrev pub Agree : List Entry → List Entry → List ℕ → List ℕ → Type 0
  Agree es es' rest rest' = ((es ≡ es') × (rest ≡ rest')) ⊎ (Goes_on grid es es' rest ⊎ Goes_on grid es' es rest')

  goes_on-more : (e e' : Entry) (es longer : List Entry) (rest : List ℕ) → Goes_on grid es longer rest → Goes_on grid (e ∷ es) (e' ∷ longer) rest
  goes_on-more e e' es longer rest on = record {
    next = on.next;
    more = on.more;
    spelled = on.spelled;
    spellable = on.spellable;
    lawful = on.lawful;
    fewer = let fewer = on.fewer in omega arith;
  }

  agree_more : (e e' : Entry) (es es' : List Entry) (rest rest' : List ℕ) → e ≡ e' → Agree es es' rest rest' → Agree (e ∷ es) (e' ∷ es') rest rest'
  agree_more e e' es es' rest rest' same (inl both) = inl (ap₂ ◌∷◌ same both.0, both.1)
  agree_more e e' es es' rest rest' same (inr (inl on)) = inr (inl (goes_on-more e e' es es' rest on))
  agree_more e e' es es' rest rest' same (inr (inr on)) = inr (inr (goes_on-more e' e es' es rest' on))

  -- Entries that begin the same records agree as far as both go.
  pub agree : (es es' : List Entry) (rest rest' : List ℕ) → AllByRecursion Spellable es → AllByRecursion LawfulEntry es → AllByRecursion Spellable es' → AllByRecursion LawfulEntry es'
      → records_bytes es ++ rest ≡ records_bytes es' ++ rest' → Agree es es' rest rest'
  agree [] [] rest rest' s l s' l' same = inl (refl, same)
  agree [] (e' ∷ es') rest rest' s l s' l' same =
      inr (inl (record { next = e'; more = records_bytes es' ++ rest'; spelled = same ∙ append_assoc (entry_bytes e') (records_bytes es') rest'; spellable = s'.0; lawful = l'.0; fewer = omega arith }))
  agree (e ∷ es) [] rest rest' s l s' l' same =
      inr (inr (record { next = e; more = records_bytes es ++ rest; spelled = sym same ∙ append_assoc (entry_bytes e) (records_bytes es) rest; spellable = s.0; lawful = l.0; fewer = omega arith }))
  agree (e ∷ es) (e' ∷ es') rest rest' s l s' l' same =
      let front = entry_once e e' (records_bytes es ++ rest) (records_bytes es' ++ rest') (sym (append_assoc (entry_bytes e) (records_bytes es) rest) ∙ same ∙ append_assoc (entry_bytes e') (records_bytes es') rest') in
      agree_more e e' es es' rest rest' front.0 (agree es es' rest rest' s.1 l.1 s'.1 l'.1 front.1)

  -- Where another entry stands, no fault does.
  pub goes_on_faultless : (at : ℕ) (es longer : List Entry) (rest : List ℕ) (fault : ListFault)
      → Goes_on grid es longer rest → length longer ≤ 32 → NoNextTask at grid (tasks_said es) rest fault → ⊥
  goes_on_faultless at es longer rest TooMany on few none =
      let long = length-map es numbers_said in
      let fewer = on.fewer in
      omega (arith, none.0)
  goes_on_faultless at es longer rest (Sheet fault) on few none = entry_faultless on.next on.more on.spellable at rest fault on.spelled none.1
  goes_on_faultless at es longer rest (Bound task) on few none =
      let same = entry_once none.0 on.next none.1 on.more (sym none.2 ∙ on.spelled) in
      none.4.2 (subst (λ e. Bounded grid (numbers_said e)) (sym same.0) on.lawful.0)
  goes_on_faultless at es longer rest (OffGrid task) on few none =
      let same = entry_once none.0 on.next none.1 on.more (sym none.2 ∙ on.spelled) in
      none.4.3 (subst (λ e. OnGrid grid (numbers_said e)) (sym same.0) on.lawful.1)
  goes_on_faultless at es longer rest (OutOfRange setting) on few none = elim none [ ]

  -- Past the last record no fault stands either.
  pub end_of_list_faultless : (at : ℕ) (tasks : List TaskRecord) (fault : ListFault) → NoNextTask at grid tasks [] fault → ⊥
  end_of_list_faultless at tasks TooMany none = none.1 refl
  end_of_list_faultless at tasks (Sheet fault) none = end_faultless at fault none.1
  end_of_list_faultless at tasks (Bound task) none = nothing_there none.0 none.1 none.2
  end_of_list_faultless at tasks (OffGrid task) none = nothing_there none.0 none.1 none.2
  end_of_list_faultless at tasks (OutOfRange setting) none = elim none [ ]

  -- One fault stands at one place.
  pub next_fault_once : (at : ℕ) (tasks : List TaskRecord) (rest : List ℕ) (fault fault' : ListFault)
      → NoNextTask at grid tasks rest fault → NoNextTask at grid tasks rest fault' → fault ≡ fault'
  next_fault_once at tasks rest TooMany TooMany none none' = refl
  next_fault_once at tasks rest TooMany (Sheet fault') none none' = absurd (omega (arith, none.0, none'.0))
  next_fault_once at tasks rest TooMany (Bound task') none none' = absurd (omega (arith, none.0, none'.4.0))
  next_fault_once at tasks rest TooMany (OffGrid task') none none' = absurd (omega (arith, none.0, none'.4.0))
  next_fault_once at tasks rest TooMany (OutOfRange setting') none none' = elim none' [ ]
  next_fault_once at tasks rest (Sheet fault) TooMany none none' = absurd (omega (arith, none.0, none'.0))
  next_fault_once at tasks rest (Sheet fault) (Sheet fault') none none' = ap Sheet (record_fault_once rest at fault fault' none.1 none'.1)
  next_fault_once at tasks rest (Sheet fault) (Bound task') none none' =
      absurd (entry_faultless none'.0 none'.1 none'.3 at rest fault none'.2 none.1)
  next_fault_once at tasks rest (Sheet fault) (OffGrid task') none none' =
      absurd (entry_faultless none'.0 none'.1 none'.3 at rest fault none'.2 none.1)
  next_fault_once at tasks rest (Sheet fault) (OutOfRange setting') none none' = elim none' [ ]
  next_fault_once at tasks rest (Bound task) TooMany none none' = absurd (omega (arith, none.4.0, none'.0))
  next_fault_once at tasks rest (Bound task) (Sheet fault') none none' =
      absurd (entry_faultless none.0 none.1 none.3 at rest fault' none.2 none'.1)
  next_fault_once at tasks rest (Bound task) (Bound task') none none' = ap Bound (none.4.1 ∙ sym none'.4.1)
  next_fault_once at tasks rest (Bound task) (OffGrid task') none none' =
      let same = entry_once none.0 none'.0 none.1 none'.1 (sym none.2 ∙ none'.2) in
      absurd (none.4.2 (subst (λ e. Bounded grid (numbers_said e)) (sym same.0) none'.4.2))
  next_fault_once at tasks rest (Bound task) (OutOfRange setting') none none' = elim none' [ ]
  next_fault_once at tasks rest (OffGrid task) TooMany none none' = absurd (omega (arith, none.4.0, none'.0))
  next_fault_once at tasks rest (OffGrid task) (Sheet fault') none none' =
      absurd (entry_faultless none.0 none.1 none.3 at rest fault' none.2 none'.1)
  next_fault_once at tasks rest (OffGrid task) (Bound task') none none' =
      let same = entry_once none.0 none'.0 none.1 none'.1 (sym none.2 ∙ none'.2) in
      absurd (none'.4.2 (subst (λ e. Bounded grid (numbers_said e)) same.0 none.4.2))
  next_fault_once at tasks rest (OffGrid task) (OffGrid task') none none' = ap OffGrid (none.4.1 ∙ sym none'.4.1)
  next_fault_once at tasks rest (OffGrid task) (OutOfRange setting') none none' = elim none' [ ]
  next_fault_once at tasks rest (OutOfRange setting) fault' none none' = elim none [ ]
