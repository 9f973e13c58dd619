-- Reading has one answer: whatever two readings of the same bytes give is the same.
use Rattle.std.proofs.Common.{◌≡◌, ℕ, ◌⊎◌, List, [], sym, refl, ap, ◌∙◌, subst, inl, inr}
use Rattle.sheet.proofs.Unique.{frame_fault_once, frame_once, framed_faultless}
use Rattle.sheet.specs.Spelling.{Entry, Frame}
use Rattle.tasks.proofs.Unique.{Agree, agree, end_of_list_faultless, goes_on_faultless, next_fault_once, nothing_there}
use Rattle.tasks.specs.Filling.{NoList}
use Rattle.tasks.specs.Reading.{Begins, NoNextTask, Spells, Unreadable, offset_after, tasks_said}
use Rattle.tasks.specs.Reading.Unreadable.{unframed, out_of_range, stops}
use Rattle.tasks.specs.Settled.{ReadingSettled}
use Rattle.tasks.specs.Task.{GridRange, LaneRange}
use Rattle.tasks.specs.declared.fault.ListFault.{ListFault}
use Rattle.tasks.specs.declared.fault.ListFault.TheVariants.{Sheet, TooMany, OutOfRange, Bound, OffGrid}
use Rattle.tasks.specs.declared.fault.Setting.TheVariants.{Grid, Lanes, SwitchCost}

module _ (grid lanes : ℕ) where
  -- A grid and a lane count that are in range have no fault.
  ranged_faultless : (fault : ListFault) → GridRange grid → LaneRange lanes → NoList grid lanes fault → ⊥
  ranged_faultless (OutOfRange Grid) g l none = none g
  ranged_faultless (OutOfRange Lanes) g l none = none.1 l
  ranged_faultless (OutOfRange SwitchCost) g l none = elim none [ ]
  ranged_faultless (Sheet fault) g l none = elim none [ ]
  ranged_faultless TooMany g l none = elim none [ ]
  ranged_faultless (Bound task) g l none = elim none [ ]
  ranged_faultless (OffGrid task) g l none = elim none [ ]

  -- The two faults that settings out of range have.
  abbrev Which : ListFault → Type 0
  Which fault = ((GridRange grid → ⊥) × (fault ≡ OutOfRange Grid)) ⊎ (GridRange grid × (fault ≡ OutOfRange Lanes))

  which : (fault : ListFault) → NoList grid lanes fault → Which fault
  which (OutOfRange Grid) none = inl (none, refl)
  which (OutOfRange Lanes) none = inr (none.0, refl)
  which (OutOfRange SwitchCost) none = elim none [ ]
  which (Sheet fault) none = elim none [ ]
  which TooMany none = elim none [ ]
  which (Bound task) none = elim none [ ]
  which (OffGrid task) none = elim none [ ]

  range_fault_once : (fault fault' : ListFault) → NoList grid lanes fault → NoList grid lanes fault' → fault ≡ fault'
  range_fault_once fault fault' none none' = go (which fault none) (which fault' none')
    where
      go : Which fault → Which fault' → fault ≡ fault'
      go (inl w) (inl w') = w.1 ∙ sym w'.1
      go (inl w) (inr w') = absurd (w.0 w'.0)
      go (inr w) (inl w') = absurd (w'.0 w.0)
      go (inr w) (inr w') = w.1 ∙ sym w'.1

module _ (bytes : List ℕ) where
  -- Frames of the same bytes have the same grid and lane count.
  moved : (P : ℕ → ℕ → Type 0) (grid grid' lanes lanes' : ℕ) (records records' : List ℕ)
      → Frame bytes grid lanes records → Frame bytes grid' lanes' records' → P grid' lanes' → P grid lanes
  moved P grid grid' lanes lanes' records records' f f' p =
      let same = frame_once bytes grid grid' lanes lanes' records records' f f' in
      subst (λ g. P g lanes) (sym same.0) (subst (λ m. P grid' m) (sym same.1) p)

  -- After these entries the bytes do not go on, with this fault.
  abbrev Stops : ℕ → ℕ → List Entry → List ℕ → ListFault → Type 0
  Stops grid lanes es rest fault = Begins bytes grid lanes es rest × NoNextTask (offset_after es) grid (tasks_said es) rest fault

  module _ (grid lanes : ℕ) (es es' : List Entry) where
    together : (rest rest' : List ℕ) → Begins bytes grid lanes es rest → Begins bytes grid lanes es' rest' → Agree grid es es' rest rest'
    together rest rest' b b' =
        agree grid es es' rest rest' b.spellable b.lawful b'.spellable b'.lawful (frame_once bytes grid grid lanes lanes _ _ b.frame b'.frame).2

    list_once : Spells bytes grid lanes es → Spells bytes grid lanes es' → es ≡ es'
    list_once s s' = go (together [] [] s s')
      where
        go : Agree grid es es' [] [] → es ≡ es'
        go (inl both) = both.0
        go (inr (inl on)) = absurd (nothing_there on.next on.more on.spelled)
        go (inr (inr on)) = absurd (nothing_there on.next on.more on.spelled)

    stop_once : (rest rest' : List ℕ) (fault fault' : ListFault) → Stops grid lanes es rest fault → Stops grid lanes es' rest' fault' → fault ≡ fault'
    stop_once rest rest' fault fault' s s' = go (together rest rest' s.0 s'.0)
      where
        go : Agree grid es es' rest rest' → fault ≡ fault'
        go (inl both) =
            let at_rest = subst (λ r. NoNextTask (offset_after es') grid (tasks_said es') r fault') (sym both.1) s'.1 in
            let at_entries = subst (λ xs. NoNextTask (offset_after xs) grid (tasks_said xs) rest fault') (sym both.0) at_rest in
            next_fault_once grid (offset_after es) (tasks_said es) rest fault fault' s.1 at_entries
        go (inr (inl on)) = absurd (goes_on_faultless grid (offset_after es) es es' rest fault on s'.0.few s.1)
        go (inr (inr on)) = absurd (goes_on_faultless grid (offset_after es') es' es rest' fault' on s.0.few s'.1)

    spelled_never_stops : (rest' : List ℕ) (fault : ListFault) → Spells bytes grid lanes es → Stops grid lanes es' rest' fault → ⊥
    spelled_never_stops rest' fault s s' = go (together [] rest' s s'.0)
      where
        go : Agree grid es es' [] rest' → ⊥
        go (inl both) =
            end_of_list_faultless grid (offset_after es') (tasks_said es') fault (subst (λ r. NoNextTask (offset_after es') grid (tasks_said es') r fault) (sym both.1) s'.1)
        go (inr (inl on)) = nothing_there on.next on.more on.spelled
        go (inr (inr on)) = goes_on_faultless grid (offset_after es') es' es rest' fault on s.few s'.1

  -- Where a list begins, neither setting is out of range.
  begun_ranged : {grid lanes : ℕ} {records : List ℕ} {es : List Entry} {grid' lanes' : ℕ} {rest : List ℕ} (fault : ListFault)
      → Frame bytes grid lanes records → NoList grid lanes fault → Begins bytes grid' lanes' es rest → ⊥
  begun_ranged fault f none b =
      let none' = moved (λ g m. NoList g m fault) _ _ _ _ _ _ b.frame f none in
      ranged_faultless _ _ fault b.grid_range b.lane_range none'

  one_fault : {fault fault' : ListFault} → Unreadable bytes fault → Unreadable bytes fault' → fault ≡ fault'
  one_fault (unframed {fault = x} none) (unframed {fault = y} none') = ap Sheet (frame_fault_once bytes x y none none')
  one_fault (unframed {fault = x} none) (out_of_range f' none') = absurd (framed_faultless bytes _ _ _ f' x none)
  one_fault (unframed {fault = x} none) (stops b' none') = absurd (framed_faultless bytes _ _ _ b'.frame x none)
  one_fault (out_of_range f none) (unframed {fault = y} none') = absurd (framed_faultless bytes _ _ _ f y none')
  one_fault (out_of_range {grid = g} {lanes = m} {fault = x} f none) (out_of_range {fault = y} f' none') =
      range_fault_once g m x y none (moved (λ h n. NoList h n y) _ _ _ _ _ _ f f' none')
  one_fault (out_of_range {fault = x} f none) (stops b' none') = absurd (begun_ranged x f none b')
  one_fault (stops b none) (unframed {fault = y} none') = absurd (framed_faultless bytes _ _ _ b.frame y none')
  one_fault (stops b none) (out_of_range {fault = y} f' none') = absurd (begun_ranged y f' none' b)
  one_fault (stops {grid = g} {lanes = m} {entries = es} {rest = r} {fault = x} b none) (stops {entries = es'} {rest = r'} {fault = y} b' none') =
      stop_once g m es es' r r' x y (b, none) (moved (λ h n. Stops h n es' r' y) _ _ _ _ _ _ b.frame b'.frame (b', none'))

  never_both : {grid lanes : ℕ} {es : List Entry} {fault : ListFault} → Spells bytes grid lanes es → Unreadable bytes fault → ⊥
  never_both s (unframed {fault = x} none) = framed_faultless bytes _ _ _ s.frame x none
  never_both s (out_of_range {fault = x} f none) = begun_ranged x f none s
  never_both {grid} {lanes} {es} s (stops {entries = es'} {rest = r'} {fault = y} b none) =
      spelled_never_stops grid lanes es es' r' y s (moved (λ h n. Stops h n es' r' y) _ _ _ _ _ _ s.frame b.frame (b, none))

  one_list : (grid grid' lanes lanes' : ℕ) (es es' : List Entry)
      → Spells bytes grid lanes es → Spells bytes grid' lanes' es' → (grid ≡ grid') × (lanes ≡ lanes') × (es ≡ es')
  one_list grid grid' lanes lanes' es es' s s' =
      let same = frame_once bytes grid grid' lanes lanes' _ _ s.frame s'.frame in
      (same.0, same.1, list_once grid lanes es es' s (moved (λ h n. Spells bytes h n es') _ _ _ _ _ _ s.frame s'.frame s'))

pub settled : ReadingSettled
settled = record {
  one_list = one_list;
  one_fault = λ bytes fault fault' u u'. one_fault bytes u u';
  never_both = λ bytes grid lanes entries fault s u. never_both bytes s u;
}
