-- Bytes spell a sheet, or a record at their front, in one way, have one fault, and never both.
use Rattle.std.proofs.Common.{◌≡◌, ℕ, ◌+◌, ◌-◌, ◌*◌, ◌/◌, ◌%◌, ◌<◌, ◌≤◌, cond, eqb, ltb, ◌⊎◌, List, [], ◌∷◌, ◌++◌, length, get_or, take, drop, sym, refl, ap, ◌∙◌, subst, inl, inr, arith}
use Rattle.std.proofs.ByRecursion.{All-get_or}
use Rattle.std.proofs.lemmas.List.{drop_at, get_or-take, length-append, length-take-le, take_at}
use Rattle.std.proofs.lemmas.Bool.{cases_lt, cases_order, cond-false, cond-true, eq-eqb, le-ltb, lt-ltb, ne_eqb}
use Rattle.sheet.specs.Refusals.{BadLength, BadNameByte, NoFrame, NoRecord, TooShort, claimed_length, name_bytes}
use Rattle.sheet.specs.Spelling.{Entry, Frame, Printable, Spellable, body_bytes, entry_bytes, four_bytes, sheet_bytes}
use Rattle.sheet.specs.declared.fault.SheetFault.{SheetFault}
use Rattle.sheet.specs.declared.fault.SheetFault.TheVariants.{Short, Version, Trailing, ShortBody, RecordLength, NameByte, NoTask}

four_value : (n : ℕ) → n ≡ n / 16777216 * 16777216 + (n / 65536) % 256 * 65536 + (n / 256) % 256 * 256 + n % 256
four_value n = omega arith

-- Four bytes at the front are those of one number.
pub four_bytes_once : (n n' : ℕ) (more more' : List ℕ) → four_bytes n ++ more ≡ four_bytes n' ++ more' → (n ≡ n') × (more ≡ more')
four_bytes_once n n' more more' same =
    let a : n / 16777216 ≡ n' / 16777216 = cc in
    let b : (n / 65536) % 256 ≡ (n' / 65536) % 256 = cc in
    let c : (n / 256) % 256 ≡ (n' / 256) % 256 = cc in
    let d : n % 256 ≡ n' % 256 = cc in
    (cc (four_value n, four_value n'), cc)

-- Two lists of one length at the front are equal, and so is what follows.
append_once : {X : Type 0} (xs xs' ys ys' : List X) → length xs ≡ length xs' → xs ++ ys ≡ xs' ++ ys' → (xs ≡ xs') × (ys ≡ ys')
append_once xs xs' ys ys' long same =
    (sym (take_at xs ys (length xs') long) ∙ ap (take (length xs')) same ∙ take_at xs' ys' (length xs') refl, sym (drop_at xs ys (length xs') long) ∙ ap (drop (length xs')) same ∙ drop_at xs' ys' (length xs') refl)

-- A record at the front is that of one entry.
pub entry_once : (e e' : Entry) (more more' : List ℕ) → entry_bytes e ++ more ≡ entry_bytes e' ++ more' → (e ≡ e') × (more ≡ more')
entry_once e e' more more' same =
    let count : 12 + length e.name ≡ 12 + length e'.name = cc in
    let w = four_bytes_once e.work e'.work _ _ (tail_once same) in
    let l = four_bytes_once e.limit e'.limit _ _ w.1 in
    let g = four_bytes_once e.gap e'.gap _ _ l.1 in
    let n = append_once e.name e'.name more more' (omega arith) g.1 in
    (λ i. record { work = w.0 i; limit = l.0 i; gap = g.0 i; name = n.0 i }, n.1)
  where
    tail_once : {x x' : ℕ} {xs xs' : List ℕ} → x ∷ xs ≡ x' ∷ xs' → xs ≡ xs'
    tail_once p = cc

-- A frame is that of one grid, one lane count and one run of records.
pub frame_once : (bytes : List ℕ) (grid grid' lanes lanes' : ℕ) (records records' : List ℕ)
    → Frame bytes grid lanes records → Frame bytes grid' lanes' records' → (grid ≡ grid') × (lanes ≡ lanes') × (records ≡ records')
frame_once bytes grid grid' lanes lanes' records records' f f' =
    let g = four_bytes_once grid grid' (lanes ∷ records) (lanes' ∷ records') (after_three both) in
    let same : lanes ∷ records ≡ lanes' ∷ records' = g.1 in
    (g.0, cc, cc)
  where
    both : sheet_bytes (body_bytes grid lanes records) ≡ sheet_bytes (body_bytes grid' lanes' records')
    both = sym f.spelled ∙ f'.spelled

    after_three : {a b c a' b' c' : ℕ} {xs xs' : List ℕ} → a ∷ b ∷ c ∷ xs ≡ a' ∷ b' ∷ c' ∷ xs' → xs ≡ xs'
    after_three p = cc

module _ (bytes : List ℕ) (grid lanes : ℕ) (records : List ℕ) (frame : Frame bytes grid lanes records) where
  framed_version : get_or bytes 0 0 ≡ 1
  framed_version = ap (λ bs. get_or bs 0 0) frame.spelled

  framed_length : length bytes ≡ 3 + claimed_length bytes
  framed_length =
      let body = body_bytes grid lanes records in
      let long : length (sheet_bytes body) ≡ 3 + claimed_length (sheet_bytes body) = omega arith in
      subst (λ bs. length bs ≡ 3 + claimed_length bs) (sym frame.spelled) long

  framed_room : 5 ≤ claimed_length bytes
  framed_room =
      let body = body_bytes grid lanes records in
      let room : 5 ≤ claimed_length (sheet_bytes body) = omega arith in
      subst (λ bs. 5 ≤ claimed_length bs) (sym frame.spelled) room

  framed_whole : TooShort bytes → ⊥
  framed_whole (inl short) = omega (arith, framed_length)
  framed_whole (inr short) = omega (arith, framed_length)

  -- Bytes with a frame have no fault of the frame.
  pub framed_faultless : (fault : SheetFault) → NoFrame bytes fault → ⊥
  framed_faultless (Short present) none = framed_whole none.0
  framed_faultless Version none = none.1 framed_version
  framed_faultless (Trailing first) none = omega (arith, framed_length, none.2, none.3)
  framed_faultless ShortBody none = omega (arith, framed_room, none.2)
  framed_faultless (RecordLength at) none = elim none [ ]
  framed_faultless (NameByte at) none = elim none [ ]
  framed_faultless (NoTask task) none = elim none [ ]

too_short : (bytes : List ℕ) → TooShort bytes → length bytes < 3 + claimed_length bytes
too_short bytes (inl short) = omega arith
too_short bytes (inr short) = omega arith

long_enough : (bytes : List ℕ) → (TooShort bytes → ⊥) → 3 + claimed_length bytes ≤ length bytes
long_enough bytes whole = go (cases_lt (length bytes) (3 + claimed_length bytes))
  where
    go : (length bytes < 3 + claimed_length bytes) ⊎ (3 + claimed_length bytes ≤ length bytes) → 3 + claimed_length bytes ≤ length bytes
    go (inl short) = absurd (whole (inr short))
    go (inr long) = long

-- The fault of bytes that have no frame, found by tests.
abbrev frame_fault : List ℕ → SheetFault
frame_fault bytes =
    cond (ltb (length bytes) (3 + claimed_length bytes)) (Short (length bytes))
    (cond (eqb (get_or bytes 0 0) 1) (cond (ltb (3 + claimed_length bytes) (length bytes)) (Trailing (3 + claimed_length bytes)) ShortBody) Version)

frame-fault_is : (bytes : List ℕ) (fault : SheetFault) → NoFrame bytes fault → frame_fault bytes ≡ fault
frame-fault_is bytes (Short present) none = cond-true _ _ _ (lt-ltb _ _ (too_short bytes none.0)) ∙ ap Short (sym none.1)
frame-fault_is bytes Version none =
    cond-false _ _ _ (le-ltb _ _ (long_enough bytes none.0)) ∙ cond-false _ _ _ (ne_eqb _ _ none.1)
frame-fault_is bytes (Trailing first) none =
    let past : 3 + claimed_length bytes < length bytes = omega (arith, none.2, none.3) in
    let long : 3 + claimed_length bytes ≤ length bytes = omega arith in
    cond-false _ _ _ (le-ltb _ _ long) ∙ cond-true _ _ _ (eq-eqb _ _ none.1) ∙ cond-true _ _ _ (lt-ltb _ _ past) ∙ ap Trailing (sym none.2)
frame-fault_is bytes ShortBody none =
    let long : 3 + claimed_length bytes ≤ length bytes = omega (arith, none.1) in
    let ends : length bytes ≤ 3 + claimed_length bytes = omega (arith, none.1) in
    cond-false _ _ _ (le-ltb _ _ long) ∙ cond-true _ _ _ (eq-eqb _ _ none.0) ∙ cond-false _ _ _ (le-ltb _ _ ends)
frame-fault_is bytes (RecordLength at) none = elim none [ ]
frame-fault_is bytes (NameByte at) none = elim none [ ]
frame-fault_is bytes (NoTask task) none = elim none [ ]

-- Bytes without a frame have one fault.
pub frame_fault_once : (bytes : List ℕ) (fault fault' : SheetFault) → NoFrame bytes fault → NoFrame bytes fault' → fault ≡ fault'
frame_fault_once bytes fault fault' none none' = sym (frame-fault_is bytes fault none) ∙ frame-fault_is bytes fault' none'

module _ (e : Entry) (more : List ℕ) (fits : Spellable e) where
  entry_whole : BadLength (entry_bytes e ++ more) → ⊥
  entry_whole (inl few) = omega arith
  entry_whole (inr (inl many)) = let short = fits.name_fits in omega arith
  entry_whole (inr (inr past)) = let long = length-append e.name more in omega arith

  entry_name : name_bytes (entry_bytes e ++ more) ≡ e.name
  entry_name = take_at e.name more (12 + length e.name - 12) (omega arith)

  -- A record at the front has no fault.
  pub entry_faultless : (at : ℕ) (records : List ℕ) (fault : SheetFault) → records ≡ entry_bytes e ++ more → NoRecord at records fault → ⊥
  entry_faultless at records (RecordLength place) spelled none = entry_whole (subst BadLength spelled none.0)
  entry_faultless at records (NameByte place) spelled none =
      let i = none.0 in
      let name : name_bytes records ≡ e.name = ap name_bytes spelled ∙ entry_name in
      let inside : i < length e.name = subst (λ bs. i < length bs) name none.1.inside in
      none.1.bad (subst (λ bs. Printable (get_or bs i 0)) (sym name) (All-get_or Printable e.name i 0 inside fits.name_prints))
  entry_faultless at records (Short present) spelled none = elim none [ ]
  entry_faultless at records Version spelled none = elim none [ ]
  entry_faultless at records (Trailing first) spelled none = elim none [ ]
  entry_faultless at records ShortBody spelled none = elim none [ ]
  entry_faultless at records (NoTask task) spelled none = elim none [ ]

-- Past the last record there is no fault.
pub end_faultless : (at : ℕ) (fault : SheetFault) → NoRecord at [] fault → ⊥
end_faultless at (RecordLength place) none = elim none.0 [ ]
end_faultless at (NameByte place) none = omega (arith, none.1.inside)
end_faultless at (Short present) none = elim none [ ]
end_faultless at Version none = elim none [ ]
end_faultless at (Trailing first) none = elim none [ ]
end_faultless at ShortBody none = elim none [ ]
end_faultless at (NoTask task) none = elim none [ ]

module _ (records : List ℕ) where
  first-bad : (i i' : ℕ) → BadNameByte records i → BadNameByte records i' → i < i' → ⊥
  first-bad i i' b b' before =
      let name = name_bytes records in
      let within = b'.inside in
      let long : length (take i' name) ≡ i' = length-take-le i' name (omega arith) in
      let fine = All-get_or Printable (take i' name) i 0 (omega arith) b'.fine_before in
      b.bad (subst Printable (get_or-take i' name i 0 before) fine)

  bad_name_once : (i i' : ℕ) → BadNameByte records i → BadNameByte records i' → i ≡ i'
  bad_name_once i i' b b' = go (cases_order i i')
    where
      go : (i ≡ i') ⊎ ((i < i') ⊎ (i' < i)) → i ≡ i'
      go (inl same) = same
      go (inr (inl before)) = absurd (first-bad i i' b b' before)
      go (inr (inr after)) = absurd (first-bad i' i b' b after)

  module _ (at : ℕ) where
    abbrev FaultThere : SheetFault → Type 0
    FaultThere fault = (BadLength records × (fault ≡ RecordLength at)) ⊎ ((i : ℕ) × BadNameByte records i × (fault ≡ NameByte (at + 13 + i)))

    fault_there : (fault : SheetFault) → NoRecord at records fault → FaultThere fault
    fault_there (RecordLength place) none = inl (none.0, ap RecordLength none.1)
    fault_there (NameByte place) none = inr (none.0, none.1, ap NameByte none.2)
    fault_there (Short present) none = elim none [ ]
    fault_there Version none = elim none [ ]
    fault_there (Trailing first) none = elim none [ ]
    fault_there ShortBody none = elim none [ ]
    fault_there (NoTask task) none = elim none [ ]

    -- Bytes that begin with no record have one fault.
    pub record_fault_once : (fault fault' : SheetFault) → NoRecord at records fault → NoRecord at records fault' → fault ≡ fault'
    record_fault_once fault fault' none none' = go (fault_there fault none) (fault_there fault' none')
      where
        go : FaultThere fault → FaultThere fault' → fault ≡ fault'
        go (inl b) (inl b') = b.1 ∙ sym b'.1
        go (inl b) (inr b') = absurd (b'.1.whole b.0)
        go (inr b) (inl b') = absurd (b.1.whole b'.0)
        go (inr b) (inr b') = b.2 ∙ ap (λ i. NameByte (at + 13 + i)) (bad_name_once b.0 b'.0 b.1 b'.1) ∙ sym b'.2
