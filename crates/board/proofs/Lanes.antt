-- The tasks of a lane by their numbers: which is served, what one slot leaves, and what a change of one task changes.
use Rattle.std.proofs.Common.{◌≡◌, ℕ, zero, suc, ◌<◌, Bool, true, false, cond, ◌&&◌, eqb, ◌≢◌, ◌⊎◌, List, [], ◌∷◌, map, length, get_or, set, is_some, Some, None, filter, Option, sym, refl, ap, ◌∙◌, subst, inl, inr, ⊎_elim, arith}
use Rattle.std.specs.List.{AllByRecursion, find}
use Rattle.std.proofs.ByRecursion.{All-from_get_or, all_kept_by}
use Rattle.std.proofs.lemmas.List.{get_or-set_other, get_or-set_same}
use Rattle.std.proofs.lemmas.Bool.{both_ways, cond_both, eqb-false, eqb-true}
use Rattle.fit.specs.Lane.{Job, Standing, after_service, serve, unreleased}
use Rattle.plan.specs.Placing.{lane_of, record_of}
use Rattle.tasks.specs.declared.record.TaskRecord.{TaskRecord}
use Rattle.board.specs.PlainBoard.{first_closes, first_waiting, place_among}
use Rattle.board.specs.Queues.{after_slot_of, has_job, stands_at}
use Rattle.board.specs.Steps.{closed_by, next_on, served_by}

-- A number among others, and numbers that are all different.
abbrev pub In : ℕ → List ℕ → Type 0
In x [] = ⊥
In x (y ∷ ys) = (y ≡ x) ⊎ In x ys

abbrev pub Distinct : List ℕ → Type 0
Distinct [] = Unit {0}
Distinct (x ∷ xs) = AllByRecursion (λ y. y ≢ x) xs × Distinct xs

pub in_at : (xs : List ℕ) (k : ℕ) → k < length xs → In (get_or xs k 0) xs
in_at [] k h = absurd (omega arith)
in_at (x ∷ xs) zero h = inl refl
in_at (x ∷ xs) (suc k) h = inr (in_at xs k (omega arith))

pub in_kept : (test : ℕ → Bool) (x : ℕ) (xs : List ℕ) → test x ≡ true → In x xs → In x (filter test xs)
in_kept test x [] t h = h
in_kept test x (y ∷ ys) t h =
    cond_both (test y) (y ∷ filter test ys) (filter test ys) (In x)
    (λ e. ⊎_elim (λ same. inl same) (λ more. inr (in_kept test x ys t more)) h)
    (λ e. ⊎_elim (λ same. absurd (both_ways (test y) e (ap test same ∙ t))) (λ more. in_kept test x ys t more) h)

pub distinct_kept : (test : ℕ → Bool) (xs : List ℕ) → Distinct xs → Distinct (filter test xs)
distinct_kept test [] d = tt
distinct_kept test (x ∷ xs) d =
    elim (test x) as (λ b. Distinct (cond b (x ∷ filter test xs) (filter test xs))) [
      | true ↦ (all_kept_by test (λ y. y ≢ x) xs d.0, distinct_kept test xs d.1)
      | false ↦ distinct_kept test xs d.1
    ]

pub distinct_from_places : (xs : List ℕ) → ((j k : ℕ) → j < k → k < length xs → get_or xs j 0 ≢ get_or xs k 0) → Distinct xs
distinct_from_places [] h = tt
distinct_from_places (x ∷ xs) h = (
  All-from_get_or (λ y. y ≢ x) xs 0 (λ i l e. h 0 (suc i) (omega arith) (omega arith) (sym e)),
  distinct_from_places xs (λ j k l b. h (suc j) (suc k) (omega arith) (omega arith)),
)

pub in_place : (x : ℕ) (xs : List ℕ) → In x xs → (place_among xs x < length xs) × (get_or xs (place_among xs x) 0 ≡ x)
in_place x [] h = absurd h
in_place x (y ∷ ys) h =
    cond_both (eqb y x) 0 (suc (place_among ys x)) (λ k. (k < length (y ∷ ys)) × (get_or (y ∷ ys) k 0 ≡ x))
    (λ e. (omega arith, eqb-true y x e))
    (λ e.
    let more = in_place x ys (⊎_elim (λ same. absurd (eqb-false y x e same)) (λ m. m) h) in
    (omega (arith, more.0), more.1))

-- A place among the later tasks.
abbrev pub one_on : Option ℕ → Option ℕ
one_on None = None
one_on (Some place) = Some (suc place)

-- Whether the job of the task at this place of a lane closes, and whether that of the task which the lane serves does.
abbrev pub closes_at : Bool → List TaskRecord → List Standing → Option ℕ → Bool
closes_at said row ss None = false
closes_at said row ss (Some place) = first_closes (get_or row place (record_of [] 0)) said (get_or ss place unreleased).waiting

abbrev pub closing : Bool → List TaskRecord → List Standing → Bool
closing said row ss = closes_at said row ss (first_waiting ss)

module _ (ss : List Standing) where
  -- The first of these numbers whose task has a waiting job.
  abbrev pub first-number : List ℕ → Option ℕ
  first-number = find (λ n. has_job (stands_at ss n))

  abbrev first_of : List Job → Option ℕ → Option ℕ
  first_of waiting o = elim waiting [ [] ↦ one_on o | job ∷ jobs ↦ Some 0 ]

  -- What is read off the place of the first that waits is read off its number.
  module _ {X : Type 0} (read : List ℕ → Option ℕ → X) (shift_none : (n : ℕ) (ns : List ℕ) → read (n ∷ ns) None ≡ read ns None)
      (shift_some : (n : ℕ) (ns : List ℕ) (place : ℕ) → read (n ∷ ns) (Some (suc place)) ≡ read ns (Some place))
      (pick : Option ℕ → X) (none : read [] None ≡ pick None) (here : (n : ℕ) (ns : List ℕ) → read (n ∷ ns) (Some 0) ≡ pick (Some n)) where
    shift : (n : ℕ) (ns : List ℕ) (o : Option ℕ) → read (n ∷ ns) (one_on o) ≡ read ns o
    shift n ns None = shift_none n ns
    shift n ns (Some place) = shift_some n ns place

    pub read_first : (ns : List ℕ) → read ns (first_waiting (map (stands_at ss) ns)) ≡ pick (first-number ns)
    read_first [] = none
    read_first (n ∷ ns) =
        elim (stands_at ss n).waiting as (λ v. read (n ∷ ns) (first_of v (first_waiting (map (stands_at ss) ns))) ≡ pick (cond (elim v [ [] ↦ false | job ∷ jobs ↦ true ]) (Some n) (first-number ns))) [
          | [] ↦ shift n ns (first_waiting (map (stands_at ss) ns)) ∙ read_first ns
          | job ∷ jobs ↦ here n ns
        ]

  pub named_first : (ns : List ℕ) → elim (first_waiting (map (stands_at ss) ns)) [ None ↦ None | Some place ↦ Some (get_or ns place 0) ] ≡ first-number ns
  named_first =
      read_first (λ ns o. elim o [ None ↦ None | Some place ↦ Some (get_or ns place 0) ])
      (λ n ns. refl) (λ n ns place. refl) (λ o. o) refl (λ n ns. refl)

  pub busy-first : (ns : List ℕ) → elim (first_waiting (map (stands_at ss) ns)) [ None ↦ false | Some place ↦ true ] ≡ is_some (first-number ns)
  busy-first =
      read_first (λ ns o. elim o [ None ↦ false | Some place ↦ true ])
      (λ n ns. refl) (λ n ns place. refl) is_some refl (λ n ns. refl)

  pub next-first : (plan : List ℕ) (lane : ℕ) (ns : List ℕ) → next_on plan lane ss ns ≡ first-number (filter (λ number. eqb (lane_of plan number) lane) ns)
  next-first plan lane [] = refl
  next-first plan lane (n ∷ ns) =
      let here = has_job (stands_at ss n) in
      let kept = filter (λ number. eqb (lane_of plan number) lane) ns in
      elim (eqb (lane_of plan n) lane) as (λ b. cond (b && here) (Some n) (next_on plan lane ss ns) ≡ first-number (cond b (n ∷ kept) kept)) [
        | true ↦ ap (cond here (Some n)) (next-first plan lane ns)
        | false ↦ next-first plan lane ns
      ]

  -- Another standing of one task leaves the others.
  pub others : (n : ℕ) (s : Standing) (ns : List ℕ) → AllByRecursion (λ m. m ≢ n) ns → map (stands_at (set ss n s)) ns ≡ map (stands_at ss) ns
  others n s [] a = refl
  others n s (m ∷ ms) a =
      ap (λ (x : Standing). x ∷ map (stands_at (set ss n s)) ms) (get_or-set_other ss n m s unreleased a.0)
      ∙ ap (λ xs. stands_at ss m ∷ xs) (others n s ms a.1)

  pub with_other :
      (n : ℕ) (s : Standing) → n < length ss → (ns : List ℕ) → Distinct ns → In n ns
      → set (map (stands_at ss) ns) (place_among ns n) s ≡ map (stands_at (set ss n s)) ns
  with_other n s h [] d i = absurd i
  with_other n s h (m ∷ ms) d i =
      cond_both (eqb m n) 0 (suc (place_among ms n)) (λ k. set (map (stands_at ss) (m ∷ ms)) k s ≡ map (stands_at (set ss n s)) (m ∷ ms))
      (λ e.
      let same = eqb-true m n e in
      let there : s ≡ stands_at (set ss n s) m = sym (ap (stands_at (set ss n s)) same ∙ get_or-set_same ss n s unreleased h) in
      ap (λ (x : Standing). x ∷ map (stands_at ss) ms) there
      ∙ ap (λ xs. stands_at (set ss n s) m ∷ xs) (sym (others n s ms (subst (λ (x : ℕ). AllByRecursion (λ y. y ≢ x) ms) same d.0))))
      (λ e.
      let apart = eqb-false m n e in
      ap (λ (x : Standing). x ∷ set (map (stands_at ss) ms) (place_among ms n) s) (sym (get_or-set_other ss n m s unreleased apart))
      ∙ ap (λ xs. stands_at (set ss n s) m ∷ xs) (with_other n s h ms d.1 (⊎_elim (λ x. absurd (apart x)) (λ x. x) i)))

  module _ (tasks : List TaskRecord) (said : Bool) where
    abbrev after : Option ℕ → List Standing
    after o = served_by tasks said ss o

    -- A task that is not among the numbers stands as before.
    aside : (n : ℕ) (ns : List ℕ) → AllByRecursion (λ m. m ≢ n) ns → stands_at (after (first-number ns)) n ≡ stands_at ss n
    aside n [] a = refl
    aside n (m ∷ ms) a =
        elim (has_job (stands_at ss m)) as (λ b. stands_at (after (cond b (Some m) (first-number ms))) n ≡ stands_at ss n) [
          | true ↦ get_or-set_other ss m n (after_slot_of (record_of tasks m) said (stands_at ss m)) unreleased (λ e. a.0 (sym e))
          | false ↦ aside n ms a.1
        ]

    pub all_aside : (rest ns : List ℕ) → AllByRecursion (λ n. AllByRecursion (λ m. m ≢ n) ns) rest → map (stands_at (after (first-number ns))) rest ≡ map (stands_at ss) rest
    all_aside [] ns a = refl
    all_aside (n ∷ rest) ns a =
        ap (λ (x : Standing). x ∷ map (stands_at (after (first-number ns))) rest) (aside n ns a.0)
        ∙ ap (λ xs. stands_at ss n ∷ xs) (all_aside rest ns a.1)

    serve_step :
        (t : TaskRecord) (s : Standing) (served rest : List Standing)
        → elim s.waiting [ [] ↦ s ∷ served | job ∷ jobs ↦ after_service t said s job jobs ∷ rest ]
        ≡ cond (has_job s) (after_slot_of t said s ∷ rest) (s ∷ served)
    serve_step t s served rest =
        elim s.waiting as (λ v. elim v [ [] ↦ s ∷ served | job ∷ jobs ↦ after_service t said s job jobs ∷ rest ] ≡ cond (elim v [ [] ↦ false | job ∷ jobs ↦ true ]) (elim v [ [] ↦ s | job ∷ jobs ↦ after_service t said s job jobs ] ∷ rest) (s ∷ served)) [
          | [] ↦ refl
          | job ∷ jobs ↦ refl
        ]

    -- One slot of a lane: only the task that it serves changes.
    pub serve-first :
        (ns : List ℕ) → Distinct ns → AllByRecursion (λ n. n < length ss) ns
        → serve said (map (record_of tasks) ns) (map (stands_at ss) ns) ≡ map (stands_at (after (first-number ns))) ns
    serve-first [] d a = refl
    serve-first (n ∷ ns) d a =
        let s = stands_at ss n in
        let t = record_of tasks n in
        let served = serve said (map (record_of tasks) ns) (map (stands_at ss) ns) in
        let rest = map (stands_at ss) ns in
        serve_step t s served rest
        ∙ elim (has_job s) as (λ b. cond b (after_slot_of t said s ∷ rest) (s ∷ served) ≡ map (stands_at (after (cond b (Some n) (first-number ns)))) (n ∷ ns)) [
          | true ↦
              let s' = after_slot_of t said s in
              ap (λ (x : Standing). x ∷ rest) (sym (get_or-set_same ss n s' unreleased a.0))
              ∙ ap (λ xs. stands_at (set ss n s') n ∷ xs) (sym (others n s' ns d.0))
          | false ↦
              ap (λ (x : Standing). x ∷ served) (sym (aside n ns d.0))
              ∙ ap (λ xs. stands_at (after (first-number ns)) n ∷ xs) (serve-first ns d.1 a.1)
        ]

    pub closes-first :
        (ns : List ℕ) → closing said (map (record_of tasks) ns) (map (stands_at ss) ns) ≡ closed_by tasks said ss (first-number ns)
    closes-first =
        read_first (λ ns o. closes_at said (map (record_of tasks) ns) (map (stands_at ss) ns) o)
        (λ n ns. refl) (λ n ns place. refl) (closed_by tasks said ss) refl (λ n ns. refl)
