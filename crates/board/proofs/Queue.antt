-- The jobs of a task's queue, in order, after a put and after a take.
use Rattle.std.proofs.Common.{◌≡◌, ℕ, suc, ◌+◌, ◌<◌, ◌≤◌, Bool, true, false, cond, ◌||◌, ltb, leb, List, [], ◌∷◌, ◌++◌, map, length, is_some, Some, None, count_by, Option, unwrap_or, sym, refl, ap, ◌∙◌, subst, arith}
use Rattle.std.specs.List.{AllByRecursion, list_any}
use Rattle.std.proofs.ByRecursion.{All-weaker}
use Rattle.std.proofs.lemmas.List.{length-map, length-set, map_push}
use Rattle.std.proofs.lemmas.List.Sums.{sum_by_push}
use Rattle.std.proofs.lemmas.Bool.Decides.{nat_tests}
use Rattle.queue.specs.InOrder.{NoTies, Sorted, in_order}
use Rattle.queue.specs.Queue.{AllTaken, Empty, Taken, WasPut, WasTaken, count, held, one}
use Rattle.queue.proofs.Counts.{count_by-all, count_by-cons, count_by-none, none-from-count_by}
use Rattle.queue.proofs.Drains.{held-before, sorted_push}
use Rattle.queue.proofs.InOrder.{count_by-in_order, each_listed, holding_empty, holding_full, length-in_order, same-order, sorted_in_order}
use Rattle.fit.specs.Lane.{Job, Standing, served_once}
use Rattle.tasks.specs.declared.record.TaskRecord.{TaskRecord}
use Rattle.board.specs.PlainBoard.{first_closes}
use Rattle.board.specs.Queues.{after_slot_of, jobs_of, unserved}
use Rattle.board.specs.Releases.{later_than, released_before}

one_way : (x y : ℕ) → released_before x y ≡ true → released_before y x ≡ false
one_way x y h = grind (arith, nat_tests)

chain : (x y z : ℕ) → released_before x y ≡ false → released_before y z ≡ false → released_before x z ≡ false
chain x y z h k = grind (arith, nat_tests)

no_ties : NoTies released_before
no_ties x y h k = grind (arith, nat_tests)

-- The releases that a queue's places hold, in order.
abbrev pub releases : List (Option ℕ) → List ℕ
releases places = in_order released_before (held places)

sorted : (places : List (Option ℕ)) → Sorted released_before (releases places)
sorted places = sorted_in_order released_before one_way chain (held places)

pub releases_counted : (test : ℕ → Bool) (places : List (Option ℕ)) → count_by test (releases places) ≡ count test places
releases_counted test places = count_by-in_order released_before test (held places)

pub length_releases : (places : List (Option ℕ)) → length (releases places) ≡ count (λ _. true) places
length_releases places = length-in_order released_before (held places) ∙ sym (count_by-all (held places))

-- What is not later than the last release is not later than any clock from there on.
not_later : (last : Option ℕ) (clock : ℕ) → unwrap_or last 0 ≤ clock → (r : ℕ) → later_than last r ≡ false → ltb clock r ≡ false
not_later None clock h r e = cc
not_later (Some last) clock h r e = grind (arith, nat_tests)

module _ (last : Option ℕ) (clock : ℕ) (past : unwrap_or last 0 ≤ clock) (old : List (Option ℕ)) (none : count (later_than last) old ≡ 0) where
  all_past : AllByRecursion (λ r. ltb clock r ≡ false) (releases old)
  all_past =
      All-weaker _ _ (not_later last clock past) (releases old)
      (none-from-count_by (later_than last) (releases old) (releases_counted (later_than last) old ∙ none))

  module _ (x : ℕ) (at : x ≡ clock) (new : List (Option ℕ)) (put : WasPut old x new) where
    -- A job that is put comes last.
    pub releases_put : releases new ≡ releases old ++ x ∷ []
    releases_put =
        same-order released_before one_way no_ties (releases new) (releases old ++ x ∷ []) (sorted new)
        (sorted_push released_before (releases old) x (sorted old)
        (All-weaker _ _ (λ y h. ap (λ c. ltb c y) at ∙ h) (releases old) all_past))
        (λ test.
        omega
        (arith, releases_counted test new, releases_counted test old, put.counted test, sum_by_push (one test) (releases old) x))

    pub none_later : count (later_than (Some clock)) new ≡ 0
    none_later =
        let before : count (later_than (Some clock)) old ≡ 0 =
        sym (releases_counted (later_than (Some clock)) old) ∙ count_by-none (later_than (Some clock)) (releases old) all_past in
        let itself : ltb clock x ≡ false = grind (arith, nat_tests) in
        omega (arith, put.counted (later_than (Some clock)), before, ap {B = ℕ} (λ b. cond b 1 0) itself)

-- A job that is taken was first.
pub releases_taken :
    (old : List (Option ℕ)) (x : ℕ) (new : List (Option ℕ)) → WasTaken released_before old x new
    → releases old ≡ x ∷ releases new
releases_taken old x new t =
    same-order released_before one_way no_ties (releases old) (x ∷ releases new) (sorted old) (
      each_listed new (releases new) (λ test. sym (releases_counted test new)) (λ y. released_before y x)
          (λ k y e. t.leads k y (held-before released_before old x new t k y e)),
      sorted new,
    )
    (λ test.
    omega
    (arith, releases_counted test old, releases_counted test new, t.counted test, count_by-cons test x (releases new)))

-- Where every place is taken, as many jobs wait as there are places.
pub releases_full : (places : List (Option ℕ)) → AllTaken places → length (releases places) ≡ length places
releases_full places all = holding_full places (releases places) (λ test. sym (releases_counted test places)) all

pub jobs_push :
    (served : ℕ) (rs : List ℕ) (x : ℕ) → (length rs ≡ 0 → served ≡ 0)
    → jobs_of served (rs ++ x ∷ []) ≡ jobs_of served rs ++ unserved x ∷ []
jobs_push served [] x idle = ap (λ n. record { release = x; served = n } ∷ []) (idle refl)
jobs_push served (r ∷ rs) x idle = ap (λ js. record { release = r; served = served } ∷ js) (map_push unserved rs x)

pub length_jobs : (served : ℕ) (rs : List ℕ) → length (jobs_of served rs) ≡ length rs
length_jobs served [] = refl
length_jobs served (r ∷ rs) = ap suc (length-map rs unserved)

-- The jobs after the first has been served its first slots and none other.
pub jobs_none : (rs : List ℕ) → jobs_of 0 rs ≡ map unserved rs
jobs_none [] = refl
jobs_none (r ∷ rs) = refl

-- How many places are taken, and whether one is.
pub count_by-taken : (places : List (Option ℕ)) → count_by is_some places ≡ length (held places)
count_by-taken [] = refl
count_by-taken (None ∷ places) = omega (arith, count_by-cons (is_some {T = ℕ}) None places, count_by-taken places)
count_by-taken (Some x ∷ places) = omega (arith, count_by-cons (is_some {T = ℕ}) (Some x) places, count_by-taken places)

pub list_any-taken :
    (places : List (Option ℕ)) (jobs : List Job) → length jobs ≡ length (held places)
    → list_any is_some places ≡ elim jobs [ [] ↦ false | job ∷ more ↦ true ]
list_any-taken [] [] e = refl
list_any-taken [] (job ∷ jobs) e = absurd (omega arith)
list_any-taken (None ∷ places) jobs e = list_any-taken places jobs e
list_any-taken (Some x ∷ places) [] e = absurd (omega arith)
list_any-taken (Some x ∷ places) (job ∷ jobs) e = refl

-- How a task stands, from the parts of its queue.
abbrev pub stand : Option ℕ → List ℕ → ℕ → Standing
stand last rs served = record { last = last; waiting = jobs_of served rs }

pub length-standing : (last : Option ℕ) (places : List (Option ℕ)) (served : ℕ) → length (stand last (releases places) served).waiting ≡ count (λ _. true) places
length-standing last places served = length_jobs served (releases places) ∙ length_releases places

pub releases_empty : (places : List (Option ℕ)) → Empty places → releases places ≡ []
releases_empty places e = holding_empty places (releases places) (λ test. sym (releases_counted test places)) e

-- How many jobs wait, from whether one does.
pub waits-some : (jobs : List Job) → true ≡ elim jobs [ [] ↦ false | job ∷ more ↦ true ] → 0 < length jobs
waits-some [] e = absurd cc
waits-some (job ∷ jobs) e = omega arith

pub waits-none : (jobs : List Job) → false ≡ elim jobs [ [] ↦ false | job ∷ more ↦ true ] → length jobs ≡ 0
waits-none [] e = refl
waits-none (job ∷ jobs) e = absurd cc

module _ (t : TaskRecord) (said : Bool) (last : Option ℕ) (served : ℕ) where
  abbrev Serves : Bool → List ℕ → ℕ → List ℕ → Type 0
  Serves b rs' served' all = (b ≡ first_closes t said (jobs_of served all)) × (stand last rs' served' ≡ after_slot_of t said (stand last all served))

  abbrev first-job : ℕ → Job
  first-job x = record { release = x; served = served }

  -- One slot to the first job, which goes on.
  pub goes_on : said || leb t.work (served + 1) ≡ false → (rs : List ℕ) → 0 < length rs → Serves false rs (served + 1) rs
  goes_on e [] h = absurd (omega arith)
  goes_on e (x ∷ rest) h =
      (sym e, ap (λ b. record { last = last; waiting = cond b (map unserved rest) (served_once (first-job x) ∷ map unserved rest) }) (sym e))

  -- One slot to the first job, which closes, or to none.
  pub slot_ends :
      said || leb t.work (served + 1) ≡ true → (old : List (Option ℕ)) (taken : Option ℕ) (new : List (Option ℕ))
      → Taken released_before old taken new → Serves (is_some taken) (releases new) 0 (releases old)
  slot_ends e old None new none =
      let empty = releases_empty old none.0 in (
        ap (λ rs. first_closes t said (jobs_of served rs)) (sym empty),
        ap (λ rs. stand last rs 0) (ap releases none.1 ∙ empty) ∙ ap (λ rs. after_slot_of t said (stand last rs served)) (sym empty),
      )
  slot_ends e old (Some x) new taken =
      let rest = releases new in
      subst (λ all. Serves true rest 0 all) (sym (releases_taken old x new taken)) (
        sym e,
        ap (λ js. record { last = last; waiting = js }) (jobs_none rest)
            ∙ ap (λ b. record { last = last; waiting = cond b (map unserved rest) (served_once (first-job x) ∷ map unserved rest) }) (sym e),
      )

  -- One slot where no job waits.
  pub none_rests : (rs : List ℕ) → length rs ≡ 0 → Serves false rs served rs
  none_rests [] h = (refl, refl)
  none_rests (x ∷ rest) h = absurd (omega arith)

-- What was taken leaves nothing later than the last release.
pub none_later_left :
    (last : Option ℕ) (old : List (Option ℕ)) → count (later_than last) old ≡ 0 → (taken : Option ℕ) (new : List (Option ℕ))
    → Taken released_before old taken new → count (later_than last) new ≡ 0
none_later_left last old none None new t = ap (count (later_than last)) t.1 ∙ none
none_later_left last old none (Some x) new t = omega (arith, t.counted (later_than last), none)

few-held : (places : List (Option ℕ)) → length (held places) ≤ length places
few-held [] = omega arith
few-held (None ∷ places) = omega (arith, few-held places)
few-held (Some x ∷ places) = omega (arith, few-held places)

pub put_room : (old : List (Option ℕ)) (x : ℕ) (new : List (Option ℕ)) → WasPut old x new → count (λ _. true) old < length old
put_room old x new p =
    omega (arith, p.counted (λ _. true), few-held new, ap length p.after, length-set old p.place (Some x), count_by-all (held new))
