-- The first tasks of a lane, in any run of it, make a run of the lane of those tasks alone.
use Rattle.std.specs.Prelude.{◌≡◌, ℕ, suc, ◌+◌, ◌<◌, ◌≤◌, Bool, ◌⊎◌, List, [], ◌∷◌, ◌++◌, map, length, get_or, take, drop, slice_index_or, refl}
use Rattle.std.proofs.Common.{sym, ap, subst, ◌∙◌, inl, inr, ⊎_elim, arith, not-suc-le-zero}
use Rattle.std.specs.List.{ContainsAt}
use Rattle.std.proofs.lemmas.List.{take-append-drop, take_more, length-map, length_push, length-take-le, get_or-take, get_or_past, get_or_push}
use Rattle.std.proofs.lemmas.Bool.{cases_lt}
use Rattle.tasks.specs.declared.record.TaskRecord.{TaskRecord}
use Rattle.fit.specs.Lane.{Standing, Lane, unreleased, Releases, no_more, stays, comes, serve, Reached, starts, slot, WaitsPast, SafeTask, no_task}
use Rattle.fit.specs.Theorems.{alone, LowerTasksNeverDisturb, WaitsAlone, up_to, SafeInTurn, AcceptedLanesAreSafe}
use Rattle.fit.specs.Service.{Waiting, idle_or_waiting, serve_idle, serve_waiting}

first_fresh : (row below : List TaskRecord) →
    take (length row) (map (λ (t : TaskRecord). unreleased) (row ++ below)) ≡ map (λ (t : TaskRecord). unreleased) row
first_fresh [] below = refl
first_fresh (t ∷ row) below = ap {B = List Standing} (λ r. unreleased ∷ r) (first_fresh row below)

first_releases : {clock : ℕ} (row below : List TaskRecord) {ss ss' : List Standing} →
    Releases clock (row ++ below) ss ss' → Releases clock row (take (length row) ss) (take (length row) ss')
first_releases [] below r = no_more
first_releases (t ∷ row) below (stays r) = stays (first_releases row below r)
first_releases (t ∷ row) below (comes may r) = comes may (first_releases row below r)

first_serve : (said : Bool) (row below : List TaskRecord) (ss : List Standing) →
    take (length row) (serve said (row ++ below) ss) ≡ serve said row (take (length row) ss)
first_serve said [] below ss = refl
first_serve said (t ∷ row) below [] = refl
first_serve said (t ∷ row) below (s ∷ ss) = go (first_serve said row below ss) (idle_or_waiting s)
  where
    go :
        take (length row) (serve said (row ++ below) ss) ≡ serve said row (take (length row) ss) →
        (s.waiting ≡ []) ⊎ Waiting s →
        take (suc (length row)) (serve said (t ∷ (row ++ below)) (s ∷ ss)) ≡ serve said (t ∷ row) (s ∷ take (length row) ss)
    go below_same (inl e) =
        ap (take (suc (length row))) (serve_idle said t (row ++ below) s ss e)
        ∙ ap {B = List Standing} (λ r. s ∷ r) below_same
        ∙ sym (serve_idle said t row s (take (length row) ss) e)
    go below_same (inr w) =
        ap (take (suc (length row))) (serve_waiting said t (row ++ below) s ss w)
        ∙ sym (serve_waiting said t row s (take (length row) ss) w)

pub undisturbed : LowerTasksNeverDisturb
undisturbed row below l' (starts clock) =
    subst (λ (ss : List Standing). Reached row (record { clock = clock; standings = ss })) (sym (first_fresh row below)) (starts clock)
undisturbed row below l' (slot {l = l} {standings = ss} r releases said) =
    subst (λ (after : List Standing). Reached row (record { clock = l.clock + 1; standings = after }))
    (sym (first_serve said row below ss))
    (slot (undisturbed row below l r) (first_releases row below releases) said)

pub length_releases : {clock : ℕ} {row : List TaskRecord} {ss ss' : List Standing} → Releases clock row ss ss' → length ss' ≡ length row
length_releases no_more = refl
length_releases (stays r) = ap suc (length_releases r)
length_releases (comes may r) = ap suc (length_releases r)

pub length_serve : (said : Bool) (row : List TaskRecord) (ss : List Standing) → length (serve said row ss) ≡ length ss
length_serve said [] ss = refl
length_serve said (t ∷ row) [] = refl
length_serve said (t ∷ row) (s ∷ ss) = go (length_serve said row ss) (idle_or_waiting s)
  where
    go :
        length (serve said row ss) ≡ length ss → (s.waiting ≡ []) ⊎ Waiting s →
        length (serve said (t ∷ row) (s ∷ ss)) ≡ suc (length ss)
    go same (inl e) = ap length (serve_idle said t row s ss e) ∙ ap suc same
    go same (inr w) = ap length (serve_waiting said t row s ss w)

-- A lane has a standing for each task.
pub length_reached : (row : List TaskRecord) {l : Lane} → Reached row l → length l.standings ≡ length row
length_reached row (starts clock) = length-map row (λ (t : TaskRecord). unreleased)
length_reached row (slot {standings = ss} r releases said) = length_serve said row ss ∙ length_releases releases

pub waits_alone : WaitsAlone
waits_alone row below i time h late =
    record {
      lane = alone row late.lane;
      reached = undisturbed row below late.lane late.reached;
      job = late.job;
      waits = rw (get_or-take (length row) late.lane.standings i unreleased h) late.waits;
      past = late.past;
    }

-- Past the row's end nothing waits.
pub nobody_past_the_end : (row : List TaskRecord) (i time : ℕ) → length row ≤ i → WaitsPast row i time → ⊥
nobody_past_the_end row i time h late = not-suc-le-zero none.1
  where
    past_the_end : length late.lane.standings ≤ i
    past_the_end = omega (arith, length_reached row late.reached)

    none : ContainsAt [] late.job
    none = subst (λ (s : Standing). ContainsAt s.waiting late.job) (get_or_past late.lane.standings i unreleased past_the_end) late.waits

-- The row is the lane up to its task k, and what stands below that.
row_from_up_to : (row : List TaskRecord) (k : ℕ) → k < length row → row ≡ up_to row k ++ drop (k + 1) row
row_from_up_to row k h =
    sym (take-append-drop (k + 1) row) ∙ ap (λ (first : List TaskRecord). first ++ drop (k + 1) row) (take_more row k no_task h)

-- A task that is safe at the end of those before it is safe in the row.
pub safe_over_those_before : (row : List TaskRecord) (k : ℕ) → k < length row → SafeTask (up_to row k) k → SafeTask row k
safe_over_those_before row k h safe late =
    safe
    (subst (λ (time : ℕ). WaitsPast (up_to row k) k time)
    (ap (λ (t : TaskRecord). t.limit) (sym (get_or_push (take k row) (slice_index_or row k no_task) no_task k (length-take-le k row below))))
    (waits_alone (up_to row k) (drop (k + 1) row) k (get_or row k no_task).limit inside
    (subst (λ (all : List TaskRecord). WaitsPast all k (get_or row k no_task).limit) (row_from_up_to row k h) late)))
  where
    below : k ≤ length row
    below = omega arith

    inside : k < length (up_to row k)
    inside = omega (arith, length_push (take k row) (slice_index_or row k no_task), length-take-le k row below)

pub lane_safe_in_turn : SafeInTurn
lane_safe_in_turn row safe i =
    ⊎_elim (λ h. safe_over_those_before row i h (safe i h)) (λ h. nobody_past_the_end row i (get_or row i no_task).limit h) (cases_lt i (length row))

-- Whatever questions have a yes, if the law holds of them: a lane whose every task was accepted over those before it is safe.
pub accepted_lanes_are_safe :
    (yes_to : List TaskRecord → TaskRecord → Type 0) →
    ((row : List TaskRecord) (asked : TaskRecord) → yes_to row asked → SafeTask (row ++ (asked ∷ [])) (length row)) →
    AcceptedLanesAreSafe yes_to
accepted_lanes_are_safe yes_to law row accepted =
    lane_safe_in_turn row
    (λ k h.
    let below : k ≤ length row = omega arith in
    subst (λ (i : ℕ). SafeTask (up_to row k) i) (length-take-le k row below)
    (law (take k row) (slice_index_or row k no_task) (accepted k h)))
