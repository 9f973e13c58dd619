-- The waiting jobs of a task are a gap apart, so a safe task has few of them.
use Rattle.std.proofs.Common.{◌≡◌, ℕ, zero, suc, ◌+◌, ◌*◌, ◌<◌, ◌≤◌, Bool, true, false, cond, ◌⊎◌, List, [], ◌∷◌, ◌++◌, map, length, get_or, IfSome, Some, None, Option, sym, refl, ap, subst, inl, inr, ⊎_elim, mul-le-mul_right, arith, MatchOption}
use Rattle.std.specs.List.{ContainsAt}
use Rattle.std.proofs.lemmas.List.{length_push}
use Rattle.std.proofs.lemmas.Bool.{cases_lt}
use Rattle.tasks.specs.declared.record.TaskRecord.{TaskRecord}
use Rattle.fit.specs.Lane.{Job, Standing, Lane, unreleased, MayRelease, Releases, no_more, stays, comes, served_once, closes, serve, Reached, starts, slot, LateJob, no_task}
use Rattle.fit.specs.Theorems.{RoomForARelease}
use Rattle.fit.specs.Account.{new_job}
use Rattle.fit.specs.Service.{Waiting, idle_or_waiting, serve_idle, serve_waiting}

-- Each job was released at least a gap before the next one, and the newest no later than the last release.
abbrev pub Before : ℕ → ℕ → List Job → Type 0
Before gap last [] = Unit {0}
Before gap last (j ∷ rest) = (j.release + length rest * gap ≤ last) × Before gap last rest

-- The waiting jobs of a task are a gap apart up to its last release, and none wait where it released none.
abbrev pub Apart : ℕ → Option ℕ → List Job → Type 0
Apart gap last jobs = MatchOption last (jobs ≡ []) (λ at. Before gap at jobs)

before_push : (gap last clock : ℕ) (jobs : List Job) → last + gap ≤ clock → Before gap last jobs → Before gap clock (jobs ++ (new_job clock ∷ []))
before_push gap last clock [] late h = (omega arith, tt)
before_push gap last clock (j ∷ rest) late h =
    (omega (arith, ap (λ (n : ℕ). n * gap) longer), before_push gap last clock rest late h.1)
  where
    longer : length (rest ++ (new_job clock ∷ [])) ≡ suc (length rest)
    longer = omega (arith, length_push rest (new_job clock))

apart_comes : (gap clock : ℕ) (last : Option ℕ) (jobs : List Job) → Apart gap last jobs → IfSome last (λ at. at + gap ≤ clock) →
    Before gap clock (jobs ++ (new_job clock ∷ []))
apart_comes gap clock None jobs h may =
    subst (λ (jobs : List Job). Before gap clock (jobs ++ (new_job clock ∷ []))) (sym h) (omega arith, tt)
apart_comes gap clock (Some last) jobs h may = before_push gap last clock jobs may h

apart_serves : (gap : ℕ) (last : Option ℕ) (j : Job) (rest : List Job) (closed : Bool) → Apart gap last (j ∷ rest) →
    Apart gap last (cond closed rest (served_once j ∷ rest))
apart_serves gap None j rest closed h = absurd (omega (arith, ap length h))
apart_serves gap (Some last) j rest true h = h.1
apart_serves gap (Some last) j rest false h = h

-- So it is with each task of a row.
abbrev pub AllApart : List TaskRecord → List Standing → Type 0
AllApart [] [] = Unit {0}
AllApart [] (s ∷ ss) = ⊥
AllApart (t ∷ row) [] = ⊥
AllApart (t ∷ row) (s ∷ ss) = Apart t.gap s.last s.waiting × AllApart row ss

all_apart_fresh : (row : List TaskRecord) → AllApart row (map (λ (t : TaskRecord). unreleased) row)
all_apart_fresh [] = tt
all_apart_fresh (t ∷ row) = (refl, all_apart_fresh row)

all_apart_releases : {clock : ℕ} {row : List TaskRecord} {ss ss' : List Standing} → Releases clock row ss ss' → AllApart row ss → AllApart row ss'
all_apart_releases no_more h = h
all_apart_releases (stays r) h = (h.0, all_apart_releases r h.1)
all_apart_releases {clock} (comes {t = t} {s = s} may r) h =
    (apart_comes t.gap clock s.last s.waiting h.0 may, all_apart_releases r h.1)

all_apart_serve : (said : Bool) (row : List TaskRecord) (ss : List Standing) → AllApart row ss → AllApart row (serve said row ss)
all_apart_serve said [] ss h = h
all_apart_serve said (t ∷ row) [] h = elim h [ ]
all_apart_serve said (t ∷ row) (s ∷ ss) h = go (all_apart_serve said row ss h.1) (idle_or_waiting s)
  where
    go : AllApart row (serve said row ss) → (s.waiting ≡ []) ⊎ Waiting s → AllApart (t ∷ row) (serve said (t ∷ row) (s ∷ ss))
    go below (inl e) = subst (AllApart (t ∷ row)) (sym (serve_idle said t row s ss e)) (h.0, below)
    go below (inr w) =
        subst (AllApart (t ∷ row)) (sym (serve_waiting said t row s ss w)) (
          apart_serves t.gap s.last w.first w.rest (closes t said (served_once w.first))
              (subst (Apart t.gap s.last) w.is h.0),
          h.1,
        )

pub all_apart_reached : (row : List TaskRecord) {l : Lane} → Reached row l → AllApart row l.standings
all_apart_reached row (starts clock) = all_apart_fresh row
all_apart_reached row (slot {standings = ss} r releases said) =
    all_apart_serve said row ss (all_apart_releases releases (all_apart_reached row r))

pub apart_at : (row : List TaskRecord) (ss : List Standing) (i : ℕ) → AllApart row ss →
    Apart (get_or row i no_task).gap (get_or ss i unreleased).last (get_or ss i unreleased).waiting
apart_at [] [] i h = refl
apart_at [] (s ∷ ss) i h = elim h [ ]
apart_at (t ∷ row) [] i h = elim h [ ]
apart_at (t ∷ row) (s ∷ ss) zero h = h.0
apart_at (t ∷ row) (s ∷ ss) (suc i) h = apart_at row ss i h.1

-- Where a task may release, its first waiting job was released a gap ago for each that waits.
first-release : (gap clock : ℕ) (last : Option ℕ) (j : Job) (rest : List Job) → Apart gap last (j ∷ rest) →
    IfSome last (λ at. at + gap ≤ clock) → j.release + suc (length rest) * gap ≤ clock
first-release gap clock None j rest h may = absurd (omega (arith, ap length h))
first-release gap clock (Some last) j rest h may = omega (arith, may)

-- With as many jobs as places the first one would be late.
full-is-late : (row : List TaskRecord) (i places : ℕ) (l : Lane) → (get_or row i no_task).limit ≤ places * (get_or row i no_task).gap →
    Reached row l → MayRelease l.clock (get_or row i no_task) (get_or l.standings i unreleased) →
    (w : Waiting (get_or l.standings i unreleased)) → places ≤ suc (length w.rest) → LateJob row i
full-is-late row i places l covered reached may w many =
    record {
      lane = l;
      reached = reached;
      job = w.first;
      waits = subst (λ (jobs : List Job). ContainsAt jobs w.first) (sym w.is) (0, omega arith, λ d. refl);
      past =
          omega (
            arith,
            covered,
            mul-le-mul_right (get_or row i no_task).gap many,
            first-release (get_or row i no_task).gap l.clock (get_or l.standings i unreleased).last w.first w.rest apart may,
          );
    }
  where
    apart : Apart (get_or row i no_task).gap (get_or l.standings i unreleased).last (w.first ∷ w.rest)
    apart =
        subst (Apart (get_or row i no_task).gap (get_or l.standings i unreleased).last) w.is
        (apart_at row l.standings i (all_apart_reached row reached))

pub room_for_a_release : RoomForARelease
room_for_a_release row i places l safe some covered reached may = go (idle_or_waiting (get_or l.standings i unreleased))
  where
    go : ((get_or l.standings i unreleased).waiting ≡ []) ⊎ Waiting (get_or l.standings i unreleased) →
        length (get_or l.standings i unreleased).waiting < places
    go (inl e) = omega (arith, ap length e)
    go (inr w) =
        ⊎_elim (λ few. few)
        (λ many. absurd (safe (full-is-late row i places l covered reached may w (omega (arith, ap length w.is)))))
        (cases_lt (length (get_or l.standings i unreleased).waiting) places)
