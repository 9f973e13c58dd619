-- With larger works every run of a row is a run of the raised row, through the same states.
use Rattle.std.specs.Prelude.{◌≡◌, ℕ, zero, suc, ◌+◌, ◌≤◌, Bool, true, false, cond, ◌||◌, ◌⊎◌, List, [], ◌∷◌, map, IfSome, nat_le, slice_index_or, refl}
use Rattle.std.proofs.Common.{sym, ap, subst, ◌∙◌, inl, inr, arith}
use Rattle.std.proofs.lemmas.Bool.{leb-false, lt-leb}
use Rattle.tasks.specs.declared.record.TaskRecord.{TaskRecord}
use Rattle.fit.specs.Lane.{Job, Standing, Lane, unreleased, MayRelease, Releases, no_more, stays, comes, served_once, closes, serve, Reached, starts, slot, WaitsPast, no_task}
use Rattle.fit.specs.Theorems.{Raises, Raised, LargerWorksWaitNoLess, SafeWithLargerWorks}
use Rattle.fit.specs.Service.{Waiting, idle_or_waiting, serve_idle, serve_waiting}

raised_fresh : (row raised : List TaskRecord) → Raised row raised →
    map (λ (t : TaskRecord). unreleased) raised ≡ map (λ (t : TaskRecord). unreleased) row
raised_fresh [] [] h = refl
raised_fresh [] (t ∷ raised) h = elim h [ ]
raised_fresh (t ∷ row) [] h = elim h [ ]
raised_fresh (t ∷ row) (t' ∷ raised) h = ap {B = List Standing} (λ r. unreleased ∷ r) (raised_fresh row raised h.1)

raised_may : (clock : ℕ) (t t' : TaskRecord) (s : Standing) → Raises t t' → MayRelease clock t s → MayRelease clock t' s
raised_may clock t t' s h may = subst (λ (gap : ℕ). IfSome s.last (λ last. last + gap ≤ clock)) (sym h.2) may

raised_releases : {clock : ℕ} {row : List TaskRecord} {ss ss' : List Standing} (raised : List TaskRecord) → Raised row raised →
    Releases clock row ss ss' → Releases clock raised ss ss'
raised_releases [] h no_more = no_more
raised_releases [] h (stays r) = elim h [ ]
raised_releases [] h (comes may r) = elim h [ ]
raised_releases (t' ∷ raised) h no_more = elim h [ ]
raised_releases (t' ∷ raised) h (stays r) = stays (raised_releases raised h.1 r)
raised_releases {clock} (t' ∷ raised) h (comes {t = t} {s = s} may r) =
    comes (raised_may clock t t' s h.0 may) (raised_releases raised h.1 r)

-- A job that says that it is finished where it closed before, closes neither sooner nor later.
closes_alike : (t t' : TaskRecord) (said : Bool) (j : Job) → t.work ≤ t'.work → closes t' (closes t said j) j ≡ closes t said j
closes_alike t t' true j h = refl
closes_alike t t' false j h = go (nat_le t.work j.served) refl
  where
    go : (b : Bool) → nat_le t.work j.served ≡ b → (b || nat_le t'.work j.served) ≡ b
    go true e = refl
    go false e = lt-leb t'.work j.served (omega (arith, leb-false t.work j.served e))

-- What the served job has to say in the raised row for the slot to be the same.
pub record SameSlot (said : Bool) (row raised : List TaskRecord) (ss : List Standing) : Type 0 where
  pub says : Bool
  pub same : serve says raised ss ≡ serve said row ss

raised_serve : (said : Bool) (row raised : List TaskRecord) (ss : List Standing) → Raised row raised → SameSlot said row raised ss
raised_serve said [] [] ss h = record { says = said; same = refl }
raised_serve said [] (t' ∷ raised) ss h = elim h [ ]
raised_serve said (t ∷ row) [] ss h = elim h [ ]
raised_serve said (t ∷ row) (t' ∷ raised) [] h = record { says = said; same = refl }
raised_serve said (t ∷ row) (t' ∷ raised) (s ∷ ss) h = go (raised_serve said row raised ss h.1) (idle_or_waiting s)
  where
    go : SameSlot said row raised ss → (s.waiting ≡ []) ⊎ Waiting s → SameSlot said (t ∷ row) (t' ∷ raised) (s ∷ ss)
    go lower (inl e) =
        record {
          says = lower.says;
          same = serve_idle lower.says t' raised s ss e
              ∙ ap {B = List Standing} (λ r. s ∷ r) lower.same
              ∙ sym (serve_idle said t row s ss e);
        }
    go lower (inr w) =
        record {
          says = closes t said (served_once w.first);
          same = serve_waiting (closes t said (served_once w.first)) t' raised s ss w
              ∙ ap
              {B = List Standing}
              (λ (closed : Bool).
              record { last = s.last; waiting = cond closed w.rest (served_once w.first ∷ w.rest) } ∷ ss)
              (closes_alike t t' said (served_once w.first) h.0.0)
              ∙ sym (serve_waiting said t row s ss w);
        }

pub raised_reached : (row raised : List TaskRecord) {l : Lane} → Raised row raised → Reached row l → Reached raised l
raised_reached row raised h (starts clock) =
    subst (λ (ss : List Standing). Reached raised (record { clock = clock; standings = ss })) (raised_fresh row raised h) (starts clock)
raised_reached row raised h (slot {l = l} {standings = ss} r releases said) =
    subst (λ (after : List Standing). Reached raised (record { clock = l.clock + 1; standings = after }))
    (raised_serve said row raised ss h).same
    (slot (raised_reached row raised h r) (raised_releases raised h releases) (raised_serve said row raised ss h).says)

pub larger_works_wait_no_less : LargerWorksWaitNoLess
larger_works_wait_no_less row raised i time h late =
    record {
      lane = late.lane;
      reached = raised_reached row raised h late.reached;
      job = late.job;
      waits = late.waits;
      past = late.past;
    }

raised_limit : (row raised : List TaskRecord) (i : ℕ) → Raised row raised → (slice_index_or raised i no_task).limit ≡ (slice_index_or row i no_task).limit
raised_limit [] [] i h = refl
raised_limit [] (t' ∷ raised) i h = elim h [ ]
raised_limit (t ∷ row) [] i h = elim h [ ]
raised_limit (t ∷ row) (t' ∷ raised) zero h = h.0.1
raised_limit (t ∷ row) (t' ∷ raised) (suc i) h = raised_limit row raised i h.1

pub safe_with_larger_works : SafeWithLargerWorks
safe_with_larger_works row raised i h safe late =
    safe
    (subst (λ (time : ℕ). WaitsPast raised i time) (sym (raised_limit row raised i h))
    (larger_works_wait_no_less row raised i (slice_index_or row i no_task).limit h late))
