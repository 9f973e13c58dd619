-- The account of a busy window: per task, how many of its jobs closed since the window's start, and the slots that it was served.
use Rattle.std.specs.Prelude.{◌≡◌, ℕ, zero, suc, ◌+◌, ◌*◌, ◌<◌, ◌≤◌, Bool, true, false, cond, ◌⊎◌, List, [], ◌∷◌, ◌++◌, length, Option, nat_le, slice_index_or, refl}
use Rattle.std.proofs.Common.{sym, ap, subst, ◌∙◌, inl, inr, ⊎_elim, zero-mul, add-mul, one-mul, not-suc-le-zero, le_of_suc-le-suc, arith}
use Rattle.std.specs.List.{ContainsAt, AllByRecursion}
use Rattle.std.proofs.ByRecursion.{All-push}
use Rattle.std.proofs.lemmas.List.{length_push}
use Rattle.std.proofs.lemmas.Bool.{leb-false, or_parts}
use Rattle.tasks.specs.declared.record.TaskRecord.{TaskRecord}
use Rattle.fit.specs.Lane.{Job, Standing, MayRelease, with_job, served_once, closes, after_service}
use Rattle.fit.specs.Theorems.{Proper}
use Rattle.fit.specs.Service.{Waiting}

-- The slots served to the first waiting job, or 0.
abbrev pub begun : List Job → ℕ
begun [] = 0
begun (j ∷ rest) = j.served

-- Of the waiting jobs only the first was served at all, and less than its work.
abbrev pub Unfinished : ℕ → List Job → Type 0
Unfinished work [] = Unit {0}
Unfinished work (j ∷ rest) = (j.served < work) × AllByRecursion (λ k. k.served ≡ 0) rest

-- The waiting jobs are the releases of the window from number `closed` on: each is released at least so many gaps after its start.
abbrev pub Spaced : ℕ → ℕ → ℕ → List Job → Type 0
Spaced from gap closed [] = Unit {0}
Spaced from gap closed (j ∷ rest) = (from + closed * gap ≤ j.release) × Spaced from gap (closed + 1) rest

-- The account of one task, in the window from `from` to `clock`: of its jobs released in the window `closed` were closed
-- and the others wait, and the task was served `served` slots.
pub record Account (from clock : ℕ) (t : TaskRecord) (s : Standing) (closed served : ℕ) : Type 0 where
  pub within : served ≤ closed * t.work + begun s.waiting
  pub unfinished : Unfinished t.work s.waiting
  pub spaced : Spaced from t.gap closed s.waiting
  -- the task's next release is at least its gap, times its releases so far, after the start
  pub next : (at : ℕ) → from ≤ at → MayRelease at t s → from + (closed + length s.waiting) * t.gap ≤ at
  -- and its last one was before the clock
  pub before : from + (closed + length s.waiting) * t.gap < clock + t.gap

-- A window starts where nothing waits.
pub account_start : (from : ℕ) (t : TaskRecord) (s : Standing) → Proper t → s.waiting ≡ [] → Account from from t s 0 0
account_start from t s proper e =
    record {
      within = omega arith;
      unfinished = subst (Unfinished t.work) (sym e) tt;
      spaced = subst (Spaced from t.gap 0) (sym e) tt;
      next = λ at h may. omega (arith, nothing);
      before = omega (arith, nothing);
    }
  where
    nothing : (0 + length s.waiting) * t.gap ≡ 0
    nothing = ap (λ (jobs : List Job). (0 + length jobs) * t.gap) e ∙ zero-mul t.gap

-- A slot passes and the task stands as it did.
pub account_stays : {from clock closed served : ℕ} {t : TaskRecord} {s : Standing} →
    Account from clock t s closed served → Account from (clock + 1) t s closed served
account_stays h =
    record { within = h.within; unfinished = h.unfinished; spaced = h.spaced; next = h.next; before = omega arith }

-- The job that is released at this clock.
abbrev pub new_job : ℕ → Job
new_job clock = record { release = clock; served = 0 }

begun_push : (jobs : List Job) (clock : ℕ) → begun (jobs ++ (new_job clock ∷ [])) ≡ begun jobs
begun_push [] clock = refl
begun_push (j ∷ rest) clock = refl

unfinished_push : (work : ℕ) (jobs : List Job) (clock : ℕ) → 1 ≤ work → Unfinished work jobs → Unfinished work (jobs ++ (new_job clock ∷ []))
unfinished_push work [] clock h u = (h, tt)
unfinished_push work (j ∷ rest) clock h u = (u.0, All-push (λ k. k.served ≡ 0) rest (new_job clock) u.1 refl)

spaced_push : (from gap closed : ℕ) (jobs : List Job) (clock : ℕ) → Spaced from gap closed jobs →
    from + (closed + length jobs) * gap ≤ clock → Spaced from gap closed (jobs ++ (new_job clock ∷ []))
spaced_push from gap closed [] clock s h = (omega arith, tt)
spaced_push from gap closed (j ∷ rest) clock s h =
    (s.0, spaced_push from gap (closed + 1) rest clock s.1 (omega arith))

-- The task releases a job.
pub account_comes : {from clock closed served : ℕ} {t : TaskRecord} {s : Standing} → Proper t → from ≤ clock → MayRelease clock t s →
    Account from clock t s closed served → Account from (clock + 1) t (with_job clock s) closed served
account_comes {from} {clock} {closed} {served} {t} {s} proper late may h =
    record {
      within = rw (begun_push s.waiting clock) h.within;
      unfinished = unfinished_push t.work s.waiting clock proper.0 h.unfinished;
      spaced = spaced_push from t.gap closed s.waiting clock h.spaced (h.next clock late may);
      next = λ at from_at may_at. omega (arith, one_more, h.next clock late may, may_at);
      before = omega (arith, one_more, h.next clock late may);
    }
  where
    longer : closed + length (s.waiting ++ (new_job clock ∷ [])) ≡ closed + length s.waiting + 1
    longer = omega (arith, length_push s.waiting (new_job clock))

    one_more : (closed + length (s.waiting ++ (new_job clock ∷ []))) * t.gap ≡ (closed + length s.waiting) * t.gap + t.gap
    one_more =
        ap (λ (n : ℕ). n * t.gap) longer ∙ add-mul (closed + length s.waiting) 1 t.gap
        ∙ ap (λ (n : ℕ). (closed + length s.waiting) * t.gap + n) (one-mul t.gap)

-- The standing with its waiting jobs written out.
written_out : (s : Standing) (w : Waiting s) → s ≡ record { last = s.last; waiting = w.first ∷ w.rest }
written_out s w = ap (λ (jobs : List Job). record { last = s.last; waiting = jobs }) w.is

-- The first waiting job was served and waits on.
account_goes_on : {from clock closed served : ℕ} {t : TaskRecord} (last : Option ℕ) (j : Job) (rest : List Job) →
    j.served + 1 < t.work →
    Account from clock t (record { last = last; waiting = j ∷ rest }) closed served →
    Account from clock t (record { last = last; waiting = served_once j ∷ rest }) closed (served + 1)
account_goes_on last j rest under h =
    record {
      within = omega arith;
      unfinished = (under, h.unfinished.1);
      spaced = h.spaced;
      next = h.next;
      before = h.before;
    }

rest_unfinished : (work : ℕ) (jobs : List Job) → 1 ≤ work → AllByRecursion (λ k. k.served ≡ 0) jobs → Unfinished work jobs
rest_unfinished work [] h fresh = tt
rest_unfinished work (j ∷ rest) h fresh = (omega arith, fresh.1)

-- The first waiting job was served and closes.
account_closes : {from clock closed served : ℕ} {t : TaskRecord} (last : Option ℕ) (j : Job) (rest : List Job) → Proper t →
    Account from clock t (record { last = last; waiting = j ∷ rest }) closed served →
    Account from clock t (record { last = last; waiting = rest }) (closed + 1) (served + 1)
account_closes {from} {clock} {closed} {served} {t} last j rest proper h =
    record {
      within = omega arith;
      unfinished = rest_unfinished t.work rest proper.0 h.unfinished.1;
      spaced = h.spaced.1;
      next = λ at late may. omega (arith, h.next at late may);
      before = omega arith;
    }

-- A slot of service: the job closes, or it waits on.
pub account_serves : {from clock closed served : ℕ} {t : TaskRecord} {s : Standing} (said : Bool) (w : Waiting s) → Proper t →
    Account from clock t s closed served →
    ((closes t said (served_once w.first) ≡ true)
    × Account from clock t (after_service t said s w.first w.rest) (closed + 1) (served + 1))
    ⊎ ((closes t said (served_once w.first) ≡ false)
    × Account from clock t (after_service t said s w.first w.rest) closed (served + 1))
account_serves {from} {clock} {closed} {served} {t} {s} said w proper h = go (closes t said (served_once w.first)) refl
  where
    plain : Account from clock t (record { last = s.last; waiting = w.first ∷ w.rest }) closed served
    plain = subst (λ (s : Standing). Account from clock t s closed served) (written_out s w) h

    after : Bool → Standing
    after closed' = record { last = s.last; waiting = cond closed' w.rest (served_once w.first ∷ w.rest) }

    go : (b : Bool) → closes t said (served_once w.first) ≡ b →
        ((b ≡ true) × Account from clock t (after b) (closed + 1) (served + 1))
        ⊎ ((b ≡ false) × Account from clock t (after b) closed (served + 1))
    go true e = inl (refl, account_closes s.last w.first w.rest proper plain)
    go false e =
        inr (
          refl,
          account_goes_on s.last w.first w.rest
              (leb-false t.work (w.first.served + 1) (or_parts said (nat_le t.work (w.first.served + 1)) e).1) plain,
        )

-- A slot of service, whichever it does.
pub account_served : {from clock closed served : ℕ} {t : TaskRecord} {s : Standing} (said : Bool) (w : Waiting s) → Proper t →
    Account from clock t s closed served →
    (closed' : ℕ) × Account from clock t (after_service t said s w.first w.rest) closed' (served + 1)
account_served {closed = closed} said w proper h =
    ⊎_elim (λ now. (closed + 1, now.1)) (λ on. (closed, on.1)) (account_serves said w proper h)

begun_within : (work : ℕ) (jobs : List Job) → Unfinished work jobs → begun jobs ≤ length jobs * work
begun_within work [] u = omega arith
begun_within work (j ∷ rest) u = omega arith

-- The task was served at most the works of its releases in the window.
pub served_within : {from clock closed served : ℕ} {t : TaskRecord} {s : Standing} →
    Account from clock t s closed served → served ≤ (closed + length s.waiting) * t.work
served_within {closed = closed} {t = t} {s = s} h =
    omega
    (arith, begun_within t.work s.waiting h.unfinished)

spaced_at : (from gap closed : ℕ) (jobs : List Job) (i : ℕ) (d : Job) → Spaced from gap closed jobs → i < length jobs →
    from + (closed + i) * gap ≤ (slice_index_or jobs i d).release
spaced_at from gap closed [] i d s h = absurd (not-suc-le-zero h)
spaced_at from gap closed (j ∷ rest) zero d s h = omega arith
spaced_at from gap closed (j ∷ rest) (suc i) d s h =
    omega (arith, spaced_at from gap (closed + 1) rest i d s.1 (le_of_suc-le-suc h))

begun_short : (work : ℕ) (jobs : List Job) → 1 ≤ length jobs → Unfinished work jobs → begun jobs < work
begun_short work [] h u = absurd (not-suc-le-zero h)
begun_short work (j ∷ rest) h u = u.0

-- A waiting job is some release of the window, number n from 0: the task was served less than the works up to and with it.
pub waiting_release : {from clock closed served : ℕ} {t : TaskRecord} {s : Standing} (job : Job) →
    Account from clock t s closed served → ContainsAt s.waiting job →
    (n : ℕ) × (from + n * t.gap ≤ job.release) × (served < (n + 1) * t.work)
waiting_release {from} {clock} {closed} {served} {t} {s} job h has = (closed + has.0, released, short)
  where
    released : from + (closed + has.0) * t.gap ≤ job.release
    released =
        subst (λ (j : Job). from + (closed + has.0) * t.gap ≤ j.release) (has.2 job)
        (spaced_at from t.gap closed s.waiting has.0 job h.spaced has.1)

    some : 1 ≤ length s.waiting
    some = omega arith

    short : served < (closed + has.0 + 1) * t.work
    short =
        omega (
          arith,
          begun_short t.work s.waiting some h.unfinished,
        )

-- A task that has closed no job was served less than its work.
pub served_short : {from clock served : ℕ} {t : TaskRecord} {s : Standing} → 1 ≤ t.work → Account from clock t s 0 served → served < t.work
served_short {t = t} {s = s} some h = omega (arith, short s.waiting h.unfinished)
  where
    short : (jobs : List Job) → Unfinished t.work jobs → begun jobs < t.work
    short [] u = some
    short (j ∷ rest) u = u.0
