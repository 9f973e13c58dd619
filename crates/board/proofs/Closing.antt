-- A job that no longer waits after a call was served in the slot that the call ended, and closed rightly.
use Rattle.std.proofs.Common.{◌≡◌, ℕ, zero, suc, ◌+◌, ◌<◌, ◌≤◌, Bool, true, false, cond, leb, ◌⊎◌, List, [], ◌∷◌, length, get_or, take, set, Some, None, Option, sym, refl, ap, ◌∙◌, subst, inl, inr, ⊎_elim, arith}
use Rattle.std.specs.List.{ContainsAt}
use Rattle.std.proofs.ByRecursion.{has_append_left}
use Rattle.std.proofs.lemmas.List.{get_or_past, get_or-set_other, get_or-set_same, set_past}
use Rattle.std.proofs.lemmas.Bool.{cases_eq, cases_lt, leb-true, or_cases}
use Rattle.tasks.specs.declared.record.TaskRecord.{TaskRecord}
use Rattle.fit.specs.Lane.{Job, Standing, closes, no_task, serve, served_once, unreleased, with_job}
use Rattle.plan.specs.Placing.{lane_of, lane_row}
use Rattle.board.specs.declared.call.Call.{Call}
use Rattle.board.specs.declared.call.Call.TheVariants.{Post, Begin, End, Serving, Waiting, Clock}
use Rattle.board.specs.PlainBoard.{PlainBoard, accepted_board, after_end, after_post, after_service, bit, first_waiting, lane_numbers, lane_standings, standing_of, task_place}
use Rattle.board.specs.Promise.{AlwaysClosedRightly, ClosedRightly, Rightly, Waits, board_at}
use Rattle.board.proofs.Lanes.{one_on}
use Rattle.board.proofs.Places.{number-at-place, record_at_place}
use Rattle.board.proofs.Counted.{counted-at}
use Rattle.board.proofs.Run.{after_call_ways}

-- No job with the release waits.
abbrev Gone : List Job → Job → Type 0
Gone waiting job = (other : Job) → ContainsAt waiting other → other.release ≡ job.release → ⊥

-- The job of the task at this place was served and closed.
record ServedAway (said : Bool) (row : List TaskRecord) (ss : List Standing) (place : ℕ) (job : Job) : Type 0 where
  first : first_waiting ss ≡ Some place
  earliest : take 1 (get_or ss place unreleased).waiting ≡ job ∷ []
  done : (said ≡ true) ⊎ ((get_or row place no_task).work ≤ job.served + 1)

abbrev standing : Option ℕ → List Job → Standing
standing last waiting = record { last = last; waiting = waiting }

-- A job among those of the task that is served.
served_here :
    (said : Bool) (t : TaskRecord) (row : List TaskRecord) (last : Option ℕ) (j : Job) (rest : List Job) (ss : List Standing) (job : Job)
    → (k : ℕ) → k < suc (length rest) → ((d : Job) → get_or (j ∷ rest) k d ≡ job)
    → Gone (cond (closes t said (served_once j)) rest (served_once j ∷ rest)) job
    → ServedAway said (t ∷ row) (standing last (j ∷ rest) ∷ ss) 0 job
served_here said t row last j rest ss job zero l at gone =
    elim (closes t said (served_once j)) as (λ c. closes t said (served_once j) ≡ c → Gone (cond c rest (served_once j ∷ rest)) job → ServedAway said (t ∷ row) (standing last (j ∷ rest) ∷ ss) 0 job) [
      | true ↦ λ c g.
          record {
            first = refl;
            earliest = ap {B = List Job} (λ (x : Job). x ∷ []) (at j);
            done = ⊎_elim (λ s. inl s)
                (λ full. inr (subst (λ (x : Job). t.work ≤ x.served + 1) (at j) (leb-true t.work (j.served + 1) full)))
                (or_cases said (leb t.work (j.served + 1)) c);
          }
      | false ↦ λ c g. absurd (g (served_once j) (0, omega arith, λ d. refl) (ap (λ (x : Job). x.release) (at j)))
    ] refl gone
served_here said t row last j rest ss job (suc k) l at gone =
    absurd
    (elim (closes t said (served_once j)) as (λ c. Gone (cond c rest (served_once j ∷ rest)) job → ⊥) [
      | true ↦ λ g. g job (k, omega arith, at) refl
      | false ↦ λ g. g job (suc k, omega arith, at) refl
    ] gone)

-- The first task of the row, with these jobs, and those after it.
served-from :
    (said : Bool) (t : TaskRecord) (row : List TaskRecord) (last : Option ℕ) (jobs : List Job) (ss : List Standing) (job : Job)
    → ((p : ℕ) → ContainsAt (get_or ss p unreleased).waiting job → Gone (get_or (serve said row ss) p unreleased).waiting job → ServedAway said row ss p job)
    → (place : ℕ) → ContainsAt (get_or (standing last jobs ∷ ss) place unreleased).waiting job
    → Gone (get_or (serve said (t ∷ row) (standing last jobs ∷ ss)) place unreleased).waiting job
    → ServedAway said (t ∷ row) (standing last jobs ∷ ss) place job
served-from said t row last [] ss job below zero h gone = absurd (omega (arith, h.1))
served-from said t row last [] ss job below (suc place) h gone =
    let r = below place h gone in
    record { first = ap one_on r.first; earliest = r.earliest; done = r.done }
served-from said t row last (j ∷ rest) ss job below zero h gone = served_here said t row last j rest ss job h.0 h.1 h.2 gone
served-from said t row last (j ∷ rest) ss job below (suc place) h gone = absurd (gone job h refl)

served_away :
    (said : Bool) (row : List TaskRecord) (ss : List Standing) (place : ℕ) (job : Job)
    → ContainsAt (get_or ss place unreleased).waiting job → Gone (get_or (serve said row ss) place unreleased).waiting job
    → ServedAway said row ss place job
served_away said [] ss place job h gone = absurd (gone job h refl)
served_away said (t ∷ row) [] place job h gone = absurd (omega (arith, h.1))
served_away said (t ∷ row) (s ∷ ss) place job h gone =
    served-from said t row s.last s.waiting ss job (λ p h' g. served_away said row ss p job h' g) place h gone

abbrev number_at : List ℕ → Option ℕ → Option ℕ
number_at ns None = None
number_at ns (Some place) = Some (get_or ns place 0)

-- After a write, a place holds what it held or, being the place written to, what was written.
set_ways :
    {X : Type 0} (xs : List X) (i j : ℕ) (x d : X) (P : X → Type 0) → P (get_or xs j d) → (j ≡ i → P x) → P (get_or (set xs i x) j d)
set_ways xs i j x d P old new =
    ⊎_elim
    (λ same.
    ⊎_elim
    (λ (l : i < length xs).
    subst (λ (k : ℕ). P (get_or (set xs i x) k d)) (sym same) (subst P (sym (get_or-set_same xs i x d l)) (new same)))
    (λ past. subst (λ ys. P (get_or ys j d)) (sym (set_past xs i x past)) old)
    (cases_lt i (length xs)))
    (λ other. subst P (sym (get_or-set_other xs i j x d other)) old)
    (cases_eq j i)

module _ (b : PlainBoard) (task : ℕ) (job : Job) (inside : task < length b.tasks) (waits : Waits b task job) where
  gone-at_end : (finished : ℕ) → Gone (standing_of (after_end b finished) task).waiting job → Rightly b (End finished) task job
  gone-at_end finished gone =
      ⊎_elim
      (λ (l : own < length b.lanes).
      let r = served_away (bit finished own) row (lane_standings b own) place job waits
      (subst (λ (ss : List Standing). Gone (get_or ss place unreleased).waiting job) (counted-at (after_service b finished) (length b.lanes) own [] l) gone) in
      record {
        finished = finished;
        at_end = refl;
        served = ap (number_at (lane_numbers b own)) r.first ∙ ap {B = Option ℕ} Some (number-at-place b task inside);
        earliest = r.earliest;
        done = ⊎_elim (λ said. inl said)
            (λ full. inr (subst (λ (t : TaskRecord). t.work ≤ job.served + 1) (record_at_place b task inside no_task) full))
            r.done;
      })
      (λ past.
      absurd
      (omega (arith, (subst (λ (ss : List Standing). ContainsAt (get_or ss place unreleased).waiting job) (get_or_past b.lanes own [] past) waits).1)))
      (cases_lt own (length b.lanes))
    where
      own : ℕ
      own = lane_of b.plan task

      place : ℕ
      place = task_place b task

      row : List TaskRecord
      row = lane_row b.tasks b.plan own

  -- A post leaves every waiting job where it waits.
  waits-after_post : (posted : ℕ) → Waits (after_post b posted) task job
  waits-after_post posted =
      let own = lane_of b.plan task in
      let lane = lane_of b.plan posted in
      let place = task_place b posted in
      let s = standing_of b posted in
      set_ways b.lanes lane own (set (lane_standings b lane) place (with_job b.clock s)) [] (λ (ss : List Standing). ContainsAt (get_or ss (task_place b task) unreleased).waiting job) waits
      (λ same_lane.
      let here : ContainsAt (get_or (lane_standings b lane) (task_place b task) unreleased).waiting job =
      subst (λ (k : ℕ). ContainsAt (get_or (lane_standings b k) (task_place b task) unreleased).waiting job) same_lane waits in
      set_ways (lane_standings b lane) place (task_place b task) (with_job b.clock s) unreleased (λ (after : Standing). ContainsAt after.waiting job) here
      (λ same_place.
      has_append_left s.waiting (record { release = b.clock; served = 0 } ∷ []) job
      (subst (λ (k : ℕ). ContainsAt (get_or (lane_standings b lane) k unreleased).waiting job) same_place here)))

  gone_when_accepted : (call : Call) → Gone (standing_of (accepted_board b call) task).waiting job → Rightly b call task job
  gone_when_accepted (Post posted) gone = absurd (gone job (waits-after_post posted) refl)
  gone_when_accepted Begin gone = absurd (gone job waits refl)
  gone_when_accepted (End finished) gone = gone-at_end finished gone
  gone_when_accepted (Serving lane) gone = absurd (gone job waits refl)
  gone_when_accepted (Waiting asked) gone = absurd (gone job waits refl)
  gone_when_accepted Clock gone = absurd (gone job waits refl)

-- So it is with every call to every board.
pub closed_rightly : (b : PlainBoard) (call : Call) → ClosedRightly b call
closed_rightly b call task job closing =
    after_call_ways (λ (after : PlainBoard). Gone (standing_of after task).waiting job → Rightly b call task job) b call
    (λ _. gone_when_accepted b task job closing.inside closing.waits call)
    (λ gone. absurd (gone job closing.waits refl))
    closing.gone

pub always_closed_rightly : (b : PlainBoard) (calls : List Call) → AlwaysClosedRightly b calls
always_closed_rightly b calls k h = closed_rightly (board_at b calls k) (get_or calls k Clock)
