-- The task that a lane serves, found place by place, and what the slot leaves: one standing is changed, or none.
use Rattle.std.proofs.Common.{◌≡◌, ℕ, zero, suc, ◌<◌, Bool, List, [], ◌∷◌, length, get_or, set, Some, None, sym, refl, ap, ◌∙◌, subst, arith}
use Rattle.tasks.specs.declared.record.TaskRecord.{TaskRecord}
use Rattle.fit.specs.Lane.{Job, Standing, after_service, no_task, serve, unreleased}
use Rattle.fit.specs.Service.{Waiting, serve_idle, serve_waiting}
use Rattle.board.specs.PlainBoard.{first_waiting}
use Rattle.board.proofs.Lanes.{one_on}

first_idle : (s : Standing) (ss : List Standing) → s.waiting ≡ [] → first_waiting (s ∷ ss) ≡ one_on (first_waiting ss)
first_idle s ss e = subst (λ (jobs : List Job). first_waiting (standing jobs ∷ ss) ≡ one_on (first_waiting ss)) (sym e) refl
  where
    standing : List Job → Standing
    standing jobs = record { last = s.last; waiting = jobs }

first_here : (s : Standing) (ss : List Standing) → Waiting s → first_waiting (s ∷ ss) ≡ Some 0
first_here s ss w = subst (λ (jobs : List Job). first_waiting (standing jobs ∷ ss) ≡ Some 0) (sym w.is) refl
  where
    standing : List Job → Standing
    standing jobs = record { last = s.last; waiting = jobs }

-- No task before this place has a waiting job.
abbrev pub IdleBefore : List Standing → ℕ → Type 0
IdleBefore ss place = (k : ℕ) → k < place → (get_or ss k unreleased).waiting ≡ []

later : (s : Standing) (ss : List Standing) (place : ℕ) → IdleBefore (s ∷ ss) (suc place) → IdleBefore ss place
later s ss place idle k h = idle (suc k) (omega arith)

pub none-waits : (ss : List Standing) → IdleBefore ss (length ss) → first_waiting ss ≡ None
none-waits [] idle = refl
none-waits (s ∷ ss) idle =
    first_idle s ss (idle 0 (omega arith)) ∙ ap one_on (none-waits ss (later s ss (length ss) idle))

pub first-waits :
    (ss : List Standing) (place : ℕ) → place < length ss → IdleBefore ss place → Waiting (get_or ss place unreleased)
    → first_waiting ss ≡ Some place
first-waits [] place h idle w = absurd (omega arith)
first-waits (s ∷ ss) zero h idle w = first_here s ss w
first-waits (s ∷ ss) (suc place) h idle w =
    first_idle s ss (idle 0 (omega arith)) ∙ ap one_on (first-waits ss place (omega arith) (later s ss place idle) w)

-- Where none waits a slot changes nothing.
pub serve-none : (said : Bool) (row : List TaskRecord) (ss : List Standing) → IdleBefore ss (length ss) → serve said row ss ≡ ss
serve-none said [] ss idle = refl
serve-none said (t ∷ row) [] idle = refl
serve-none said (t ∷ row) (s ∷ ss) idle =
    serve_idle said t row s ss (idle 0 (omega arith))
    ∙ ap {B = List Standing} (λ (rest : List Standing). s ∷ rest) (serve-none said row ss (later s ss (length ss) idle))

-- Else it changes how the first task that has a waiting job stands, and no other.
pub serve-first :
    (said : Bool) (row : List TaskRecord) (ss : List Standing) (place : ℕ) → length row ≡ length ss → place < length ss
    → IdleBefore ss place → (w : Waiting (get_or ss place unreleased))
    → serve said row ss ≡ set ss place (after_service (get_or row place no_task) said (get_or ss place unreleased) w.first w.rest)
serve-first said row [] place long h idle w = absurd (omega arith)
serve-first said [] (s ∷ ss) place long h idle w = absurd (omega arith)
serve-first said (t ∷ row) (s ∷ ss) zero long h idle w = serve_waiting said t row s ss w
serve-first said (t ∷ row) (s ∷ ss) (suc place) long h idle w =
    serve_idle said t row s ss (idle 0 (omega arith))
    ∙ ap {B = List Standing} (λ (rest : List Standing). s ∷ rest)
    (serve-first said row ss place (omega arith) (omega arith) (later s ss place idle) w)
