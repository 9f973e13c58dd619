-- How the service of a slot falls on a row: the two cases of its first task.
use Rattle.std.specs.Prelude.{◌≡◌, Bool, ◌⊎◌, List, [], ◌∷◌, refl}
use Rattle.std.proofs.Common.{sym, subst, inl, inr}
use Rattle.tasks.specs.declared.record.TaskRecord.{TaskRecord}
use Rattle.fit.specs.Lane.{Job, Standing, after_service, serve}

-- Some job waits: the first of the waiting ones, and the rest.
pub record Waiting (s : Standing) : Type 0 where
  pub first : Job
  pub rest : List Job
  pub is : s.waiting ≡ first ∷ rest

pub idle_or_waiting : (s : Standing) → (s.waiting ≡ []) ⊎ Waiting s
idle_or_waiting s = go s.waiting refl
  where
    go : (jobs : List Job) → s.waiting ≡ jobs → (s.waiting ≡ []) ⊎ Waiting s
    go [] e = inl e
    go (j ∷ rest) e = inr (record { first = j; rest = rest; is = e })

pub serve_idle : (said : Bool) (t : TaskRecord) (row : List TaskRecord) (s : Standing) (ss : List Standing) →
    s.waiting ≡ [] → serve said (t ∷ row) (s ∷ ss) ≡ s ∷ serve said row ss
serve_idle said t row s ss e =
    subst
    (λ (jobs : List Job). serve said (t ∷ row) (standing jobs ∷ ss) ≡ standing jobs ∷ serve said row ss)
    (sym e)
    refl
  where
    standing : List Job → Standing
    standing jobs = record { last = s.last; waiting = jobs }

pub serve_waiting : (said : Bool) (t : TaskRecord) (row : List TaskRecord) (s : Standing) (ss : List Standing) (w : Waiting s) →
    serve said (t ∷ row) (s ∷ ss) ≡ after_service t said s w.first w.rest ∷ ss
serve_waiting said t row s ss w = rw w.is
