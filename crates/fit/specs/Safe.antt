-- From a time that no job of the last task waits for, within its limit, to its safety: what a fit test has to show.
use Rattle.std.proofs.Common.{subst, arith}
use Rattle.std.specs.Prelude.{ℕ, ◌≤◌, List, [], ◌∷◌, ◌++◌, length, refl}
use Rattle.std.proofs.lemmas.List.{get_or_push}
use Rattle.tasks.specs.Task.{Bounded}
use Rattle.tasks.specs.declared.record.TaskRecord.{TaskRecord}
use Rattle.fit.specs.Lane.{WaitsPast, SafeTask, no_task}
use Rattle.fit.specs.Theorems.{Proper}

-- What waits for a time waits for any shorter one.
pub waits_less : (row : List TaskRecord) (i time limit : ℕ) → time ≤ limit → WaitsPast row i limit → WaitsPast row i time
waits_less row i time limit h late =
    record { lane = late.lane; reached = late.reached; job = late.job; waits = late.waits; past = omega arith }

-- The last task is safe if none of its jobs waits for a time within its limit.
pub safe_if_none_waits : (row : List TaskRecord) (asked : TaskRecord) (time : ℕ) → time ≤ asked.limit →
    (WaitsPast (row ++ (asked ∷ [])) (length row) time → ⊥) → SafeTask (row ++ (asked ∷ [])) (length row)
safe_if_none_waits row asked time h none late =
    none
    (waits_less (row ++ (asked ∷ [])) (length row) time asked.limit h
    (subst (λ (t : TaskRecord). WaitsPast (row ++ (asked ∷ [])) (length row) t.limit) (get_or_push row asked no_task (length row) refl) late))

-- A record within its bounds has some work and a gap.
pub bounded_is_proper : (widest : ℕ) (t : TaskRecord) → Bounded widest t → Proper t
bounded_is_proper widest t h = (h.0.0, omega arith)
