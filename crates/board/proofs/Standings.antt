-- One task's queue among all: how its task stands, and what a step of it leaves.
use Rattle.std.proofs.Common.{MatchResult, is_ok, ◌≡◌, ℕ, ◌<◌, ◌≤◌, List, map, length, get_or, set, Ok, Err, Result, sym, ap, ◌∙◌, subst}
use Rattle.std.proofs.lemmas.List.{get_or-map, map-set, set-get_or}
use Rattle.std.specs.Result.{IsErrAnd}
use Rattle.fit.specs.Lane.{Standing, unreleased, with_job}
use Rattle.board.specs.Queues.{JobTaken, TakenIn, standing, stands_at}
use Rattle.board.specs.declared.task_queue.TaskQueue.{TaskQueue}

module _ (qs : List TaskQueue) (n : ℕ) (q : TaskQueue) (h : n < length qs) where
  pub stands_read : standing (get_or qs n q) ≡ stands_at (map standing qs) n
  stands_read = sym (get_or-map standing qs n q unreleased h)

  -- The queue was changed, and stands as that function of how it stood.
  pub stands_changed :
      (step : Standing → Standing) (q' : TaskQueue) → standing q' ≡ step (standing (get_or qs n q))
      → map standing (set qs n q') ≡ set (map standing qs) n (step (stands_at (map standing qs) n))
  stands_changed step q' e = map-set standing qs n q' ∙ ap (set (map standing qs) n) (e ∙ ap step stands_read)

  pub job-taken :
      {E : Type 0} (clock : ℕ) (taken : Result (Unit {0}) E) (q' : TaskQueue) → TakenIn (get_or qs n q) clock taken q'
      → JobTaken (map standing qs) n clock taken (map standing (set qs n q'))
  job-taken clock (Ok _) q' t =
      (subst (λ (s : Standing). length s.waiting < 4) stands_read t.0, stands_changed (with_job clock) q' t.1)
  job-taken clock (Err _) q' t = (
    subst (λ (s : Standing). 4 ≤ length s.waiting) stands_read t.0,
    ap (map standing) (ap (set qs n) t.1 ∙ set-get_or qs n q),
  )

-- What is said of a result is said of the one that `map_err` gives for it, and its fault is that of the closure.
module _ {E F : Type 0} where
  pub as-mapped :
      (before after : List Standing) (number clock : ℕ) (r : Result (Unit {0}) E) (r' : Result (Unit {0}) F) → is_ok r' ≡ is_ok r
      → JobTaken before number clock r after → JobTaken before number clock r' after
  as-mapped before after number clock (Ok _) (Ok _) e t = t
  as-mapped before after number clock (Ok _) (Err _) e t = absurd cc
  as-mapped before after number clock (Err _) (Ok _) e t = absurd cc
  as-mapped before after number clock (Err _) (Err _) e t = t

  pub fault-mapped :
      (Q : E → F → Type 0) (r : Result (Unit {0}) E) (r' : Result (Unit {0}) F) (fault given : F)
      → MatchResult r (λ x. r' ≡ Ok x) (λ e. IsErrAnd r' (Q e)) → r' ≡ Err given → ((e : E) → Q e given → given ≡ fault) → given ≡ fault
  fault-mapped Q (Ok _) r' fault given c e h = cc
  fault-mapped Q (Err full) r' fault given c e h = h full (subst (λ (x : Result (Unit {0}) F). IsErrAnd x (Q full)) e c)
