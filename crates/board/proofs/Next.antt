-- The task that a lane serves next: which one it can be, and what a change of one task leaves of it.
use Rattle.std.proofs.Common.{◌≡◌, ℕ, ◌<◌, ◌≤◌, Bool, true, false, cond, ◌&&◌, eqb, ◌≢◌, List, [], ◌∷◌, map, length, get_or, set, replicate, IfSome, Some, None, Option, sym, refl, ap, ◌∙◌, subst, ⊎_elim, arith}
use Rattle.std.specs.List.{AllByRecursion}
use Rattle.std.proofs.ByRecursion.{All-from_get_or, All-get_or}
use Rattle.std.proofs.lemmas.List.{get_or_past, get_or-replicate, get_or-set_other, get_or-set_same, get_or-take}
use Rattle.std.proofs.lemmas.Bool.{and_left, and_parts, and_right, cases_eq, cases_lt, cond_both, cond-false, eq-eqb, eqb-true, ne_eqb}
use Rattle.fit.specs.Lane.{Job, Standing, served_once, unreleased}
use Rattle.plan.specs.Placing.{lane_of, order, record_of}
use Rattle.plan.proofs.Order.{length-order, turn-within}
use Rattle.tasks.specs.declared.record.TaskRecord.{TaskRecord}
use Rattle.board.specs.PlainBoard.{first_closes}
use Rattle.board.specs.Queues.{after_slot_of, has_job, standing, stands_at}
use Rattle.board.specs.Seating.{plan_of, tasks_on}
use Rattle.board.specs.Steps.{AreNext, KnowsNext, closed_by, SlotGiven, next_on, next_task, same_number, served_by}
use Rattle.board.specs.declared.jobs.Jobs.{Jobs}
use Rattle.board.specs.declared.seats.Seats.{Seats}
use Rattle.board.proofs.View.{fresh-stands}

-- A task of the list sits on one of the four lanes.
pub on_lane : (seats : Seats) (task : ℕ) → task < length (tasks_on seats) → lane_of (plan_of seats) task < seats.list.lanes
on_lane seats task inside =
    subst (λ (l : ℕ). l < seats.list.lanes)
    (sym (get_or-take (length (tasks_on seats)) seats.lane_of task 0 inside)) (seats.on_lanes task inside)

is_same : (a b : Option ℕ) → same_number a b ≡ true → a ≡ b
is_same None None e = refl
is_same None (Some n) e = cc
is_same (Some m) None e = cc
is_same (Some m) (Some n) e = ap Some (eqb-true m n e)

same_itself : (a : Option ℕ) → same_number a a ≡ true
same_itself None = refl
same_itself (Some n) = eq-eqb n n refl

same_if : (a b : Option ℕ) → a ≡ b → same_number a b ≡ true
same_if a b e = ap (λ (o : Option ℕ). same_number o b) e ∙ same_itself b

module _ (plan : List ℕ) (lane : ℕ) where
  abbrev serves : List Standing → ℕ → Bool
  serves ss n = eqb (lane_of plan n) lane && has_job (stands_at ss n)

  -- It hangs on nothing but which tasks of the lane have a job.
  next-same :
      (ss ss' : List Standing) → ((n : ℕ) → serves ss' n ≡ serves ss n) → (ns : List ℕ)
      → next_on plan lane ss' ns ≡ next_on plan lane ss ns
  next-same ss ss' h [] = refl
  next-same ss ss' h (n ∷ ns) =
      ap (λ (b : Bool). cond b (Some n) (next_on plan lane ss' ns)) (h n)
      ∙ ap (λ (o : Option ℕ). cond (serves ss n) (Some n) o) (next-same ss ss' h ns)

  -- Where no task has a job there is none.
  next-none : (ss : List Standing) → ((n : ℕ) → has_job (stands_at ss n) ≡ false) → (ns : List ℕ) → next_on plan lane ss ns ≡ None
  next-none ss h [] = refl
  next-none ss h (n ∷ ns) =
      cond-false (serves ss n) (Some n) (next_on plan lane ss ns) (and_right (eqb (lane_of plan n) lane) (has_job (stands_at ss n)) (h n))
      ∙ next-none ss h ns

  -- Where no task sits on the lane there is none.
  next_past : (ss : List Standing) (ns : List ℕ) → AllByRecursion (λ n. lane_of plan n ≢ lane) ns → next_on plan lane ss ns ≡ None
  next_past ss [] a = refl
  next_past ss (n ∷ ns) a =
      cond-false (serves ss n) (Some n) (next_on plan lane ss ns) (and_left (eqb (lane_of plan n) lane) (has_job (stands_at ss n)) (ne_eqb (lane_of plan n) lane a.0))
      ∙ next_past ss ns a.1

  -- It is one of these numbers, and sits on the lane.
  next_such :
      (P : ℕ → Type 0) (ss : List Standing) (ns : List ℕ) → AllByRecursion P ns
      → IfSome (next_on plan lane ss ns) (λ n. P n × (lane_of plan n ≡ lane))
  next_such P ss [] a = tt
  next_such P ss (n ∷ ns) a =
      cond_both (serves ss n) (Some n) (next_on plan lane ss ns) (λ (o : Option ℕ). IfSome o (λ m. P m × (lane_of plan m ≡ lane)))
      (λ e. (a.0, eqb-true (lane_of plan n) lane (and_parts (eqb (lane_of plan n) lane) (has_job (stands_at ss n)) e).0))
      (λ e. next_such P ss ns a.1)

  module _ (ss : List Standing) (n : ℕ) (s : Standing) where
    -- A change of a task on another lane leaves it.
    next_aside : lane ≢ lane_of plan n → (ns : List ℕ) → next_on plan lane (set ss n s) ns ≡ next_on plan lane ss ns
    next_aside other =
        next-same ss (set ss n s) (λ m.
        ⊎_elim
        (λ (e : m ≡ n).
        let apart : eqb (lane_of plan m) lane ≡ false = ne_eqb (lane_of plan m) lane (λ is. other (sym is ∙ ap (lane_of plan) e)) in
        and_left _ (has_job (stands_at (set ss n s) m)) apart ∙ sym (and_left _ (has_job (stands_at ss m)) apart))
        (λ (e : m ≡ n → ⊥). ap (λ (x : Standing). eqb (lane_of plan m) lane && has_job x) (get_or-set_other ss n m s unreleased e))
        (cases_eq m n))

    -- So does a change that leaves the task with a job or without.
    next_kept : n < length ss → has_job s ≡ has_job (stands_at ss n) → (ns : List ℕ) → next_on plan lane (set ss n s) ns ≡ next_on plan lane ss ns
    next_kept h same =
        next-same ss (set ss n s) (λ m.
        ap (λ (b : Bool). eqb (lane_of plan m) lane && b)
        (⊎_elim
        (λ (e : m ≡ n).
        ap (λ (k : ℕ). has_job (stands_at (set ss n s) k)) e
        ∙ (ap has_job (get_or-set_same ss n s unreleased h) ∙ (same ∙ ap (λ (k : ℕ). has_job (stands_at ss k)) (sym e))))
        (λ (e : m ≡ n → ⊥). ap has_job (get_or-set_other ss n m s unreleased e))
        (cases_eq m n)))

each_turn_inside : (tasks : List TaskRecord) → AllByRecursion (λ m. m < length tasks) (order tasks)
each_turn_inside tasks = All-from_get_or (λ m. m < length tasks) (order tasks) 0 (λ i l. turn-within tasks i (omega (arith, length-order tasks)))

pub turn_inside : (tasks : List TaskRecord) (ns : List ℕ) (k d : ℕ) → ns ≡ order tasks → k < length ns → get_or ns k d < length tasks
turn_inside tasks ns k d is h =
    subst (λ (xs : List ℕ). get_or xs k d < length tasks) (sym is)
    (All-get_or (λ m. m < length tasks) (order tasks) k d (omega (arith, ap length is)) (each_turn_inside tasks))

first_part : (P Q : ℕ → Type 0) (o : Option ℕ) → IfSome o (λ n. P n × Q n) → IfSome o P
first_part P Q None h = tt
first_part P Q (Some n) h = h.0

-- The task that a lane serves is one of the list.
pub next_inside :
    (tasks : List TaskRecord) (plan : List ℕ) (lane : ℕ) (ss : List Standing) → IfSome (next_on plan lane ss (order tasks)) (λ n. n < length tasks)
next_inside tasks plan lane ss =
    first_part (λ n. n < length tasks) (λ n. lane_of plan n ≡ lane) (next_on plan lane ss (order tasks))
    (next_such plan lane (λ m. m < length tasks) ss (order tasks) (each_turn_inside tasks))

-- It is there, and sits on the lane.
pub next_there :
    (tasks : List TaskRecord) (plan : List ℕ) (lane : ℕ) (ss : List Standing) (n : ℕ) → Some n ≡ next_on plan lane ss (order tasks)
    → (n < length tasks) × (lane_of plan n ≡ lane)
next_there tasks plan lane ss n e =
    subst (λ (o : Option ℕ). IfSome o (λ m. (m < length tasks) × (lane_of plan m ≡ lane))) (sym e)
    (next_such plan lane (λ m. m < length tasks) ss (order tasks) (each_turn_inside tasks))

-- No task sits past the four lanes, so that no such lane serves one.
pub none_past : (seats : Seats) (lane : ℕ) → 4 ≤ lane → (ss : List Standing) → next_on (plan_of seats) lane ss (order (tasks_on seats)) ≡ None
none_past seats lane past ss =
    next_past (plan_of seats) lane ss (order (tasks_on seats))
    (All-from_get_or (λ n. lane_of (plan_of seats) n ≢ lane) (order (tasks_on seats)) 0
    (λ i l e.
    let on = on_lane seats (get_or (order (tasks_on seats)) i 0) (turn-within (tasks_on seats) i (omega (arith, length-order (tasks_on seats)))) in
    absurd (omega (arith, on, e, past, seats.list.lane_range.1))))

module _ (tasks : List TaskRecord) (plan : List ℕ) (ss : List Standing) (next : List (Option ℕ)) (are : AreNext tasks plan ss next) where
  pub next-is : (lane : ℕ) → lane < 4 → get_or next lane None ≡ next_task tasks plan ss lane
  next-is lane h = is_same (get_or next lane None) (next_task tasks plan ss lane) (are lane h)

  module _ (n : ℕ) (s : Standing) (ss' : List Standing) (is : ss' ≡ set ss n s) where
    -- One task has changed, and its lane has looked anew.
    pub looked_anew :
        length next ≡ 4 → (lane : ℕ) → lane_of plan n ≡ lane → (found : Option ℕ) → found ≡ next_task tasks plan ss' lane
        → AreNext tasks plan ss' (set next lane found)
    looked_anew four lane on found right k h =
        same_if (get_or (set next lane found) k None) (next_task tasks plan ss' k)
        (⊎_elim
        (λ (e : k ≡ lane).
        ap (λ (i : ℕ). get_or (set next lane found) i None) e
        ∙ (get_or-set_same next lane found None (omega (arith, e)) ∙ (right ∙ ap (next_task tasks plan ss') (sym e))))
        (λ (e : k ≡ lane → ⊥).
        get_or-set_other next lane k found None e
        ∙ (next-is k h
        ∙ (sym (next_aside plan k ss n s (λ same. e (same ∙ on)) (order tasks)) ∙ ap (λ (x : List Standing). next_task tasks plan x k) (sym is))))
        (cases_eq k lane))

    -- One task has changed, and has a job if it had one.
    pub nothing_new : n < length ss → has_job s ≡ has_job (stands_at ss n) → AreNext tasks plan ss' next
    nothing_new h same k l =
        same_if (get_or next k None) (next_task tasks plan ss' k)
        (next-is k l ∙ (sym (next_kept plan k ss n s h same (order tasks)) ∙ ap (λ (x : List Standing). next_task tasks plan x k) (sym is)))

  -- The task that the lane serves was given a slot.
  pub given_to :
      (lane n : ℕ) → Some n ≡ next_task tasks plan ss lane → (t : TaskRecord) → t ≡ record_of tasks n
      → (said closed : Bool) (ss' : List Standing) → closed ≡ first_closes t said (stands_at ss n).waiting
      → ss' ≡ set ss n (after_slot_of t said (stands_at ss n)) → SlotGiven tasks plan ss lane said closed ss'
  given_to lane n serves_it t is said closed ss' closes stands =
      record {
        stands =
            stands
            ∙ (ap (λ (x : TaskRecord). set ss n (after_slot_of x said (stands_at ss n))) is ∙ ap (served_by tasks said ss) serves_it);
        closes =
            closes
            ∙ (ap (λ (x : TaskRecord). first_closes x said (stands_at ss n).waiting) is
            ∙ ap (closed_by tasks said ss) serves_it);
      }

-- Where the lane serves no task, none was given a slot.
pub given_none :
    (tasks : List TaskRecord) (plan : List ℕ) (ss : List Standing) (lane : ℕ) → None ≡ next_task tasks plan ss lane → (said : Bool)
    → SlotGiven tasks plan ss lane said false ss
given_none tasks plan ss lane none said =
    record {
      stands = ap (served_by tasks said ss) none;
      closes = ap (closed_by tasks said ss) none;
    }

-- Whichever the lane: past the fourth no number is at hand, and no task is served.
pub known-next :
    (seats : Seats) (jobs : Jobs) → KnowsNext seats jobs → (lane : ℕ)
    → get_or jobs.next lane None ≡ next_task (tasks_on seats) (plan_of seats) (map standing jobs.queues) lane
known-next seats jobs knows lane =
    ⊎_elim (λ (h : lane < 4). next-is (tasks_on seats) (plan_of seats) (map standing jobs.queues) jobs.next knows lane h)
    (λ (h : 4 ≤ lane). get_or_past jobs.next lane None (omega (arith, jobs.four)) ∙ sym (none_past seats lane h (map standing jobs.queues)))
    (cases_lt lane 4)

still_waiting :
    (t : TaskRecord) (said : Bool) (last : Option ℕ) (jobs : List Job) → first_closes t said jobs ≡ false
    → has_job (after_slot_of t said (record { last = last; waiting = jobs })) ≡ has_job (record { last = last; waiting = jobs })
still_waiting t said last [] e = refl
still_waiting t said last (job ∷ jobs) e =
    ap (λ (b : Bool). has_job (record { last = last; waiting = cond b jobs (served_once job ∷ jobs) })) e

-- A slot in which no job of the task closes leaves it with a job or without.
pub still_waits : (t : TaskRecord) (said : Bool) (s : Standing) → first_closes t said s.waiting ≡ false → has_job (after_slot_of t said s) ≡ has_job s
still_waits t said s e = still_waiting t said s.last s.waiting e

-- On a board on which no task has released anything no lane has one.
pub none-next :
    (tasks : List TaskRecord) (plan : List ℕ) (ss : List Standing) (next : List (Option ℕ))
    → ss ≡ replicate 32 unreleased → next ≡ replicate 4 None → AreNext tasks plan ss next
none-next tasks plan ss next is none lane h =
    same_if (get_or next lane None) (next_task tasks plan ss lane)
    (ap (λ (os : List (Option ℕ)). get_or os lane None) none
    ∙ (get_or-replicate 4 lane None None h
    ∙ sym (next-none plan lane ss (λ n. ap (λ (x : List Standing). has_job (stands_at x n)) is ∙ ap has_job (fresh-stands n)) (order tasks))))
