-- The plain board that a board stands for: its lanes, its tasks, and what a change of one task changes.
use Rattle.std.proofs.Common.{◌≡◌, ℕ, ◌<◌, ◌≤◌, Bool, true, false, eqb, ◌≢◌, List, [], ◌∷◌, map, length, get_or, set, replicate, is_some, Some, None, sym, refl, ap, ◌∙◌, subst, ⊎_elim, arith}
use Rattle.std.specs.List.{AllByRecursion}
use Rattle.std.proofs.ByRecursion.{All-weaker, kept_by_passes}
use Rattle.std.proofs.lemmas.List.{ext_get_or, get_or-map, get_or_past, get_or-replicate, get_or-set_other, get_or-set_same, length-set}
use Rattle.std.proofs.lemmas.Bool.{cases_eq, cases_lt, eq-eqb, eqb-true}
use Rattle.fit.specs.Lane.{Standing, unreleased}
use Rattle.plan.specs.Placing.{lane_of, order, record_of}
use Rattle.plan.proofs.Order.{length-order, turn_of, turns_apart}
use Rattle.tasks.specs.declared.record.TaskRecord.{TaskRecord}
use Rattle.board.specs.PlainBoard.{PlainBoard, busy, count_from, first_waiting, lane_standings, new_board, place_among, served_task, standing_of, with_standing}
use Rattle.board.specs.Queues.{stands_at}
use Rattle.board.specs.Steps.{next_on}
use Rattle.board.specs.View.{board_of, lane_of_standings, numbers_on}
use Rattle.board.proofs.Counted.{counted-at, length-counted}
use Rattle.board.proofs.Lanes.{Distinct, In, busy-first, distinct_from_places, distinct_kept, in_at, in_kept, in_place, named_first, next-first, others, with_other}

pub order_distinct : (tasks : List TaskRecord) → Distinct (order tasks)
order_distinct tasks =
    distinct_from_places (order tasks) (λ j k l h. turns_apart tasks j k l (omega (arith, length-order tasks)))

module _ (tasks : List TaskRecord) (lanes : ℕ) (plan : List ℕ) (ss : List Standing) (clock : ℕ) (slot_open : Bool) where
  abbrev b : PlainBoard
  b = board_of tasks lanes plan ss clock slot_open

  pub lane-stands : (lane : ℕ) → lane < lanes → lane_standings b lane ≡ lane_of_standings tasks plan ss lane
  lane-stands lane h = counted-at (lane_of_standings tasks plan ss) lanes lane [] h

  pub lane_past : (lane : ℕ) → lanes ≤ lane → lane_standings b lane ≡ []
  lane_past lane h =
      get_or_past (map (lane_of_standings tasks plan ss) (count_from 0 lanes)) lane []
      (omega (arith, length-counted (lane_of_standings tasks plan ss) lanes))

  pub serves_is : (lane : ℕ) → lane < lanes → served_task b lane ≡ next_on plan lane ss (order tasks)
  serves_is lane h =
      ap (λ (stands : List Standing). elim (first_waiting stands) [ None ↦ None | Some place ↦ Some (get_or (numbers_on tasks plan lane) place 0) ]) (lane-stands lane h)
      ∙ (named_first ss (numbers_on tasks plan lane) ∙ sym (next-first ss plan lane (order tasks)))

  pub busy-is : (lane : ℕ) → lane < lanes → busy b lane ≡ is_some (next_on plan lane ss (order tasks))
  busy-is lane h =
      ap (λ (stands : List Standing). elim (first_waiting stands) [ None ↦ false | Some place ↦ true ]) (lane-stands lane h)
      ∙ (busy-first ss (numbers_on tasks plan lane) ∙ ap is_some (sym (next-first ss plan lane (order tasks))))

  pub idle_past : (lane : ℕ) → lanes ≤ lane → busy b lane ≡ false
  idle_past lane h = ap (λ (stands : List Standing). elim (first_waiting stands) [ None ↦ false | Some place ↦ true ]) (lane_past lane h)

  module _ (task : ℕ) (inside : task < length tasks) (on_lane : lane_of plan task < lanes) where
    abbrev ns : List ℕ
    ns = numbers_on tasks plan (lane_of plan task)

    on_its_lane : In task ns
    on_its_lane =
        let at = turn_of tasks task inside in
        in_kept (λ number. eqb (lane_of plan number) (lane_of plan task)) task (order tasks) (eq-eqb (lane_of plan task) (lane_of plan task) refl)
        (subst (λ (n : ℕ). In n (order tasks)) at.2 (in_at (order tasks) at.0 (omega (arith, at.1, length-order tasks))))

    pub stands-is : standing_of b task ≡ stands_at ss task
    stands-is =
        let at = in_place task ns on_its_lane in
        ap (λ (stands : List Standing). get_or stands (place_among ns task) unreleased) (lane-stands (lane_of plan task) on_lane)
        ∙ (get_or-map (stands_at ss) ns (place_among ns task) 0 unreleased at.0 ∙ ap (stands_at ss) at.1)

    -- A task of another lane is another task.
    apart : (lane : ℕ) → lane ≢ lane_of plan task → AllByRecursion (λ n. n ≢ task) (numbers_on tasks plan lane)
    apart lane other =
        All-weaker _ _ (λ n e same. other (sym (eqb-true (lane_of plan n) lane e) ∙ ap (lane_of plan) same)) (numbers_on tasks plan lane)
        (kept_by_passes (λ number. eqb (lane_of plan number) lane) (order tasks))

    pub with_standing-is : (s : Standing) → task < length ss → with_standing b task s ≡ board_of tasks lanes plan (set ss task s) clock slot_open
    with_standing-is s h =
        let L = lane_of plan task in
        let before = map (lane_of_standings tasks plan ss) (count_from 0 lanes) in
        let changed = set (lane_standings b L) (place_among ns task) s in
        let after = lane_of_standings tasks plan (set ss task s) in
        let here : changed ≡ after L =
        ap (λ (stands : List Standing). set stands (place_among ns task) s) (lane-stands L on_lane)
        ∙ with_other ss task s h ns (distinct_kept (λ number. eqb (lane_of plan number) L) (order tasks) (order_distinct tasks)) on_its_lane in
        let each : (k : ℕ) → k < length (set before L changed) → get_or (set before L changed) k [] ≡ get_or (map after (count_from 0 lanes)) k [] =
        λ k l.
        let within : k < lanes =
        omega (arith, length-set before L changed, length-counted (lane_of_standings tasks plan ss) lanes) in
        ⊎_elim
        (λ (same : k ≡ L).
        ap (λ (i : ℕ). get_or (set before L changed) i []) same
        ∙ (get_or-set_same before L changed [] (omega (arith, length-counted (lane_of_standings tasks plan ss) lanes))
        ∙ (here ∙ (ap after (sym same) ∙ sym (counted-at after lanes k [] within)))))
        (λ (other : k ≡ L → ⊥).
        get_or-set_other before L k changed [] other
        ∙ (lane-stands k within
        ∙ (sym (others ss task s (numbers_on tasks plan k) (apart k other)) ∙ sym (counted-at after lanes k [] within))))
        (cases_eq k L) in
        ap (λ (ls : List (List Standing)). record { tasks = tasks; plan = plan; clock = clock; slot_open = slot_open; lanes = ls })
        (ext_get_or [] (set before L changed) (map after (count_from 0 lanes))
        (length-set before L changed ∙ (length-counted (lane_of_standings tasks plan ss) lanes ∙ sym (length-counted after lanes))) each)

-- A board on which no task has released anything is a new board.
pub fresh-stands : (n : ℕ) → stands_at (replicate 32 unreleased) n ≡ unreleased
fresh-stands n =
    ⊎_elim (λ (h : n < 32). get_or-replicate 32 n unreleased unreleased h)
    (λ (h : 32 ≤ n). get_or_past (replicate 32 unreleased) n unreleased h) (cases_lt n 32)

fresh-lane : (tasks : List TaskRecord) (ns : List ℕ) → map (stands_at (replicate 32 unreleased)) ns ≡ map (λ (t : TaskRecord). unreleased) (map (record_of tasks) ns)
fresh-lane tasks [] = refl
fresh-lane tasks (n ∷ ns) =
    ap (λ (s : Standing). s ∷ map (stands_at (replicate 32 unreleased)) ns) (fresh-stands n) ∙ ap (λ ss. unreleased ∷ ss) (fresh-lane tasks ns)

map_same : {X Y : Type 0} (f g : X → Y) → ((x : X) → f x ≡ g x) → (xs : List X) → map f xs ≡ map g xs
map_same f g h [] = refl
map_same f g h (x ∷ xs) = ap (λ y. y ∷ map f xs) (h x) ∙ ap (λ ys. g x ∷ ys) (map_same f g h xs)

pub fresh_board :
    (tasks : List TaskRecord) (lanes : ℕ) (plan : List ℕ) (start : ℕ)
    → board_of tasks lanes plan (replicate 32 unreleased) start false ≡ new_board tasks lanes plan start
fresh_board tasks lanes plan start =
    ap (λ (ls : List (List Standing)). record { tasks = tasks; plan = plan; clock = start; slot_open = false; lanes = ls })
    (map_same (lane_of_standings tasks plan (replicate 32 unreleased)) _ (λ lane. fresh-lane tasks (numbers_on tasks plan lane)) (count_from 0 lanes))
