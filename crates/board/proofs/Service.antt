-- One slot of service, lane by lane from the last one down.
use Rattle.std.proofs.Common.{◌≡◌, ℕ, ◌+◌, ◌-◌, ◌*◌, ◌<◌, ◌≤◌, Bool, true, false, cond, eqb, ◌≢◌, List, [], map, length, Option, sym, refl, ap, ◌∙◌, subst, ⊎_elim, arith}
use Rattle.std.specs.List.{AllByRecursion}
use Rattle.std.proofs.ByRecursion.{All-from_get_or, all_kept_by, All-weaker, kept_by_passes}
use Rattle.std.proofs.lemmas.List.{ext_get_or}
use Rattle.std.proofs.lemmas.Bool.{cases_eq, cases_lt, eqb-true}
use Rattle.fit.specs.Lane.{Standing, serve}
use Rattle.plan.specs.Placing.{lane_of, lane_row, order}
use Rattle.plan.proofs.Order.{length-order, turn-within}
use Rattle.tasks.specs.declared.record.TaskRecord.{TaskRecord}
use Rattle.board.specs.PlainBoard.{after_end, after_service, bit, byte_of, closed_byte, closes_at_end, count_from, lane_standings}
use Rattle.board.specs.Queues.{stands_at}
use Rattle.board.specs.Seating.{plan_of, tasks_on}
use Rattle.board.specs.Serving.{LanesServed, SameButJobs}
use Rattle.board.specs.Steps.{SlotGiven, closed_by, next_on, served_by}
use Rattle.board.specs.View.{board_of, lane_of_standings, numbers_on, standings_on, view}
use Rattle.board.specs.declared.board.Board.{Board}
use Rattle.board.specs.declared.seats.Seats.{Seats}
use Rattle.board.proofs.LaneBytes.{byte_from, byte_more}
use Rattle.board.proofs.Refusals.{few-tasks, length-lanes, length-standings}
use Rattle.board.proofs.Lanes.{all_aside, closes-first, closing, distinct_kept, next-first, serve-first}
use Rattle.board.proofs.Counted.{counted-at, length-counted}
use Rattle.board.proofs.View.{lane-stands, order_distinct}

module _ (tasks : List TaskRecord) (plan : List ℕ) (ss : List Standing) (lane : ℕ) (said : Bool) where
  abbrev ns : List ℕ
  ns = numbers_on tasks plan lane

  abbrev next : Option ℕ
  next = next_on plan lane ss (order tasks)

  numbers_within : length tasks ≤ length ss → AllByRecursion (λ n. n < length ss) ns
  numbers_within few =
      all_kept_by (λ number. eqb (lane_of plan number) lane) (λ n. n < length ss) (order tasks)
      (All-from_get_or (λ n. n < length ss) (order tasks) 0
      (λ i h. let w = turn-within tasks i (omega (arith, length-order tasks)) in omega arith))

  -- The lane itself is served.
  pub lane-after : length tasks ≤ length ss → lane_of_standings tasks plan (served_by tasks said ss next) lane ≡ serve said (lane_row tasks plan lane) (map (stands_at ss) ns)
  lane-after few =
      ap (λ (o : Option ℕ). map (stands_at (served_by tasks said ss o)) ns) (next-first ss plan lane (order tasks))
      ∙ sym (serve-first ss tasks said ns
      (distinct_kept (λ number. eqb (lane_of plan number) lane) (order tasks) (order_distinct tasks)) (numbers_within few))

  -- Every other lane is as it was.
  pub lane_aside : (other : ℕ) → other ≢ lane → lane_of_standings tasks plan (served_by tasks said ss next) other ≡ lane_of_standings tasks plan ss other
  lane_aside other differ =
      let rest = numbers_on tasks plan other in
      ap (λ (o : Option ℕ). map (stands_at (served_by tasks said ss o)) rest) (next-first ss plan lane (order tasks))
      ∙ all_aside ss tasks said rest ns
      (All-weaker (λ n. eqb (lane_of plan n) other ≡ true) (λ n. AllByRecursion (λ m. m ≢ n) ns)
      (λ n e.
      All-weaker (λ m. eqb (lane_of plan m) lane ≡ true) (λ m. m ≢ n)
      (λ m f same. differ (sym (eqb-true (lane_of plan n) other e) ∙ (ap (lane_of plan) (sym same) ∙ eqb-true (lane_of plan m) lane f)))
      ns (kept_by_passes (λ number. eqb (lane_of plan number) lane) (order tasks)))
      rest (kept_by_passes (λ number. eqb (lane_of plan number) other) (order tasks)))

  pub lane-closes : closing said (lane_row tasks plan lane) (map (stands_at ss) ns) ≡ closed_by tasks said ss next
  lane-closes =
      closes-first ss tasks said ns
      ∙ ap (closed_by tasks said ss) (sym (next-first ss plan lane (order tasks)))

above : (k low : ℕ) {lane : ℕ} → low ≤ k → (k ≡ low → ⊥) → lane - 1 ≡ low → 0 < lane → lane ≤ k
above k low h e is some = ⊎_elim (λ (l : k < low + 1). absurd (e (omega arith))) (λ (l : low + 1 ≤ k). omega arith) (cases_lt k (low + 1))

-- The lanes from this one on have been served, and those below have not.
pub record HalfServed (before : Board) (finished lane byte : ℕ) (now : Board) : Type 0 where
  pub low : lane ≤ before.seats.list.lanes
  pub same : SameButJobs before now
  pub done : (k : ℕ) → lane ≤ k → k < before.seats.list.lanes
      → lane_of_standings (tasks_on before.seats) (plan_of before.seats) (standings_on now) k ≡ after_service (view before) finished k
  pub to_do : (k : ℕ) → k < lane
      → lane_of_standings (tasks_on before.seats) (plan_of before.seats) (standings_on now) k
      ≡ lane_of_standings (tasks_on before.seats) (plan_of before.seats) (standings_on before) k
  pub bits : byte ≡ byte_from (closes_at_end (view before) finished) before.seats.list.lanes lane

module _ (before : Board) (finished : ℕ) where
  abbrev lanes : ℕ
  lanes = before.seats.list.lanes

  abbrev T : List TaskRecord
  T = tasks_on before.seats

  abbrev P : List ℕ
  P = plan_of before.seats

  module _ (lane byte : ℕ) (now : Board) (half : HalfServed before finished lane byte now) (some : 0 < lane)
      (closed : Bool) (after : Board) (same : SameButJobs now after)
      (served : SlotGiven (tasks_on now.seats) (plan_of now.seats) (standings_on now) (lane - 1) (bit finished (lane - 1)) closed (standings_on after)) where
    abbrev low : ℕ
    low = lane - 1

    abbrev said : Bool
    said = bit finished low

    abbrev ss : List Standing
    ss = standings_on now

    within : low < lanes
    within = omega (arith, half.low)

    stands : standings_on after ≡ served_by T said ss (next_on P low ss (order T))
    stands =
        subst (λ (seats : Seats). standings_on after ≡ served_by (tasks_on seats) said ss (next_on (plan_of seats) low ss (order (tasks_on seats))))
        half.same.seats served.stands

    closes_as : closed ≡ closed_by T said ss (next_on P low ss (order T))
    closes_as =
        subst (λ (seats : Seats). closed ≡ closed_by (tasks_on seats) said ss (next_on (plan_of seats) low ss (order (tasks_on seats))))
        half.same.seats served.closes

    as_before : lane_of_standings T P ss low ≡ lane_standings (view before) low
    as_before = half.to_do low (omega arith) ∙ sym (lane-stands T lanes P (standings_on before) before.clock before.slot_open low within)

    few : length T ≤ length ss
    few = omega (arith, few-tasks before, length-standings now)

    here : lane_of_standings T P (standings_on after) low ≡ after_service (view before) finished low
    here =
        ap (λ (x : List Standing). lane_of_standings T P x low) stands
        ∙ (lane-after T P ss low said few ∙ ap (serve said (lane_row T P low)) as_before)

    aside : (k : ℕ) → k ≢ low → lane_of_standings T P (standings_on after) k ≡ lane_of_standings T P ss k
    aside k differ = ap (λ (x : List Standing). lane_of_standings T P x k) stands ∙ lane_aside T P ss low said k differ

    bit_is : closed ≡ closes_at_end (view before) finished low
    bit_is = closes_as ∙ (sym (lane-closes T P ss low said) ∙ ap (closing said (lane_row T P low)) as_before)

    pub half_next : (more : ℕ) → more ≡ cond closed 1 0 + 2 * byte → HalfServed before finished low more after
    half_next more is =
        record {
          low = omega (arith, half.low);
          same =
              record {
                seats = same.seats ∙ half.same.seats;
                clock = same.clock ∙ half.same.clock;
                slot = same.slot ∙ half.same.slot;
              };
          done =
              λ k h l.
              ⊎_elim (λ (e : k ≡ low). subst (λ (x : ℕ). lane_of_standings T P (standings_on after) x ≡ after_service (view before) finished x) (sym e) here)
              (λ (e : k ≡ low → ⊥). aside k e ∙ half.done k (above k low h e refl some) l) (cases_eq k low);
          to_do = λ k h. aside k (λ e. omega (arith, e)) ∙ half.to_do k (omega arith);
          bits =
              is
              ∙ (ap (λ (x : Bool). cond x 1 0 + 2 * byte) bit_is
              ∙ (ap (λ (n : ℕ). cond (closes_at_end (view before) finished low) 1 0 + 2 * n) half.bits
              ∙ byte_more (closes_at_end (view before) finished) lanes lane some half.low));
        }

counted_same : {X : Type 0} (f g : ℕ → X) (d : X) (n : ℕ) → ((k : ℕ) → k < n → f k ≡ g k) → map f (count_from 0 n) ≡ map g (count_from 0 n)
counted_same f g d n h =
    ext_get_or d (map f (count_from 0 n)) (map g (count_from 0 n)) (length-counted f n ∙ sym (length-counted g n))
    (λ k l.
    let within : k < n = omega (arith, length-counted f n) in
    counted-at f n k d within ∙ (h k within ∙ sym (counted-at g n k d within)))

-- The board after every lane was served, the slot shut and the clock one higher.
pub ended :
    (before : Board) (finished byte : ℕ) (after : Board) → LanesServed before finished byte after
    → board_of (tasks_on after.seats) after.seats.list.lanes (plan_of after.seats) (standings_on after) (after.clock + 1) false
    ≡ after_end (view before) finished
ended before finished byte after s =
    let seats = before.seats in
    let v = view before in
    ap (λ (x : Seats). board_of (tasks_on x) x.list.lanes (plan_of x) (standings_on after) (after.clock + 1) false) s.same.seats
    ∙ (ap (λ (t : ℕ). board_of (tasks_on seats) seats.list.lanes (plan_of seats) (standings_on after) (t + 1) false) s.same.clock
    ∙ ap (λ (ls : List (List Standing)). record { tasks = tasks_on seats; plan = plan_of seats; clock = before.clock + 1; slot_open = false; lanes = ls })
    (counted_same (lane_of_standings (tasks_on seats) (plan_of seats) (standings_on after)) (after_service v finished) [] seats.list.lanes s.stands
    ∙ ap (λ (n : ℕ). map (after_service v finished) (count_from 0 n)) (sym (length-lanes before))))

pub closed_bits :
    (before : Board) (finished byte : ℕ) (after : Board) → LanesServed before finished byte after → byte ≡ closed_byte (view before) finished
closed_bits before finished byte after s =
    s.closes ∙ ap (λ (n : ℕ). byte_of (map (closes_at_end (view before) finished) (count_from 0 n))) (sym (length-lanes before))
