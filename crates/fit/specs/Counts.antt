-- The exact rule: with a gap no shorter than the time, no busy window of a lane reaches the time, and so no job waits for it.
use Rattle.std.specs.Prelude.{◌≡◌, ℕ, ◌+◌, ◌*◌, ◌<◌, ◌≤◌, Bool, true, false, cond, ◌⊎◌, List, [], ◌∷◌, length, sum_by}
use Rattle.std.proofs.Common.{ap, ◌∙◌, inl, inr, mul-le-mul_right, lt_of_mul-lt-mul_right, arith}
use Rattle.std.specs.List.{AllByRecursion}
use Rattle.std.proofs.lemmas.List.{length_push, nil_from_length}
use Rattle.std.proofs.lemmas.List.Sums.{sum_by-cons}
use Rattle.tasks.specs.declared.record.TaskRecord.{TaskRecord}
use Rattle.fit.specs.Lane.{Standing, Releases, no_more, stays, comes, served_once, closes, after_service}
use Rattle.fit.specs.Theorems.{Proper, CountsBoundWaiting}
use Rattle.fit.specs.Account.{Account, account_start, account_serves, served_within, served_short, waiting_release}
use Rattle.fit.specs.Prefix.{length_releases}
use Rattle.fit.specs.Service.{Waiting}
use Rattle.fit.specs.Split.{Idle, Beside, begins, row_slot, asked_slot, idle_slot, Seen, seen, asked_waits}
use Rattle.fit.specs.Window.{Accounts, accounts_start, accounts_releases, accounts_serve, account_release}

-- In a window no longer than the time the row was served at most the counted works.
row_count : (time : ℕ) (count : TaskRecord → ℕ) (from clock : ℕ) (row : List TaskRecord) (ss : List Standing) (total : ℕ) →
    clock ≤ from + time → AllByRecursion (λ t. time ≤ count t * t.gap) row → Accounts from clock row ss total →
    total ≤ sum_by (λ t. count t * t.work) row
row_count time count from clock [] [] total short counts h = omega (arith, h)
row_count time count from clock [] (s ∷ ss) total short counts h = elim h [ ]
row_count time count from clock (t ∷ row) [] total short counts h = elim h [ ]
row_count time count from clock (t ∷ row) (s ∷ ss) total short counts h =
    omega (
      arith,
      served_within h.4,
      mul-le-mul_right t.work counted,
      row_count time count from clock row ss h.2 short counts.1 h.5,
      sum_by-cons (λ (t : TaskRecord). count t * t.work) t row,
    )
  where
    fewer : h.0 + length s.waiting < count t + 1
    fewer =
        lt_of_mul-lt-mul_right t.gap
        (omega arith)

    counted : h.0 + length s.waiting ≤ count t
    counted = omega (arith, fewer)

-- The rule's premises.
record Rule (row : List TaskRecord) (asked : TaskRecord) (time : ℕ) (count : TaskRecord → ℕ) : Type 0 where
  within_gap : time ≤ asked.gap
  proper : AllByRecursion Proper row
  one : Proper asked
  counts : AllByRecursion (λ t. time ≤ count t * t.gap) row
  fits : asked.work + sum_by (λ t. count t * t.work) row ≤ time

-- A window shorter than the time, in which the last task has closed no job, and at most one waits.
record Short (row : List TaskRecord) (asked : TaskRecord) (time clock : ℕ) (rs : List Standing) (a : Standing) : Type 0 where
  from : ℕ
  total : ℕ
  served : ℕ
  row_accounts : Accounts from clock row rs total
  asked_account : Account from clock asked a 0 served
  at_most_one : length a.waiting ≤ 1
  full : from + (total + served) ≡ clock
  short : clock < from + time

module _ (row : List TaskRecord) (asked : TaskRecord) (time : ℕ) (count : TaskRecord → ℕ) (rule : Rule row asked time count) where
  -- Where nothing waits a new window starts.
  restarts : (from : ℕ) (rs : List Standing) (a : Standing) → length rs ≡ length row → Idle rs → a.waiting ≡ [] → Short row asked time from rs a
  restarts from rs a h idle e =
      record {
        from = from;
        total = 0;
        served = 0;
        row_accounts = accounts_start from row rs rule.proper h idle;
        asked_account = account_start from asked a rule.one e;
        at_most_one = omega (arith, ap length e);
        full = omega arith;
        short = omega arith;
      }

  -- A window that reaches the time would leave no slot unserved, and yet the works that it can have do not fill it.
  stays_short : (from clock total served : ℕ) (rs : List Standing) (a : Standing) → clock ≤ from + time →
      Accounts from clock row rs total → Account from clock asked a 0 served → length a.waiting ≤ 1 →
      from + (total + served) ≡ clock → Short row asked time clock rs a
  stays_short from clock total served rs a near accounts account few full =
      record {
        from = from;
        total = total;
        served = served;
        row_accounts = accounts;
        asked_account = account;
        at_most_one = few;
        full = full;
        short =
            omega
            (arith, row_count time count from clock row rs total near rule.counts accounts, served_short rule.one.0 account);
      }

  -- The last task releases no second job in such a window.
  few_after_release : {clock : ℕ} {rs : List Standing} {a a' : Standing} → Short row asked time clock rs a →
      Releases clock (asked ∷ []) (a ∷ []) (a' ∷ []) → length a'.waiting ≤ 1
  few_after_release v (stays no_more) = v.at_most_one
  few_after_release {clock} {a = a} v (comes may no_more) = omega (arith, length_push a.waiting (record { release = clock; served = 0 }), none)
    where
      none : length a.waiting < 1
      none =
          lt_of_mul-lt-mul_right asked.gap
          (omega (arith, v.asked_account.next clock (omega arith) may))

  -- The last task is served: its job waits on, or it closes and then nothing waits.
  after_asked : {clock : ℕ} {rs rs' : List Standing} {a a' : Standing} (v : Short row asked time clock rs a) →
      Releases clock row rs rs' → length a'.waiting ≤ 1 → Account v.from (clock + 1) asked a' 0 v.served →
      Idle rs' → (w : Waiting a') (said : Bool) → Short row asked time (clock + 1) rs' (after_service asked said a' w.first w.rest)
  after_asked {clock} {rs} {rs'} {a} {a'} v r few account idle w said = go (account_serves said w rule.one account)
    where
      alone : length w.rest ≡ 0
      alone = omega (arith, few, ap length w.is)

      waiting : (b : Bool) → closes asked said (served_once w.first) ≡ b →
          (after_service asked said a' w.first w.rest).waiting ≡ cond b w.rest (served_once w.first ∷ w.rest)
      waiting b e = ap (λ (b : Bool). cond b w.rest (served_once w.first ∷ w.rest)) e

      late : v.from ≤ clock
      late = omega arith

      go :
          ((closes asked said (served_once w.first) ≡ true)
          × Account v.from (clock + 1) asked (after_service asked said a' w.first w.rest) (0 + 1) (v.served + 1))
          ⊎ ((closes asked said (served_once w.first) ≡ false)
          × Account v.from (clock + 1) asked (after_service asked said a' w.first w.rest) 0 (v.served + 1)) →
          Short row asked time (clock + 1) rs' (after_service asked said a' w.first w.rest)
      go (inl closed) =
          restarts (clock + 1) rs' (after_service asked said a' w.first w.rest) (length_releases r) idle
          (waiting true closed.0 ∙ nil_from_length w.rest alone)
      go (inr on) =
          stays_short v.from (clock + 1) v.total (v.served + 1) rs' (after_service asked said a' w.first w.rest)
          (omega arith)
          (accounts_releases v.from v.total rule.proper late r v.row_accounts)
          on.1
          (omega (arith, ap length (waiting false on.0), alone))
          (omega arith)

  short_window : {clock : ℕ} {rs : List Standing} {a : Standing} → Beside row asked clock rs a → Short row asked time clock rs a
  short_window (begins {clock = clock} {rs = rs} {a = a} h idle e) = restarts clock rs a h idle e
  short_window (row_slot {clock = clock} {rs' = rs'} {a' = a'} b r release busy said) =
      let v = short_window b in
      let late : v.from ≤ clock = omega arith in
      stays_short v.from (clock + 1) (v.total + 1) v.served _ a' (omega arith)
      (accounts_serve v.from (clock + 1) said row rs' v.total rule.proper busy
      (accounts_releases v.from v.total rule.proper late r v.row_accounts))
      (account_release v.from rule.one late release v.asked_account)
      (few_after_release v release)
      (omega arith)
  short_window (asked_slot {clock = clock} b r release idle w said) =
      let v = short_window b in
      let late : v.from ≤ clock = omega arith in
      after_asked v r (few_after_release v release) (account_release v.from rule.one late release v.asked_account) idle w said
  short_window (idle_slot {clock = clock} {rs' = rs'} {a' = a'} b r release idle e) =
      restarts (clock + 1) rs' a' (length_releases r) idle e

pub exact_rule : CountsBoundWaiting
exact_rule row asked time count within_gap proper one counts fits late = omega (arith, v.short, j.1)
  where
    l : Seen row asked late.lane
    l = seen row asked late.reached

    v : Short row asked time late.lane.clock l.row_standings l.asked_standing
    v =
        short_window row asked time count (record { within_gap = within_gap; proper = proper; one = one; counts = counts; fits = fits }) l.run

    j : (n : ℕ) × (v.from + n * asked.gap ≤ late.job.release) × (v.served < (n + 1) * asked.work)
    j = waiting_release late.job v.asked_account (asked_waits l late.waits)
