-- The share rule: over any scale and any shares that are at least their fractions, no job waits for the time that the rule gives.
use Rattle.std.specs.Prelude.{◌≡◌, ℕ, zero, suc, ◌+◌, ◌-◌, ◌*◌, ◌<◌, ◌≤◌, List, [], ◌∷◌, length, sum_by}
use Rattle.std.proofs.Common.{ap, suc-mul, mul-le-mul_left, mul-le-mul_right, arith}
use Rattle.std.specs.List.{AllByRecursion}
use Rattle.std.proofs.lemmas.List.Sums.{sum_by-cons}
use Rattle.tasks.specs.declared.record.TaskRecord.{TaskRecord}
use Rattle.fit.specs.Lane.{Standing}
use Rattle.fit.specs.Theorems.{Covers, SharesBoundWaiting}
use Rattle.fit.specs.Account.{served_within, waiting_release}
use Rattle.fit.specs.Split.{Seen, seen, asked_waits}
use Rattle.fit.specs.Window.{Accounts, Window, window}

-- Slots within n works, where n gaps reach at most one gap past `span`, are within one work and the share of `span`.
share_covers : (scale share work gap n slots span : ℕ) → scale * work ≤ share * gap → slots ≤ n * work → n * gap ≤ span + gap →
    scale * slots ≤ scale * work + share * span
share_covers scale share work gap zero slots span covers within spaced = omega (arith, mul-le-mul_left scale none)
  where
    none : slots ≤ 0
    none = omega arith
share_covers scale share work gap (suc n) slots span covers within spaced =
    omega (
      arith,
      mul-le-mul_left scale within,
      ap (λ (m : ℕ). scale * m) (suc-mul n work),
      mul-le-mul_left n covers,
      mul-le-mul_left share before,
    )
  where
    before : n * gap ≤ span
    before = omega arith

-- The row was served at most, of each task, its work and its share of the window.
row_share : (scale : ℕ) (share : TaskRecord → ℕ) (from clock span : ℕ) (row : List TaskRecord) (ss : List Standing) (total : ℕ) →
    from + span ≡ clock → AllByRecursion (Covers scale share) row → Accounts from clock row ss total →
    scale * total ≤ sum_by (λ t. scale * t.work + share t * span) row
row_share scale share from clock span [] [] total e covers h = omega (arith, ap (λ (n : ℕ). scale * n) h)
row_share scale share from clock span [] (s ∷ ss) total e covers h = elim h [ ]
row_share scale share from clock span (t ∷ row) [] total e covers h = elim h [ ]
row_share scale share from clock span (t ∷ row) (s ∷ ss) total e covers h =
    omega (
      arith,
      ap (λ (n : ℕ). scale * n) h.3,
      share_covers scale (share t) t.work t.gap (h.0 + length s.waiting) h.1 span covers.0 (served_within h.4) spaced,
      row_share scale share from clock span row ss h.2 e covers.1 h.5,
      sum_by-cons (λ (t : TaskRecord). scale * t.work + share t * span) t row,
    )
  where
    spaced : (h.0 + length s.waiting) * t.gap ≤ span + t.gap
    spaced = omega arith

-- Works and shares of a time, added up apart.
shares_apart : (scale : ℕ) (share : TaskRecord → ℕ) (time : ℕ) (row : List TaskRecord) →
    sum_by (λ t. scale * t.work + share t * time) row ≡ sum_by (λ t. scale * t.work) row + sum_by share row * time
shares_apart scale share time [] = omega arith
shares_apart scale share time (t ∷ row) =
    omega (
      arith,
      sum_by-cons (λ (t : TaskRecord). scale * t.work + share t * time) t row,
      sum_by-cons (λ (t : TaskRecord). scale * t.work) t row,
      ap (λ (n : ℕ). n * time) (sum_by-cons share t row),
      shares_apart scale share time row,
    )

-- The two rules against a window that was full for `lead` slots before the job's release and `time + more` after it.
shares_refuse : (scale asked_share work_sum share_sum asked_work lead time more slots asked_slots : ℕ) →
    1 ≤ scale →
    scale * asked_work + (work_sum + share_sum * time) ≤ scale * time →
    asked_share + share_sum ≤ scale →
    scale * slots ≤ work_sum + share_sum * (lead + (time + more)) →
    scale * (asked_slots + 1) ≤ scale * asked_work + asked_share * lead →
    slots + asked_slots ≡ lead + (time + more) →
    ⊥
shares_refuse scale asked_share work_sum share_sum asked_work lead time more slots asked_slots some first second row asked full =
    omega (
      arith,
      ap (λ (n : ℕ). scale * n) full,
      mul-le-mul_right lead second,
      mul-le-mul_right more second,
    )

pub share_rule : SharesBoundWaiting
share_rule scale share row asked time some proper one covers covered first second late =
    shares_refuse scale (share asked) (sum_by (λ (t : TaskRecord). scale * t.work) row) (sum_by share row) asked.work
    lead time more v.total v.served some
    (omega (arith, first, shares_apart scale share time row))
    second
    (omega (
      arith,
      row_share scale share v.from late.lane.clock (lead + (time + more)) row l.row_standings v.total span covers v.row_accounts,
      shares_apart scale share (lead + (time + more)) row,
    ))
    (share_covers scale (share asked) asked.work asked.gap (j.0 + 1) (v.served + 1) lead covered (omega (arith, j.2)) behind)
    (omega (arith, v.full, span))
  where
    l : Seen row asked late.lane
    l = seen row asked late.reached

    v : Window row asked late.lane.clock l.row_standings l.asked_standing
    v = window proper one l.run

    j : (n : ℕ) × (v.from + n * asked.gap ≤ late.job.release) × (v.served < (n + 1) * asked.work)
    j = waiting_release late.job v.asked_account (asked_waits l late.waits)

    lead : ℕ
    lead = late.job.release - v.from

    more : ℕ
    more = late.lane.clock - (late.job.release + time)

    span : v.from + (lead + (time + more)) ≡ late.lane.clock
    span = omega (arith, j.1)

    behind : (j.0 + 1) * asked.gap ≤ lead + asked.gap
    behind = omega (arith, j.1)
