-- Every state of a lane ends a busy window: since its start each slot was served, and each task has an account.
use Rattle.std.specs.Prelude.{◌≡◌, ℕ, ◌+◌, ◌≤◌, Bool, List, [], ◌∷◌, length, refl}
use Rattle.std.proofs.Common.{sym, subst, inl, inr, arith}
use Rattle.std.specs.List.{AllByRecursion}
use Rattle.tasks.specs.declared.record.TaskRecord.{TaskRecord}
use Rattle.fit.specs.Lane.{Standing, Releases, no_more, stays, comes, serve}
use Rattle.fit.specs.Theorems.{Proper}
use Rattle.fit.specs.Account.{Account, account_start, account_stays, account_comes, account_served}
use Rattle.fit.specs.Prefix.{length_releases}
use Rattle.fit.specs.Service.{serve_idle, serve_waiting}
use Rattle.fit.specs.Split.{Idle, Busy, Beside, begins, row_slot, asked_slot, idle_slot}

-- The accounts of a row of tasks, which were served `total` slots together.
abbrev pub Accounts : ℕ → ℕ → List TaskRecord → List Standing → ℕ → Type 0
Accounts from clock [] [] total = total ≡ 0
Accounts from clock [] (s ∷ ss) total = ⊥
Accounts from clock (t ∷ row) [] total = ⊥
Accounts from clock (t ∷ row) (s ∷ ss) total =
    (closed : ℕ) × (served : ℕ) × (rest : ℕ) × (total ≡ served + rest) × Account from clock t s closed served × Accounts from clock row ss rest

pub accounts_start : (from : ℕ) (row : List TaskRecord) (ss : List Standing) → AllByRecursion Proper row → length ss ≡ length row → Idle ss →
    Accounts from from row ss 0
accounts_start from [] [] proper h idle = refl
accounts_start from [] (s ∷ ss) proper h idle = absurd (omega arith)
accounts_start from (t ∷ row) [] proper h idle = absurd (omega arith)
accounts_start from (t ∷ row) (s ∷ ss) proper h idle =
    (0, 0, 0, refl, account_start from t s proper.0 idle.0, accounts_start from row ss proper.1 (omega arith) idle.1)

pub accounts_releases : {clock : ℕ} {row : List TaskRecord} {ss ss' : List Standing} (from total : ℕ) → AllByRecursion Proper row → from ≤ clock →
    Releases clock row ss ss' → Accounts from clock row ss total → Accounts from (clock + 1) row ss' total
accounts_releases from total proper late no_more h = h
accounts_releases from total proper late (stays r) h =
    (h.0, h.1, h.2, h.3, account_stays h.4, accounts_releases from h.2 proper.1 late r h.5)
accounts_releases from total proper late (comes may r) h =
    (h.0, h.1, h.2, h.3, account_comes proper.0 late may h.4, accounts_releases from h.2 proper.1 late r h.5)

-- A busy row is served one slot.
pub accounts_serve : (from clock : ℕ) (said : Bool) (row : List TaskRecord) (ss : List Standing) (total : ℕ) → AllByRecursion Proper row → Busy ss →
    Accounts from clock row ss total → Accounts from clock row (serve said row ss) (total + 1)
accounts_serve from clock said row [] total proper busy h = elim busy [ ]
accounts_serve from clock said [] (s ∷ ss) total proper busy h = elim h [ ]
accounts_serve from clock said (t ∷ row) (s ∷ ss) total proper (inl w) h =
    subst (λ (after : List Standing). Accounts from clock (t ∷ row) after (total + 1)) (sym (serve_waiting said t row s ss w))
    (let a = account_served said w proper.0 h.4 in (a.0, h.1 + 1, h.2, omega arith, a.1, h.5))
accounts_serve from clock said (t ∷ row) (s ∷ ss) total proper (inr b) h =
    subst (λ (after : List Standing). Accounts from clock (t ∷ row) after (total + 1)) (sym (serve_idle said t row s ss b.0))
    (h.0, h.1, h.2 + 1, omega arith, h.4, accounts_serve from clock said row ss h.2 proper.1 b.1 h.5)

-- The last task releases a job, or it does not.
pub account_release : {clock closed served : ℕ} {asked : TaskRecord} {a a' : Standing} (from : ℕ) → Proper asked → from ≤ clock →
    Releases clock (asked ∷ []) (a ∷ []) (a' ∷ []) → Account from clock asked a closed served → Account from (clock + 1) asked a' closed served
account_release from proper late (stays no_more) h = account_stays h
account_release from proper late (comes may no_more) h = account_comes proper late may h

-- The busy window that a state of the lane ends: its start, and the accounts of the row and of the last task.
pub record Window (row : List TaskRecord) (asked : TaskRecord) (clock : ℕ) (rs : List Standing) (a : Standing) : Type 0 where
  pub from : ℕ
  pub total : ℕ
  pub closed : ℕ
  pub served : ℕ
  pub row_accounts : Accounts from clock row rs total
  pub asked_account : Account from clock asked a closed served
  -- every slot since the start was served
  pub full : from + (total + served) ≡ clock

-- Where nothing waits a window starts.
starts_here : {row : List TaskRecord} {asked : TaskRecord} (clock : ℕ) (rs : List Standing) (a : Standing) → AllByRecursion Proper row → Proper asked →
    length rs ≡ length row → Idle rs → a.waiting ≡ [] → Window row asked clock rs a
starts_here {row} {asked} clock rs a proper one h idle e =
    record {
      from = clock;
      total = 0;
      closed = 0;
      served = 0;
      row_accounts = accounts_start clock row rs proper h idle;
      asked_account = account_start clock asked a one e;
      full = omega arith;
    }

pub window : {row : List TaskRecord} {asked : TaskRecord} {clock : ℕ} {rs : List Standing} {a : Standing} → AllByRecursion Proper row → Proper asked →
    Beside row asked clock rs a → Window row asked clock rs a
window {clock = clock} {rs = rs} {a = a} proper one (begins h idle e) = starts_here clock rs a proper one h idle e
window {row} proper one (row_slot {clock = clock} {rs' = rs'} b r release busy said) =
    let v = window proper one b in
    let late : v.from ≤ clock = omega arith in
    record {
      from = v.from;
      total = v.total + 1;
      closed = v.closed;
      served = v.served;
      row_accounts =
          accounts_serve v.from (clock + 1) said row rs' v.total proper busy
          (accounts_releases v.from v.total proper late r v.row_accounts);
      asked_account = account_release v.from one late release v.asked_account;
      full = omega arith;
    }
window {row} proper one (asked_slot {clock = clock} {rs' = rs'} b r release idle w said) =
    let v = window proper one b in
    let late : v.from ≤ clock = omega arith in
    let a = account_served said w one (account_release v.from one late release v.asked_account) in
    record {
      from = v.from;
      total = v.total;
      closed = a.0;
      served = v.served + 1;
      row_accounts = accounts_releases v.from v.total proper late r v.row_accounts;
      asked_account = a.1;
      full = omega arith;
    }
window {a = a} proper one (idle_slot {clock = clock} {rs' = rs'} b r release idle e) =
    starts_here (clock + 1) rs' a proper one (length_releases r) idle e
