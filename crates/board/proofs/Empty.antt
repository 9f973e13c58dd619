-- A lane with no task has no late job.
use Rattle.std.proofs.Common.{◌≡◌, ℕ, List, [], length, get_or, take, sym, refl, subst, arith}
use Rattle.std.specs.List.{ContainsAt}
use Rattle.fit.specs.Lane.{Lane, Reached, Releases, SafeLane, Standing, no_more, slot, starts, unreleased}
use Rattle.plan.specs.Placing.{LanesAreSafe, order}
use Rattle.tasks.specs.declared.record.TaskRecord.{TaskRecord}

none-released : {clock : ℕ} {before after : List Standing} → Releases clock [] before after → after ≡ []
none-released no_more = refl

none-stands : {l : Lane} → Reached [] l → l.standings ≡ []
none-stands (starts clock) = refl
none-stands (slot reached releases said) = none-released releases

empty_row : SafeLane []
empty_row i late =
    let none : ContainsAt (get_or {A = Standing} [] i unreleased).waiting late.job =
    subst (λ (ss : List Standing). ContainsAt (get_or ss i unreleased).waiting late.job) (none-stands late.reached) late.waits in
    omega (arith, none.1)

pub empty-order : (numbers : List ℕ) (tasks : List TaskRecord) → tasks ≡ [] → take (length tasks) numbers ≡ order tasks
empty-order numbers tasks e = subst (λ (ts : List TaskRecord). take (length ts) numbers ≡ order ts) (sym e) refl

pub empty_is_safe : (lanes : ℕ) (plan : List ℕ) (tasks : List TaskRecord) → tasks ≡ [] → LanesAreSafe lanes tasks (take (length tasks) plan)
empty_is_safe lanes plan tasks e =
    subst (λ (ts : List TaskRecord). LanesAreSafe lanes ts (take (length ts) plan)) (sym e) (λ lane h. empty_row)
