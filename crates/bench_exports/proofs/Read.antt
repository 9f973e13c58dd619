-- From what is known of the list that was read to what is said of the sheet.
use Rattle.std.proofs.Common.{◌≡◌, ℕ, ◌-◌, List, [], ◌∷◌, ◌++◌, ◌+◌, length, get_or, take, Result, sym, ap, ◌∙◌, subst, arith}
use Rattle.bench_exports.specs.Measured.{AskedExact, PlacedEither, TakesLast, code_of}
use Rattle.bench_exports.specs.Measured.AskedExact.{no_task, taken, left}
use Rattle.bench_exports.specs.Measured.PlacedEither.{answered}
use Rattle.fit.specs.Tests.{EitherYes, ExactYes, LinearYes}
use Rattle.plan.specs.Placing.{Placed}
use Rattle.plan.specs.declared.fault.PlanFault.{PlanFault}
use Rattle.sheet.specs.Spelling.{Entry}
use Rattle.std.proofs.Math.Seq.{take-append_seam}
use Rattle.std.proofs.lemmas.List.{get_or-append-add, length-append, length-map}
use Rattle.tasks.specs.Filling.{tasks_of}
use Rattle.tasks.specs.List.{blank}
use Rattle.tasks.specs.Reading.{Spells, numbers_said, tasks_said}
use Rattle.tasks.specs.declared.list.TaskList.{TaskList}
use Rattle.tasks.specs.declared.record.TaskRecord.{TaskRecord}

-- the question about the last of these tasks is the one about this task over the others
module _ (tasks row : List TaskRecord) (asked : TaskRecord) (split : tasks ≡ row ++ asked ∷ []) where
  before_last : take (length tasks - 1) tasks ≡ row
  before_last =
      let long : length tasks - 1 ≡ length row = omega (arith, ap length split, length-append row (asked ∷ [])) in
      rw (long, split) (take-append_seam row (asked ∷ []))

  last-is : get_or tasks (length tasks - 1) blank ≡ asked
  last-is =
      let long : length tasks - 1 ≡ length row + 0 = omega (arith, ap length split, length-append row (asked ∷ [])) in
      rw (long, split) (get_or-append-add row (asked ∷ []) 0 blank)

  pub last_asked : ExactYes row asked → TakesLast tasks
  last_asked fits = rw (before_last, last-is) fits

  pub asked_last : TakesLast tasks → ExactYes row asked
  asked_last fits = rw (before_last, last-is) at fits

module _ (sheet : List ℕ) (list : TaskList) (entries : List Entry) (spells : Spells sheet list.grid list.lanes entries) (tasks_are : tasks_of list ≡ tasks_said entries) where
  pub placed_list : (before : List ℕ) (over : ℕ) → over ≡ list.grid → (r : Result (Unit {0}) PlanFault) (after : List ℕ)
      → Placed (EitherYes (LinearYes over) ExactYes) list.lanes (tasks_of list) before r after → PlacedEither sheet before (code_of r) after
  placed_list before over over_is r after p =
      let on_tasks = subst (λ (ts : List TaskRecord). Placed (EitherYes (LinearYes over) ExactYes) list.lanes ts before r after) tasks_are p in
      answered list.grid list.lanes entries r after spells
      (subst (λ (g : ℕ). Placed (EitherYes (LinearYes g) ExactYes) list.lanes (tasks_said entries) before r after) over_is on_tasks)

  pub none_to_ask : length (tasks_of list) ≡ 0 → AskedExact sheet 13
  none_to_ask none = no_task list.grid list.lanes entries spells (sym (length-map entries numbers_said) ∙ sym (ap length tasks_are) ∙ none)

  pub last_taken : TakesLast (tasks_of list) → AskedExact sheet 0
  last_taken fits = taken list.grid list.lanes entries spells (subst TakesLast tasks_are fits)

  pub last-left : (TakesLast (tasks_of list) → ⊥) → AskedExact sheet 12
  last-left none = left list.grid list.lanes entries spells (λ fits. none (subst TakesLast (sym tasks_are) fits))
