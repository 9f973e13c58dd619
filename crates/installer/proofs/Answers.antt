-- What place answers over the first bytes of the plan is what the call answers over all of them.
use Rattle.std.proofs.Common.{◌≡◌, ℕ, ◌<◌, ◌≤◌, List, ◌++◌, length, take, drop, Ok, Err, Result, sym, ap, ◌∙◌, subst, arith}
use Rattle.fit.specs.Laws.{linear_safe}
use Rattle.fit.specs.Tests.{LinearYes}
use Rattle.installer.specs.Installing.{Answered, NoPlan}
use Rattle.plan.proofs.Growing.{lanes_are-safe, placed_passes}
use Rattle.plan.specs.Placing.{CannotPlace, Placed, Places}
use Rattle.plan.specs.declared.fault.PlanFault.{PlanFault}
use Rattle.plan.specs.declared.fault.PlanFault.TheVariants.{List as OfList, PlanLength, NoLane, NoFit}
use Rattle.sheet.specs.Spelling.{Entry}
use Rattle.std.proofs.lemmas.List.{drop_at, length-map, length-take-le, take-append-drop, take_at}
use Rattle.tasks.specs.Filling.{tasks_of}
use Rattle.tasks.specs.Reading.{Spells, numbers_said, tasks_said}
use Rattle.tasks.specs.declared.list.TaskList.{TaskList}

module _ (sheet before : List ℕ) (list : TaskList) (entries : List Entry) (spells : Spells sheet list.grid list.lanes entries) (tasks_are : tasks_of list ≡ tasks_said entries) where
  -- as many tasks as entries
  pub all-tasks : length (tasks_of list) ≡ length entries
  all-tasks = ap length tasks_are ∙ length-map entries numbers_said

  pub too_few : (found : ℕ) → found ≡ length before → found < length (tasks_of list) → NoPlan sheet before (PlanLength found)
  too_few found found_is few =
      let short : length before < length entries = omega (arith, all-tasks) in
      (list.grid, list.lanes, entries, spells, short, found_is)

  module _ (over : ℕ) (over_is : over ≡ list.grid) (k : ℕ) (count : k ≡ length (tasks_of list)) (room : k ≤ length before) (part : List ℕ) where
    all : k ≡ length entries
    all = count ∙ all-tasks

    -- every task has a lane
    written : Places (LinearYes over) list.lanes (tasks_of list) part → Answered sheet before (Ok tt) (part ++ drop k before)
    written p =
        let tasks = tasks_said entries in
        let grid = list.grid in
        let lanes = list.lanes in
        let here : Places (LinearYes grid) lanes tasks part = subst (λ g. Places (LinearYes g) lanes tasks part) over_is (subst (λ ts. Places (LinearYes over) lanes ts part) tasks_are p) in
        let long : length part ≡ length entries = here.long ∙ length-map entries numbers_said in
        let front : part ≡ take (length entries) (part ++ drop k before) = sym (take_at part (drop k before) (length entries) long) in
        let places = subst (Places (LinearYes grid) lanes tasks) front here in
        record {
          grid = grid;
          lanes = lanes;
          entries = entries;
          spells = spells;
          written = record {
            room = omega (arith, all);
            places = places;
            safe = lanes_are-safe (LinearYes grid) lanes tasks (take (length entries) (part ++ drop k before))
                (λ row asked yes_to. linear_safe grid row asked spells.grid_range yes_to)
                (placed_passes (LinearYes grid) lanes tasks (take (length entries) (part ++ drop k before)) places);
            rest = drop_at part (drop k before) (length entries) long ∙ ap (λ (n : ℕ). drop n before) all;
          };
        }

    pub answered : (r : Result (Unit {0}) PlanFault) → Placed (LinearYes over) list.lanes (tasks_of list) (take k before) r part
        → Answered sheet before r (part ++ drop k before)
    answered (Ok _) p = written p.0
    answered (Err (NoFit task)) p =
        let lanes = list.lanes in
        let tasks = tasks_said entries in
        let on_tasks = subst (λ ts. CannotPlace (LinearYes over) lanes ts (take k before) (NoFit task)) tasks_are p.0 in
        let on_grid = subst (λ g. CannotPlace (LinearYes g) lanes tasks (take k before) (NoFit task)) over_is on_tasks in
        let here = subst (λ (n : ℕ). CannotPlace (LinearYes list.grid) lanes tasks (take n before) (NoFit task)) all on_grid in (
          (list.grid, lanes, entries, spells, omega (arith, all), here),
          ap (λ (xs : List ℕ). xs ++ drop k before) p.1 ∙ take-append-drop k before,
        )
    answered (Err (PlanLength found)) p = absurd (p.0.0 (length-take-le k before room ∙ count))
    answered (Err (NoLane task)) p = elim p.0 [ ]
    answered (Err (OfList fault)) p = elim p.0 [ ]
