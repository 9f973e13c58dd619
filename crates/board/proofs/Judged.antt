-- What is proved of every plan for a task list, whoever made it, under any test that keeps the law.
use Rattle.std.proofs.Common.{◌≡◌, ℕ, ◌<◌, ◌≤◌, List, [], ◌∷◌, ◌++◌, length, sym, ap, ◌∙◌, arith}
use Rattle.tasks.specs.declared.record.TaskRecord.{TaskRecord}
use Rattle.fit.specs.Lane.{SafeTask}
use Rattle.plan.specs.Placing.{Fails, Passes}
use Rattle.plan.specs.declared.fault.PlanFault.{PlanFault}
use Rattle.plan.proofs.Growing.{lanes_are-safe, placed_passes}
use Rattle.plan.proofs.Settled.{settled}
use Rattle.board.specs.declared.fault.BoardFault.{BoardFault}
use Rattle.board.specs.declared.fault.BoardFault.TheVariants.{Plan, NoLane, NoTask, Early, QueueFull, SlotOpen, SlotShut, NotServed, ClockEnd}
use Rattle.board.specs.PlainBoard.{clock_end}
use Rattle.board.specs.Promise.{NoBoard, PlansAreJudged}

-- After a yes, no run of the row with the asked task at its end has a late job of that task.
abbrev pub KeepsTheLaw : (List TaskRecord → TaskRecord → Type 0) → Type 0
KeepsTheLaw yes_to =
    (row : List TaskRecord) (asked : TaskRecord) → yes_to row asked → SafeTask (row ++ (asked ∷ [])) (length row)

module _ (yes_to : List TaskRecord → TaskRecord → Type 0) (lanes : ℕ) (tasks : List TaskRecord) where
  -- No board is set up for one of two reasons: the plan, or the clock.
  no_board_ways :
      (plan : List ℕ) (start : ℕ) (P : BoardFault → Type 0)
      → ((fault : PlanFault) → Fails yes_to lanes tasks plan fault → P (Plan fault))
      → ((clock : ℕ) → Passes yes_to lanes tasks plan → clock_end < start → clock ≡ start → P (ClockEnd clock))
      → (f : BoardFault) → NoBoard yes_to lanes tasks plan start f → P f
  no_board_ways plan start P by_plan by_clock (Plan fault) h = by_plan fault h
  no_board_ways plan start P by_plan by_clock (NoLane lane) h = absurd h
  no_board_ways plan start P by_plan by_clock (NoTask task) h = absurd h
  no_board_ways plan start P by_plan by_clock (Early clock) h = absurd h
  no_board_ways plan start P by_plan by_clock (QueueFull task) h = absurd h
  no_board_ways plan start P by_plan by_clock (SlotOpen clock) h = absurd h
  no_board_ways plan start P by_plan by_clock (SlotShut clock) h = absurd h
  no_board_ways plan start P by_plan by_clock (NotServed bit) h = absurd h
  no_board_ways plan start P by_plan by_clock (ClockEnd clock) h = by_clock clock h.0 h.1 h.2

  pub one_board_fault :
      (plan : List ℕ) (start : ℕ) (f f' : BoardFault)
      → NoBoard yes_to lanes tasks plan start f → NoBoard yes_to lanes tasks plan start f' → f ≡ f'
  one_board_fault plan start f f' h h' =
      let one = settled yes_to lanes tasks in
      no_board_ways plan start (λ g. g ≡ f')
      (λ fault fails.
      no_board_ways plan start (λ g. Plan fault ≡ g) (λ fault' fails'. ap Plan (one.one_check_fault plan fault fault' fails fails'))
      (λ clock' passes' late' is'. absurd (one.no_fault_passes plan fault fails passes')) f' h')
      (λ clock passes late is.
      no_board_ways plan start (λ g. ClockEnd clock ≡ g) (λ fault' fails'. absurd (one.no_fault_passes plan fault' fails' passes))
      (λ clock' passes' late' is'. ap ClockEnd (is ∙ sym is')) f' h')
      f h

  pub no_fault_no_refusal :
      (plan : List ℕ) (start : ℕ) (f : BoardFault)
      → Passes yes_to lanes tasks plan → start ≤ clock_end → NoBoard yes_to lanes tasks plan start f → ⊥
  no_fault_no_refusal plan start f passes soon =
      no_board_ways plan start (λ _. ⊥) (λ fault fails. (settled yes_to lanes tasks).no_fault_passes plan fault fails passes)
      (λ clock passes' late is. omega arith) f

  pub plans_are_judged : KeepsTheLaw yes_to → PlansAreJudged yes_to lanes tasks
  plans_are_judged law =
      record {
        passed_is_safe = λ plan. lanes_are-safe yes_to lanes tasks plan law;
        placed_passes = placed_passes yes_to lanes tasks;
        one_answer = settled yes_to lanes tasks;
        one_board_fault = one_board_fault;
        no_fault_no_refusal = no_fault_no_refusal;
      }
