use Rattle.std.proofs.Common.{◌≡◌, suc, ◌+◌, ◌<◌, ◌++◌, length, get_or, vec_items, ap, ◌∙◌, append_assoc, arith}
use Rattle.lanes.specs.Listing.{task_line, task_lines}
use Rattle.lanes.proofs.listing.lines.Goals as goal
use Rattle.tasks.specs.Reading.{no_entry}

pub loop-task-preserved : goal.loop-task-preserved
loop-task-preserved c = (
  omega arith,
  λ grid lanes entries spells long.
      let k = c.loop-task.task in
      let plan = c.args.plan.now in
      let inside : k < length entries = omega arith in
      let line = task_line k (get_or plan k 0) in
      let grown = task_lines plan entries k in
      let next : suc k ≡ k + 1 = omega arith in
      c.in_ok-placed_task.ensures
      ∙ ap (λ name. vec_items c.loop-task.text ++ line name) (c.name_bytes.ensures grid lanes entries spells inside)
      ∙ ap (λ text. text ++ line (get_or entries k no_entry).name) (c.loop-task.invariant.1 grid lanes entries spells long)
      ∙ append_assoc (vec_items c.args.text.now) grown (line (get_or entries k no_entry).name)
      ∙ ap (λ n. vec_items c.args.text.now ++ task_lines plan entries n) next,
)
