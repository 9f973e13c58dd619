-- The law: alone on its lane, a job never waits for as long as its work, by the exact rule with no task above.
use Rattle.std.specs.Prelude.{List, [], ◌∷◌, ◌++◌, length}
use Rattle.std.proofs.Common.{sym, subst, arith}
use Rattle.std.proofs.lemmas.List.{nil_from_length}
use Rattle.fit.specs.Counts.{exact_rule}
use Rattle.fit.specs.Safe.{bounded_is_proper, safe_if_none_waits}
use Rattle.fit.specs.Lane.{SafeTask}
use Rattle.own_lane.specs.OwnLane.{OwnLaneYes}
use Rattle.tasks.specs.Task.{Bounded, widest_grid}
use Rattle.tasks.specs.declared.record.TaskRecord.{TaskRecord}

pub alone_is_safe : (asked : TaskRecord) → Bounded widest_grid asked → SafeTask ([] ++ (asked ∷ [])) (length {A = TaskRecord} [])
alone_is_safe asked bounded =
    safe_if_none_waits [] asked asked.work bounded.0.1
    (exact_rule [] asked asked.work (λ t. 0) bounded.0.2 tt (bounded_is_proper widest_grid asked bounded) tt (omega arith))

-- After a yes nobody stands above the task.
pub own_lane_safe : (row : List TaskRecord) (asked : TaskRecord) → OwnLaneYes row asked → SafeTask (row ++ (asked ∷ [])) (length row)
own_lane_safe row asked h =
    subst (λ (r : List TaskRecord). SafeTask (r ++ (asked ∷ [])) (length r)) (sym (nil_from_length row h.nobody)) (alone_is_safe asked h.bounded)
