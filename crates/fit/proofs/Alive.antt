-- Runs by example: a late job in an overfull lane, and a job that finishes early.
use Rattle.std.proofs.Common.{true, false, List, [], ◌∷◌, Some, refl, arith}
use Rattle.tasks.specs.declared.record.TaskRecord.{TaskRecord}
use Rattle.fit.specs.Lane.{Standing, no_more, comes, after_slot, starts, slot}
use Rattle.fit.specs.Theorems.{task, OverfullLaneIsLate, AJobMayFinishEarly}

-- A task that released its first job at clock 0.
abbrev released : Standing
released = record { last = Some 0; waiting = record { release = 0; served = 0 } ∷ [] }

abbrev overfull : List TaskRecord
overfull = task 1 1 1 ∷ task 1 1 1 ∷ []

-- Both release a job, and the first task's takes the only slot.
pub overfull_lane_is_late : OverfullLaneIsLate
overfull_lane_is_late =
    record {
      lane = after_slot overfull 0 (released ∷ released ∷ []) false;
      reached = slot (starts 0) (comes tt (comes tt no_more)) false;
      job = record { release = 0; served = 0 };
      waits = (0, omega arith, λ d. refl);
      past = omega arith;
    }

pub a_job_may_finish_early : AJobMayFinishEarly
a_job_may_finish_early = (slot (starts 0) (comes tt no_more) true, slot (starts 0) (comes tt no_more) false)
