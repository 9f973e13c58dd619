use Rattle.std.proofs.Common.{refl}
use Rattle.tasks.proofs.Tables.{each_pushed}
use Rattle.tasks.specs.Task.{WorkFits, InRanges, OnGrid}
use Rattle.tasks.proofs.list.TaskList.add.Goals as goal

pub invariant_of-self : goal.invariant_of-self
invariant_of-self c =
    let list = c.args.self.now in
    let t = c.args.numbers in
    let kept = c.if-not-bounded.ensures.0 refl in
    record {
      grid_range = list.grid_range;
      lane_range = list.lane_range;
      works = each_pushed WorkFits t list.table c.push.result c.push.new.self c.push.ensures list.works kept.0;
      ranges = each_pushed (InRanges list.grid) t list.table c.push.result c.push.new.self c.push.ensures list.ranges kept.1;
      on_grid = each_pushed (OnGrid list.grid) t list.table c.push.result c.push.new.self c.push.ensures list.on_grid c.if-self-numbers-ne0.false;
    }
