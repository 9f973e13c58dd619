-- The row's bounds, as the chain says them and as the question's record does.
use Rattle.std.proofs.Common.{rules}
use Rattle.std.proofs.lemmas.List.Elements.{recursion_from_All}
use Rattle.std.specs.List.{All}
use Rattle.tasks.specs.Task.{Bounded, widest_grid}
use Rattle.fit.proofs.askable.Question.new.Goals as goal

pub invariant_of-result : goal.invariant_of-result
invariant_of-result c =
    let every : All (Bounded widest_grid) c.args.row.now = search rules in
    record {
      askable = record { short = search rules; row_bounded = recursion_from_All (Bounded widest_grid) _ every; asked_bounded = search rules };
      row_bounded = every;
    }
