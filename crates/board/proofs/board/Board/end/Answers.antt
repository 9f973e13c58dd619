-- No bit refuses; every lane is served, and the clock rises.
use Rattle.std.proofs.Common.{not, ap, ◌∙◌}
use Rattle.board.specs.declared.call.Answer.TheVariants as answer
use Rattle.board.specs.declared.fault.BoardFault.TheVariants.{SlotShut}
use Rattle.board.proofs.Refusals.{passed}
use Rattle.board.proofs.Service.{closed_bits, ended}
use Rattle.board.proofs.board.Board.end.Goals as goal

pub returns : goal.returns
returns c =
    let b = c.args.self.now in
    let finished = c.args.finished in
    let served = c.serve_lanes-closed.ensures in (
      passed (SlotShut b.clock) _ (ap not c.if-not-self.false) ∙ c.in_ok-all_served.ensures,
      ap answer.Ended (closed_bits b finished c.serve_lanes-closed.result c.serve_lanes-closed.new.self served),
      ended b finished c.serve_lanes-closed.result c.serve_lanes-closed.new.self served,
    )
