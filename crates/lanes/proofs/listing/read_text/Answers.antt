use Rattle.std.proofs.Common.{vec_items}
use Rattle.lanes.proofs.Texts.{whole_text}
use Rattle.std.proofs.lemmas.Result.{on_ok_weaker}
use Rattle.lanes.proofs.listing.read_text.Goals as goal

pub returns : goal.returns
returns c =
    on_ok_weaker c.block-2.result
    (whole_text c.args.sheet.now c.args.list.now (vec_items c.args.text.now) (vec_items c.summary.new.text) (vec_items c.block.new.text) (vec_items c.block-2.new.text) c.len.result c.lanes.result c.grid.result c.over-linear.result.grid c.len.ensures c.lanes.ensures c.grid.ensures c.over-linear.ensures c.in_ok-summary.ensures c.in_ok-block.ensures)
    c.block-2.ensures
