use Rattle.std.proofs.Common.{◌++◌, length, vec_items, sym, ap, ◌∙◌, subst}
use Rattle.lanes.proofs.Blocks.{block_placed, block_unplaced, filled_in_place}
use Rattle.lanes.specs.Listing.{refusal_line}
use Rattle.plan.specs.Codes.{number}
use Rattle.plan.specs.Placing.{Places}
use Rattle.tasks.specs.Filling.{tasks_of}
use Rattle.std.proofs.lemmas.Result.{on_ok_weaker}
use Rattle.lanes.proofs.listing.block.Goals as goal

pub returns-in-Err : goal.returns-in-Err
returns-in-Err g c =
    let begun = vec_items c.extend_from_slice.new.self in
    on_ok_weaker c.refusal.result
    (λ is. block_unplaced (g.F.FitTest.yes c.args.test.now) c.args.sheet.now c.args.list.now c.args.heading.now (vec_items c.args.text.now)
    begun (vec_items c.refusal.new.text)
    c.in_ok-extend_from_slice.ensures.items
    c.as_mut_slice.result.now c.in-Err.fault (ap length c.as_mut_slice.ensures.value ∙ sym c.in_ok-plan.plan.ok.0 ∙ c.in_ok-plan.ensures.len ∙ c.len.ensures) c.in-Err.ensures.0
    (is
    ∙ ap (λ n. begun ++ refusal_line n c.place-in-Err.result) c.number.ensures
    ∙ ap (λ p. begun ++ refusal_line (number c.in-Err.fault) p) c.place-in-Err.ensures))
    c.refusal.ensures

pub returns : goal.returns
returns g c =
    let yes_to = g.F.FitTest.yes c.args.test.now in
    let list = c.args.list.now in
    let plan = c.in_ok-plan.plan in
    let filled = c.place.new.plan in
    let back = c.as_slice.ensures.value ∙ filled_in_place (vec_items plan) filled plan.len plan.ok.0 (c.place.auto.plan ∙ ap length c.as_mut_slice.ensures.value) in
    on_ok_weaker c.lines.result
    (block_placed yes_to c.args.sheet.now list c.args.heading.now (vec_items c.args.text.now)
    (vec_items c.extend_from_slice.new.self) (vec_items c.lines.new.text)
    c.in_ok-extend_from_slice.ensures.items
    c.as_slice.result.now (subst (Places yes_to list.lanes (tasks_of list)) (sym back) c.in_default.ensures.0))
    c.lines.ensures
