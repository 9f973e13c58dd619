use Rattle.std.proofs.Common.{◌++◌, sym, ap, ◌∙◌, subst}
use Rattle.lanes.specs.Listing.{Listing, refusal_line}
use Rattle.lanes.specs.Listing.Listing.{refused}
use Rattle.tasks.specs.Codes.{number}
use Rattle.lanes.proofs.listing.listing.Goals as goal

pub returns-in-Err : goal.returns-in-Err
returns-in-Err c =
    let fault = c.in-Err.fault in
    let shown =
    c.in_ok-refusal.ensures
    ∙ ap (λ t. t ++ refusal_line c.number.result c.place.result) c.new-text.ensures.items
    ∙ ap (λ n. refusal_line n c.place.result) c.number.ensures
    ∙ ap (λ p. refusal_line (number fault) p) c.place.ensures in
    subst (Listing c.args.sheet.now) (sym shown) (refused c.in-Err.ensures.0)
