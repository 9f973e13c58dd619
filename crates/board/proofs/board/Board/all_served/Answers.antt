-- The first bit that is set at a lane with no job.
use Rattle.std.proofs.Common.{not, ◌&&◌, sym, refl, ap, ◌∙◌, rules}
use Rattle.std.proofs.lemmas.Iterator.{YieldsList-from_range}
use Rattle.std.proofs.lemmas.Iterator.Adapters.{option_map_id}
use Rattle.std.proofs.lemmas.Iterator.Search.{find_from_yields_List}
use borrow.Author.Tests.{tests}
use Rattle.board.specs.PlainBoard.{bit, busy, count_from}
use Rattle.board.specs.View.{view}
use Rattle.board.proofs.Refusals.{fault_at, first_not_served}
use Rattle.board.proofs.board.Board.all_served.Goals as goal

pub returns-in-Some : goal.returns-in-Some
returns-in-Some c =
    let b = view c.args.self.now in
    let found = find_from_yields_List (λ k. bit c.args.finished k && not (busy b k)) _ _ _ c.find.ensures.ran (YieldsList-from_range 0 8 8 (cc) refl) (λ x b q k. search (rules, tests)) in
    first_not_served b c.args.finished (count_from 0 8)
    ∙ ap fault_at (sym found ∙ (option_map_id c.find.result ∙ c.in-Some.is))

pub returns-in-None : goal.returns-in-None
returns-in-None c =
    let b = view c.args.self.now in
    let found = find_from_yields_List (λ k. bit c.args.finished k && not (busy b k)) _ _ _ c.find.ensures.ran (YieldsList-from_range 0 8 8 (cc) refl) (λ x b q k. search (rules, tests)) in
    first_not_served b c.args.finished (count_from 0 8)
    ∙ ap fault_at (sym found ∙ (option_map_id c.find.result ∙ c.in-None.is))
