-- Each turn fills one entry.
use Rattle.std.proofs.Common.{get_or, Some, None, ap, arith}
use Rattle.board.specs.View.{view}
use Rattle.board.specs.declared.call.Answer.{Answer}
use Rattle.board.specs.declared.call.Call.{Call}
use Rattle.board.specs.declared.call.Call.TheVariants.{Post}
use Rattle.board.specs.declared.call.Entry.{Entry}
use Rattle.board.proofs.Filling.{all_filled, one_filled}
use Rattle.board.proofs.perform.answer_all.Goals as goal

-- An entry with this call and this answer.
abbrev answered : Call → Answer → Entry
answered call said = record { call = call; answer = Some said }

pub loop-entry-preserved : goal.loop-entry-preserved
loop-entry-preserved c =
    one_filled (view c.args.board.now) c.args.entries.now c.loop-entry.entry-index (view c.loop-entry.board) c.loop-entry.entries c.loop-entry.invariant
    (record { call = Post 0; answer = None }) (omega arith) (view c.answer.new.self) c.answer.ensures.after _
    (ap (answered (get_or c.loop-entry.entries c.loop-entry.entry-index (record { call = Post 0; answer = None })).call) c.answer.ensures.value)

pub returns : goal.returns
returns c =
    let all =
    all_filled (view c.args.board.now) c.args.entries.now c.loop-entry.entry-index (view c.loop-entry.board) c.loop-entry.entries c.loop-entry.invariant
    (omega arith) in
    record { filled = all.0; after = all.1 }
