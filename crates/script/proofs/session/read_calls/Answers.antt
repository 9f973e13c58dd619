use mathlib.Core.List.{map-append}
use Rattle.std.proofs.Common.{◌+◌, vec_items, ap, ◌∙◌}
use Rattle.board.specs.Entries.{calls_of}
use Rattle.board.specs.declared.call.Entry.{Entry}
use Rattle.script.proofs.Sessions.{said-one_more, said_to_end, said_until}
use Rattle.words.specs.Lines.{lines_left}
use Rattle.script.proofs.session.read_calls.Goals as goal

pub returns-in_default : goal.returns-in_default
returns-in_default c = record {
  said = said_until (lines_left c.args.lines) (lines_left c.loop-line.line-iterator) (lines_left c.next.new.self) c.in-Some.line.now (calls_of (vec_items c.loop-line.entries)) c.in-Some.ensures.steps c.in_default.ensures c.loop-line.invariant.2;
  stop_is = ap (λ n. n + 5) (c.len.ensures ∙ c.loop-line.entries.ok.0);
}

pub loop-line-preserved : goal.loop-line-preserved
loop-line-preserved c = (
  tt,
  tt,
  said-one_more (lines_left c.args.lines) (lines_left c.loop-line.line-iterator) (lines_left c.next.new.self) c.in-Some.line.now (calls_of (vec_items c.loop-line.entries)) (calls_of (vec_items c.push.new.self)) c.in-Some-call.found c.in-Some.ensures.steps c.in-Some-call.ensures (ap calls_of c.in_ok-push.ensures.items ∙ map-append (λ (e : Entry). e.call) (vec_items c.loop-line.entries) _) c.loop-line.invariant.2,
)

pub returns : goal.returns
returns c = record {
  said = said_to_end (lines_left c.args.lines) (lines_left c.loop-line.line-iterator) (calls_of (vec_items c.loop-line.entries)) c.in-None.ensures.steps.0 c.loop-line.invariant.2;
  stop_is = tt;
}
