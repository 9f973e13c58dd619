use Rattle.std.proofs.Common.{rules}
use Rattle.script.proofs.Firsts.{first_call, found_end, found_serving, found_waiting}
use Rattle.script.proofs.calls.call.Goals as goal

pub returns : goal.returns
returns c =
    first_call c.args.line.now c.map.result c.or_else.result c.or_else-2.result c.or_else-3.result (search rules) (search rules)
    (search rules) (search (rules, found_end)) (search (rules, found_serving)) (search (rules, found_waiting))
