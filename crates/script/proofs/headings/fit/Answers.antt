use Rattle.std.proofs.Common.{rules}
use Rattle.script.proofs.Tests.{first_named}
use Rattle.script.proofs.headings.fit.Goals as goal

pub returns : goal.returns
returns c = first_named c.args.line.now c.fit_of.result c.or_else.result c.or_else-2.result c.fit_of.ensures (search rules) (search rules)
