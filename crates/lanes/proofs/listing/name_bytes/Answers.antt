use Rattle.std.proofs.Common.{ap, ◌∙◌}
use Rattle.sheet.specs.Reading.{name_said}
use Rattle.lanes.proofs.Names.{name_or_none, name_there}
use Rattle.lanes.proofs.listing.name_bytes.Goals as goal

pub returns-in-Ok-Some : goal.returns-in-Ok-Some
returns-in-Ok-Some c =
    name_there c.args.sheet.now c.args.task c.name.result _ (ap name_or_none c.in-Ok-Some.is ∙ ap name_said c.in-Ok-Some.field-0-is) c.name.ensures

pub returns-in-Ok-None : goal.returns-in-Ok-None
returns-in-Ok-None c =
    name_there c.args.sheet.now c.args.task c.name.result _ (ap name_or_none c.in-Ok-None.is ∙ ap name_said c.in-Ok-None.field-0-is) c.name.ensures

pub returns-in-Err : goal.returns-in-Err
returns-in-Err c = name_there c.args.sheet.now c.args.task c.name.result _ (ap name_or_none c.in-Err.is) c.name.ensures
