-- The bare number is 0 for a plan, and else that of the fault.
use Rattle.installer.specs.Installing.Installed.{placed, refused}
use Rattle.installer.proofs.lanes_place.Goals as goal

pub returns-in-Ok : goal.returns-in-Ok
returns-in-Ok c = placed c.in-Ok.ensures

pub returns-in-Err : goal.returns-in-Err
returns-in-Err c =
    let answer = c.in-Err.ensures in
    rw (c.number.ensures, answer.1) (refused c.in-Err.fault answer.0)
