-- The linear test answers as the standard does.
use Rattle.std.proofs.Common.{Decides, rules}
use Rattle.fit.proofs.Worths.{linear_is_the_standard}
use Rattle.fit.specs.Tests.{LinearYes}
use Rattle.fit.proofs.linear.LinearFitTest.fits.Goals as goal
use Rattle.std.proofs.lemmas.Bool.Decides.{Decides-like}

pub returns-clause-standard : goal.returns-clause-standard
returns-clause-standard c = λ lawful.
    let answer : Decides c.is_some_and.result (LinearYes c.args.self.now.grid c.args.row.now c.args.asked) = search rules in
    let same = linear_is_the_standard c.args.self.now.grid c.args.row.now c.args.asked c.args.self.now.in_range lawful in
    Decides-like c.is_some_and.result same.0 same.1 answer
