-- The sheet's list is read, there is room for its plan, and what place answers is the call's answer.
use Rattle.std.proofs.Common.{◌≡◌, ◌-◌, ◌≤◌, length, refl, arith}
use Rattle.installer.proofs.Answers.{answered, too_few}
use Rattle.tasks.specs.Filling.{tasks_of}
use Rattle.installer.proofs.install.Goals as goal

pub returns-then-plan-count : goal.returns-then-plan-count
returns-then-plan-count c =
    let read = c.in_ok-read.ensures in
    (too_few c.args.sheet.now c.args.plan.now c.read.new.self read.0 read.1 read.2 (length c.args.plan.now) refl (omega arith), refl)

pub returns : goal.returns
returns c =
    let read = c.in_ok-read.ensures in
    let list = c.read.new.self in
    let all : c.len-count.result - 0 ≡ length (tasks_of list) = omega arith in
    let room : c.len-count.result - 0 ≤ length c.args.plan.now = omega arith in
    answered c.args.sheet.now c.args.plan.now list read.0 read.1 read.2
    c.over.result.grid c.over.ensures
    (c.len-count.result - 0) all room c.place.new.plan c.place.result c.place.ensures
