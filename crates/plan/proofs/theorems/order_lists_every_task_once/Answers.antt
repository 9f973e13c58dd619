-- The order lists every task once.
use Rattle.plan.proofs.Order.{order_of_tasks}
use Rattle.plan.proofs.theorems.order_lists_every_task_once.Goals as goal

pub returns : goal.returns
returns c = order_of_tasks
