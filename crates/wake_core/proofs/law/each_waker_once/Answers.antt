use Rattle.wake_core.proofs.StepLaws.{keeps_order, each_waker_once}
use Rattle.wake_core.proofs.law.each_waker_once.Goals as goal

pub returns-clause-once : goal.returns-clause-once
returns-clause-once c = each_waker_once

pub returns-clause-order : goal.returns-clause-order
returns-clause-order c = keeps_order
