use Rattle.std.proofs.Common.{refl}
use Rattle.machine.specs.Step.{step}
use Rattle.ready_driver.proofs.readiness.worked_runs.Goals as goal

pub returns-clause-one_wait : goal.returns-clause-one_wait
unfolding step
returns-clause-one_wait c = (refl, refl)

pub returns-clause-order_of_polls : goal.returns-clause-order_of_polls
unfolding step
returns-clause-order_of_polls c = (refl, refl)

pub returns-clause-drop_and_close : goal.returns-clause-drop_and_close
unfolding step
returns-clause-drop_and_close c = (refl, refl)

pub returns-clause-canceled_members : goal.returns-clause-canceled_members
unfolding step
returns-clause-canceled_members c = (refl, refl)

pub returns-clause-datagram_at_once : goal.returns-clause-datagram_at_once
unfolding step
returns-clause-datagram_at_once c = (refl, refl)

pub returns-clause-file_at_once : goal.returns-clause-file_at_once
unfolding step
returns-clause-file_at_once c = (refl, refl)

pub returns-clause-splices_at_once : goal.returns-clause-splices_at_once
unfolding step
returns-clause-splices_at_once c = (refl, refl)

pub returns-clause-made_at_once : goal.returns-clause-made_at_once
unfolding step
returns-clause-made_at_once c = (refl, refl)
