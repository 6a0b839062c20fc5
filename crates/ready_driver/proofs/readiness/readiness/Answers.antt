use Rattle.ready_driver.proofs.Runs.{driver-follows, poll-pending, poll-canceled}
use Rattle.ready_driver.proofs.readiness.readiness.Goals as goal

pub returns-clause-follows : goal.returns-clause-follows
returns-clause-follows c = driver-follows

pub returns-clause-pending : goal.returns-clause-pending
returns-clause-pending c = poll-pending

pub returns-clause-canceled : goal.returns-clause-canceled
returns-clause-canceled c = poll-canceled
