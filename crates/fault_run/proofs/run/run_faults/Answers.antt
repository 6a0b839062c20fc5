use Rattle.std.proofs.Common.{inr}
use Rattle.fault_run.proofs.run.run_faults.Goals as goal

pub returns-in-Ok : goal.returns-in-Ok
returns-in-Ok g c = inr (record { session = c.in-Ok.session; fresh = c.in-Ok.ensures; ends = c.run_session.ensures })
