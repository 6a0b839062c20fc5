use Rattle.machine.specs.Ledger.{empty}
use Rattle.live_run.proofs.live.run_live.Goals as goal

pub returns : goal.returns
returns g c = c.run_pieces.ensures (empty c.args.capacity) c.in-Ok.ensures
