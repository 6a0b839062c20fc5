use Rattle.rent_buf.specs.Rent.{buffer_of_rent}
use Rattle.machine.specs.declared.request.Told.TheVariants.{Count}
use Rattle.uring_driver.specs.Op.{ops_in}
use Rattle.op_driver.proofs.Executed.{executed_back}
use Rattle.net_stream.proofs.Executions.{executed_fits}
use Rattle.net_tests.proofs.tests.ring.execute.Goals as goal

-- src/tests/ring.rt:23:1
pub returns : goal.returns
returns c =
    let old = c.args.driver.now in
    let new = c.execute.new.self in
    let executed = c.execute.ensures in
    executed_fits (ops_in old) (ops_in new) c.args.conn.now executed.tokens executed.given
    (executed_back buffer_of_rent old new 0 (Count c.args.count) c.execute.result executed.executes executed.err) c.requires
