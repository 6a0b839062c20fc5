use Rattle.uring_driver.specs.Op.{ops_in}
use Rattle.op_driver.proofs.Returned.{uring_back, uring_others}
use Rattle.op_driver.proofs.uring.IoUringDriverOpDriver.poll_op.Goals as goal

pub returns-clause-request : goal.returns-clause-request
returns-clause-request g c =
    uring_back g.B.IoBufMut.buffer (ops_in c.args.self.now) (ops_in c.poll_op.new.self) c.args.op c.poll_op.result c.requires
    c.poll_op.ensures.tokens c.poll_op.ensures.request c.poll_op.ensures.requests

pub returns-clause-others : goal.returns-clause-others
returns-clause-others g c =
    uring_others (ops_in c.args.self.now) (ops_in c.poll_op.new.self) c.args.op c.poll_op.result c.poll_op.ensures.tokens
    c.poll_op.ensures.requests
