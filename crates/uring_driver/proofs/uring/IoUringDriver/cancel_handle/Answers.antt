use Rattle.uring_driver.proofs.Groups.{handle-made}
use Rattle.uring_driver.proofs.uring.IoUringDriver.cancel_handle.Goals as goal

pub returns-clause-answers : goal.returns-clause-answers
returns-clause-answers g c = λ L stands. handle-made g.R.Ring.view g.B.IoBufMut.buffer c.args.self.now L stands c.args.c.now
