use Rattle.std.proofs.Common.{◌∙◌, ap}
use Rattle.driver_core.specs.Groups.{is_canceled}
use Rattle.uring_driver.proofs.Groups.{canceled-marked}
use Rattle.uring_driver.proofs.uring.IoUringDriver.canceled.Goals as goal

pub returns-clause-answers : goal.returns-clause-answers
returns-clause-answers g c = λ L stands. c.canceled.ensures.mark
    ∙ ap (λ x. is_canceled x.members c.args.g) c.self.view_is
    ∙ canceled-marked g.R.Ring.view g.B.IoBufMut.buffer c.args.self.now L stands c.args.g c.requires
