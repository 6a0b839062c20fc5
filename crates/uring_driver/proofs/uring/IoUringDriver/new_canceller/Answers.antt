use Rattle.uring_driver.specs.State.{State}
use Rattle.uring_driver.proofs.Groups.{canceller-made}
use Rattle.uring_driver.proofs.Means.{by_parts}
use Rattle.uring_driver.proofs.uring.IoUringDriver.new_canceller.Goals as goal

pub returns-clause-answers : goal.returns-clause-answers
returns-clause-answers g c =
    let d : State g.row.R.Denot g.row.B.Denot =
    by_parts c.self.inside.ring c.self.inside.ops c.self.inside.handles c.self.inside.members in
    rw (← c.self.view_is) (canceller-made g.R.Ring.view g.B.IoBufMut.buffer c.new_canceller.result d c.new_canceller.new.self
    c.new_canceller.ensures.number c.new_canceller.ensures.made)
