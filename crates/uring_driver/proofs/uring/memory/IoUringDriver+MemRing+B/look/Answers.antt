use Rattle.uring_driver.proofs.Starting.{looks-if}
use Rattle.uring_driver.proofs.uring.memory.IoUringDriver+MemRing+B.look.Goals as goal
use Rattle.ring_core.specs.Ring.{RingView}
use Rattle.uring_driver.specs.State.{State}
use Rattle.std.proofs.Common.{IsTrue, sym, subst}
use Rattle.uring_driver.specs.Uring.{holds_handle}

pub returns-clause-answers : goal.returns-clause-answers
returns-clause-answers g c =
    let d : State RingView g.row.B.Denot = record {
      ring = c.self.inside.ring;
      slots = c.self.inside.ops.slots;
      given = c.self.inside.ops.given;
      holding = c.self.inside.handles;
      members = c.self.inside.members;
    } in
    let holds = subst (λ x. IsTrue (holds_handle x c.args.h)) (sym c.self.view_is) c.requires.held in
    rw (← c.self.view_is) (
    looks-if g.B.IoBufMut.buffer d c.args.h holds c.look.result c.look.ensures)
