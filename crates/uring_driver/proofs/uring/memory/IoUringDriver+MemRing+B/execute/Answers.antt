use Rattle.std.proofs.Common.{arith, false, refl, sym, subst, Ok}
use Rattle.ring_core.specs.Ring.{RingView}
use Rattle.ring_core.specs.Bodies.{body_comes}
use Rattle.machine.specs.Surroundings.{around}
use Rattle.driver_core.specs.Groups.{AreInSlots}
use Rattle.driver_core.specs.Operations.{offered, Stores}
use Rattle.driver_core.proofs.Placing.{in-slots-kept}
use Rattle.uring_driver.specs.Holding.{places}
use Rattle.uring_driver.specs.State.{State, IsSound, AreHolding}
use Rattle.uring_driver.specs.Executed.{ExecutesFor}
use Rattle.uring_driver.proofs.Sound.{sound-keeps}
use Rattle.uring_driver.proofs.Executing.{executed-numbers}
use Rattle.uring_driver.proofs.Executions.{stands-executes}
use Rattle.uring_driver.proofs.Refusing.{refused-keeps, refuses-executes}
use Rattle.uring_driver.proofs.Storing.{executed-at, executed-keeps, executed-holding}
use Rattle.uring_driver.proofs.uring.memory.IoUringDriver+MemRing+B.execute.Goals as goal

pub invariant_of-self : goal.invariant_of-self
invariant_of-self g c =
    let stores = Stores g.B.IoBufMut.buffer (around g.B.IoBufMut.under g.B.IoBufMut.beside) in
    let kept = refused-keeps (offered g.B.IoBufMut.buffer) stores (λ n. false) c.self.inside.ring.ring c.execute.new.self.ring
    c.args.place c.args.told c.self.inside.ops c.execute.new.payloads c.in-Err.why c.in-Err.ensures.executes in
    let room = c.in-Err.ensures.room in
    let holding = c.self.inside.handles in (
      subst (λ n. IsSound n c.execute.new.payloads.slots.values (places holding)) (sym room)
          (subst (λ x. IsSound c.self.inside.ring.room x.slots.values (places holding)) (sym kept) c.self.invariant.0),
      subst (λ x. AreHolding holding x.slots.values x.given) (sym kept) c.self.invariant.1,
      subst (λ x. AreInSlots c.self.inside.members x.slots.values) (sym kept) c.self.invariant.2,
    )

pub returns-in-Err-clause-answers : goal.returns-in-Err-clause-answers
returns-in-Err-clause-answers g c =
    let d : State RingView g.row.B.Denot = record {
      ring = c.self.inside.ring;
      slots = c.self.inside.ops.slots;
      given = c.self.inside.ops.given;
      holding = c.self.inside.handles;
      members = c.self.inside.members;
    } in
    rw (← c.self.view_is) (
    λ L stands. refuses-executes g.B.IoBufMut.buffer d L c.args.place c.args.told stands (offered g.B.IoBufMut.buffer)
    (Stores g.B.IoBufMut.buffer (around g.B.IoBufMut.under g.B.IoBufMut.beside)) c.execute.new.self.ring c.self.inside.ops
    c.execute.new.payloads (λ n. false) c.in-Err.why c.in-Err.ensures.executes)

pub invariant_of-self-2 : goal.invariant_of-self-2
invariant_of-self-2 g c =
    let executed = executed-at g.B.IoBufMut.buffer (around g.B.IoBufMut.under g.B.IoBufMut.beside) c.in-Ok.ensures.executes in
    let comes = body_comes executed.finishes.flight.entry.body c.args.told in
    let kept = executed-numbers g.B.IoBufMut.buffer c.self.inside.ops c.execute.new.payloads c.in-Ok.completion.word executed.got comes
    executed.stored in
    let room = c.in-Ok.ensures.room in (
      sound-keeps c.self.inside.ring.room c.execute.new.self.room c.self.inside.ops.slots.values c.execute.new.payloads.slots.values
          (places c.self.inside.handles) (places c.self.inside.handles) c.self.invariant.0 (omega (arith, room)) kept.0,
      executed-holding g.B.IoBufMut.buffer c.self.inside.handles c.self.inside.ops c.execute.new.payloads c.in-Ok.completion.word
          executed.got comes executed.stored c.self.invariant.1,
      in-slots-kept c.self.inside.members c.self.inside.ops.slots.values c.execute.new.payloads.slots.values kept.0 c.self.invariant.2,
    )

pub returns-clause-answers : goal.returns-clause-answers
returns-clause-answers g c =
    let d : State RingView g.row.B.Denot = record {
      ring = c.self.inside.ring;
      slots = c.self.inside.ops.slots;
      given = c.self.inside.ops.given;
      holding = c.self.inside.handles;
      members = c.self.inside.members;
    } in
    let new : State RingView g.row.B.Denot = record {
      ring = c.execute.new.self;
      slots = c.execute.new.payloads.slots;
      given = c.execute.new.payloads.given;
      holding = c.self.inside.handles;
      members = c.self.inside.members;
    } in
    rw (← c.self.view_is) (
    λ L stands. subst (λ x. ExecutesFor g.B.IoBufMut.buffer L c.args.place c.args.told new (Ok x)) (sym c.executed.ensures)
    (stands-executes g.B.IoBufMut.buffer d L c.args.place c.args.told stands new c.in-Ok.completion
    (executed-at g.B.IoBufMut.buffer (around g.B.IoBufMut.under g.B.IoBufMut.beside) c.in-Ok.ensures.executes)
    c.in-Ok.ensures.due c.in-Ok.ensures.room refl refl c.in-Ok.ensures.few))

pub returns-clause-executes : goal.returns-clause-executes
returns-clause-executes g c = rw (← c.self.view_is) (record {
  completion = c.in-Ok.completion;
  named = c.executed.ensures;
  executed = executed-at g.B.IoBufMut.buffer (around g.B.IoBufMut.under g.B.IoBufMut.beside) c.in-Ok.ensures.executes;
})

pub returns-clause-surroundings : goal.returns-clause-surroundings
returns-clause-surroundings g c =
    rw (← c.self.view_is) (executed-keeps g.B.IoBufMut.buffer (around g.B.IoBufMut.under g.B.IoBufMut.beside) c.in-Ok.ensures.executes)
