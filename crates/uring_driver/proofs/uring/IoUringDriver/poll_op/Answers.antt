use Rattle.std.proofs.Common.{refl, sym, ap, subst, inl, inr, ◌∙◌, arith}
use Rattle.std.specs.Prelude.{IfSome, ◌<◌}
use Rattle.handle_core.specs.Table.{holders_at}
use Rattle.machine.specs.Request.{named, listed}
use Rattle.uring_driver.specs.Holding.{places}
use Rattle.uring_driver.specs.Making.{handed_if}
use Rattle.uring_driver.specs.PollOp.{handed_by}
use Rattle.driver_core.proofs.Placing.{in-slots-kept}
use Rattle.driver_core.proofs.SlotTokens.{held-slot, poll-keeps}
use Rattle.uring_driver.proofs.Answering.{leaves-group, left-in-slots}
use Rattle.uring_driver.specs.Op.{Holds}
use Rattle.uring_driver.specs.State.{State, IsSound, AreHolding}
use Rattle.uring_driver.proofs.Means.{by_parts}
use Rattle.uring_driver.proofs.Leaving.{polled-holding, ready-some, ready-may, ready-places, ready-room, ready-freed, ready-parts}
use Rattle.uring_driver.proofs.Polling.{poll-waits, poll-takes, pending-unreaped}
use Rattle.driver_core.specs.declared.op.PollOp.TheVariants.{Pending as Waits, Ready as Takes}
use Rattle.uring_driver.proofs.Sound.{sound-polled}
use Rattle.uring_driver.proofs.uring.IoUringDriver.poll_op.Goals as goal

pub invariant_of-self : goal.invariant_of-self
invariant_of-self g c =
    let d : State g.row.R.Denot g.row.B.Denot =
    by_parts c.self.inside.ring c.self.inside.ops c.self.inside.handles c.self.inside.members in
    let holds : Holds d c.args.op = subst (λ x. Holds x c.args.op) (sym c.self.view_is) c.requires in (
      sound-polled d.ring.room d.ring.room (places d.holding) (places d.holding) c.self.inside.ops c.poll.new.self c.args.op c.poll.result
          c.self.invariant.0 c.poll.ensures.tokens (omega arith),
      subst (λ n. AreHolding d.holding c.poll.new.self.slots.values n) (sym c.poll.ensures.given)
          (polled-holding d.holding d.slots.values c.poll.new.self.slots.values d.given c.args.op c.self.invariant.1
          (held-slot d.slots.values c.args.op holds) c.args.task c.in-Pending.ensures.polls),
      in-slots-kept c.self.inside.members d.slots.values c.poll.new.self.slots.values
          (poll-keeps d.slots.values c.args.op holds c.args.task c.poll.new.self.slots.values c.in-Pending.ensures.polls)
          c.self.invariant.2,
    )

pub hand_over-requires : goal.hand_over-requires
hand_over-requires g c =
    let d : State g.row.R.Denot g.row.B.Denot =
    by_parts c.self.inside.ring c.self.inside.ops c.self.inside.handles c.self.inside.members in
    let holds : Holds d c.args.op = subst (λ x. Holds x c.args.op) (sym c.self.view_is) c.requires in
    subst (λ m. IfSome m (λ h. 0 < (holders_at d.holding.table h).operations)) (sym c.made.ensures)
    (ready-some d c.args.op holds c.self.invariant.0 c.self.invariant.1 c.args.task c.poll.new.self.slots.values c.in-Ready.done
    c.in-Ready.ensures.polls)

pub let_go-requires-clause-held : goal.let_go-requires-clause-held
let_go-requires-clause-held g c =
    let d : State g.row.R.Denot g.row.B.Denot =
    by_parts c.self.inside.ring c.self.inside.ops c.self.inside.handles c.self.inside.members in
    let holds : Holds d c.args.op = subst (λ x. Holds x c.args.op) (sym c.self.view_is) c.requires in
    ready-may d c.args.op holds c.self.invariant.0 c.self.invariant.1 c.args.task c.poll.new.self.slots.values c.in-Ready.done
    c.in-Ready.ensures.polls c.hand_over.new.handles (c.hand_over.ensures ∙ ap (handed_if c.self.inside.handles) c.made.ensures)
    (listed c.names.result) c.names.ensures

pub let_go-requires-clause-room : goal.let_go-requires-clause-room
let_go-requires-clause-room g c =
    let d : State g.row.R.Denot g.row.B.Denot =
    by_parts c.self.inside.ring c.self.inside.ops c.self.inside.handles c.self.inside.members in
    let holds : Holds d c.args.op = subst (λ x. Holds x c.args.op) (sym c.self.view_is) c.requires in
    ready-room d c.args.op holds c.self.invariant.0 c.self.invariant.1 c.args.task c.poll.new.self.slots.values c.in-Ready.done
    c.in-Ready.ensures.polls c.hand_over.new.handles (c.hand_over.ensures ∙ ap (handed_if c.self.inside.handles) c.made.ensures)
    (listed c.names.result) c.names.ensures

pub invariant_of-self-in-Ready : goal.invariant_of-self-in-Ready
invariant_of-self-in-Ready g c =
    let d : State g.row.R.Denot g.row.B.Denot =
    by_parts c.self.inside.ring c.self.inside.ops c.self.inside.handles c.self.inside.members in
    let holds : Holds d c.args.op = subst (λ x. Holds x c.args.op) (sym c.self.view_is) c.requires in
    let kept = ready-freed d c.args.op holds c.self.invariant.0 c.self.invariant.1 c.args.task c.poll.new.self.slots.values c.in-Ready.done
    c.in-Ready.ensures.polls c.hand_over.new.handles (c.hand_over.ensures ∙ ap (handed_if c.self.inside.handles) c.made.ensures)
    (listed c.names.result) c.names.ensures g.R.Ring.view g.R.Ring.tells g.R.Ring.steady c.let_go.new.ring c.let_go.ensures.posts in
    let both : IsSound c.let_go.new.ring.room c.poll.new.self.slots.values (places c.let_go.new.handles)
    × AreHolding c.let_go.new.handles c.poll.new.self.slots.values c.poll.new.self.given =
    rw (c.let_go.ensures.handles) (rw (c.poll.ensures.given) kept) in (
      both.0,
      both.1,
      left-in-slots c.self.inside.members c.leave.new.self c.self.inside.ops c.poll.new.self c.args.op
          c.number-number.result c.number-number.ensures c.leave.ensures.left c.in-Ready.ensures.tokens c.self.invariant.2,
    )

pub returns-in-Pending-clause-answers : goal.returns-in-Pending-clause-answers
returns-in-Pending-clause-answers g c =
    let d : State g.row.R.Denot g.row.B.Denot =
    by_parts c.self.inside.ring c.self.inside.ops c.self.inside.handles c.self.inside.members in
    let holds : Holds d c.args.op = subst (λ x. Holds x c.args.op) (sym c.self.view_is) c.requires in
    rw (← c.self.view_is) (λ exact L stands. poll-waits g.R.Ring.view g.B.IoBufMut.buffer d _ c.args.op c.args.task holds L stands
    c.poll.ensures.given refl refl refl c.in-Pending.ensures.polls)

pub returns-in-Pending-clause-pending : goal.returns-in-Pending-clause-pending
returns-in-Pending-clause-pending g c =
    let d : State g.row.R.Denot g.row.B.Denot =
    by_parts c.self.inside.ring c.self.inside.ops c.self.inside.handles c.self.inside.members in
    let new : State g.row.R.Denot g.row.B.Denot = record d { slots = c.poll.new.self.slots; given = c.poll.new.self.given } in
    let holds : Holds d c.args.op = subst (λ x. Holds x c.args.op) (sym c.self.view_is) c.requires in
    rw (← c.self.view_is) (λ L stands. pending-unreaped g.R.Ring.view g.B.IoBufMut.buffer d new c.args.op c.args.task holds L stands
    c.poll.ensures.given (Waits c.in-Pending.op) c.in-Pending.ensures.polls)

pub returns-in-Ready-clause-answers : goal.returns-in-Ready-clause-answers
returns-in-Ready-clause-answers g c =
    let d : State g.row.R.Denot g.row.B.Denot =
    by_parts c.self.inside.ring c.self.inside.ops c.self.inside.handles c.self.inside.members in
    let new : State g.row.R.Denot g.row.B.Denot =
    by_parts c.let_go.new.ring c.poll.new.self c.let_go.new.handles c.leave.new.self in
    let holds : Holds d c.args.op = subst (λ x. Holds x c.args.op) (sym c.self.view_is) c.requires in
    let parts = ready-parts d c.args.op holds c.self.invariant.0 c.self.invariant.1 c.args.task c.poll.new.self.slots.values c.in-Ready.done
    c.in-Ready.ensures.polls c.hand_over.new.handles (c.hand_over.ensures ∙ ap (handed_if c.self.inside.handles) c.made.ensures)
    (listed c.names.result) c.names.ensures g.R.Ring.view g.R.Ring.tells g.R.Ring.steady c.let_go.new.ring c.let_go.ensures.posts new refl
    c.let_go.ensures.handles c.let_go.ensures.below in
    let as_many = ready-places d c.args.op holds c.self.invariant.0 c.self.invariant.1 c.args.task c.poll.new.self.slots.values
    c.in-Ready.done c.in-Ready.ensures.polls (handed_by d.holding c.in-Ready.done) refl (named c.in-Ready.done.request) refl in
    rw (← c.self.view_is) (λ exact L stands. elim exact [
      | inl steady ↦ poll-takes g.R.Ring.view g.B.IoBufMut.buffer d new c.args.op c.args.task holds L stands c.poll.ensures.given
          g.R.Ring.tells g.R.Ring.steady steady
          (leaves-group d new c.args.op c.in-Ready.ensures.tokens c.leave.ensures.placed c.number-number.result c.number-number.ensures
          c.leave.ensures.left) c.in-Ready.done c.in-Ready.ensures.polls
          parts as_many
      | inr waits ↦ absurd waits
    ])

pub returns-in-Ready-clause-pending : goal.returns-in-Ready-clause-pending
returns-in-Ready-clause-pending g c =
    let d : State g.row.R.Denot g.row.B.Denot =
    by_parts c.self.inside.ring c.self.inside.ops c.self.inside.handles c.self.inside.members in
    let new : State g.row.R.Denot g.row.B.Denot =
    by_parts c.let_go.new.ring c.poll.new.self c.let_go.new.handles c.leave.new.self in
    let holds : Holds d c.args.op = subst (λ x. Holds x c.args.op) (sym c.self.view_is) c.requires in
    rw (← c.self.view_is) (λ L stands. pending-unreaped g.R.Ring.view g.B.IoBufMut.buffer d new c.args.op c.args.task holds L stands
    c.poll.ensures.given (Takes c.in-Ready.done) c.in-Ready.ensures.polls)
