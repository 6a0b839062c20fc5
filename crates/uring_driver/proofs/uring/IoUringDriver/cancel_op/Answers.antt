use Rattle.std.proofs.Common.{arith, refl, subst, sym}
use Rattle.uring_driver.specs.Op.{Holds}
use Rattle.uring_driver.specs.Holding.{places}
use Rattle.uring_driver.specs.State.{State}
use Rattle.uring_driver.proofs.Means.{by_parts}
use Rattle.uring_driver.specs.Submissions.{Posts}
use Rattle.uring_driver.proofs.Entering.{on-err}
use Rattle.uring_driver.proofs.Drops.{cancel-asks}
use Rattle.uring_driver.proofs.Sound.{sound-live, sound-shrinks}
use Rattle.uring_driver.proofs.Starting.{stands-same}
use Rattle.uring_driver.proofs.uring.IoUringDriver.cancel_op.Goals as goal

pub returns-clause-answers : goal.returns-clause-answers
returns-clause-answers g c =
    let d : State g.row.R.Denot g.row.B.Denot =
    by_parts c.self.inside.ring c.self.inside.ops c.self.inside.handles c.self.inside.members in
    let holds : Holds d c.args.op.now = subst (λ x. Holds x c.args.op.now) (sym c.self.view_is) c.requires in
    let posts = subst (λ e. Posts g.R.Ring.view g.R.Ring.tells g.R.Ring.steady c.make_spare.new.self c.post.new.self e) c.cancel.ensures
    c.post.ensures.posts in
    let count = c.in-Some.ensures in
    let ok = c.in_ok-make_spare.ensures.ok in
    let handles = c.places.ensures in
    rw (← c.self.view_is) (λ always L stands. cancel-asks g.R.Ring.view g.B.IoBufMut.buffer d
    (record d { ring = c.make_spare.new.self }) _ c.args.op.now c.key.result c.number.result L stands holds c.key.ensures c.number.ensures
    c.make_spare.ensures.view c.make_spare.ensures.due c.make_spare.ensures.more refl refl refl refl refl g.R.Ring.tells
    g.R.Ring.steady always
    (omega (arith, count, ok, handles)) posts)

pub returns-in_err-make_spare-clause-err : goal.returns-in_err-make_spare-clause-err
returns-in_err-make_spare-clause-err g c =
    let d : State g.row.R.Denot g.row.B.Denot =
    by_parts c.self.inside.ring c.self.inside.ops c.self.inside.handles c.self.inside.members in
    rw (← c.self.view_is) (on-err c.from_residual.result (λ L stands.
    stands-same g.R.Ring.view g.B.IoBufMut.buffer d (record d { ring = c.make_spare.new.self }) L _ c.make_spare.ensures.view
    c.make_spare.ensures.due c.make_spare.ensures.more refl refl (record { table = refl; closing = refl; makers = refl }) refl stands))

pub invariant_of-self-2 : goal.invariant_of-self-2
invariant_of-self-2 g c =
    let count = c.in-Some.ensures in
    let ok = c.in_ok-make_spare.ensures.ok in
    let handles = c.places.ensures in
    let room = c.post.ensures.posts.room (omega (arith, count, ok)) in (
      sound-live c.post.new.self.room c.self.inside.ops.slots.values (places c.self.inside.handles)
          (omega (arith, count, ok, room, handles)),
      c.self.invariant.1,
      c.self.invariant.2,
    )

pub invariant_of-self : goal.invariant_of-self
invariant_of-self g c = (
  sound-shrinks c.self.inside.ring.room c.make_spare.new.self.room c.self.inside.ops.slots.values c.self.inside.ops.slots.values
      (places c.self.inside.handles) (places c.self.inside.handles) c.self.invariant.0
      (let more = c.make_spare.ensures.more in omega (arith, more)) (λ key number h. h),
  c.self.invariant.1,
  c.self.invariant.2,
)
