use Rattle.std.proofs.Common.{◌<◌, ◌++◌, length, refl, sym, ◌∙◌, ap, subst, arith}
use Rattle.driver_core.specs.Groups.{AreInSlots}
use Rattle.uring_driver.specs.Groups.{cancels_of}
use Rattle.uring_driver.specs.Reaps.{PendingJoins}
use Rattle.uring_driver.specs.Holding.{places}
use Rattle.uring_driver.specs.State.{State}
use Rattle.uring_driver.specs.Submissions.{PostsEach, pending_ring}
use Rattle.uring_driver.specs.Uring.{group_count}
use Rattle.uring_driver.proofs.Groups.{cancels-all, few-cancels, keyed-before, posts-join, posts-room, unfailed}
use Rattle.uring_driver.proofs.Means.{by_parts}
use Rattle.uring_driver.proofs.Sound.{sound-live, sound-shrinks}
use Rattle.uring_driver.proofs.Starting.{stands-same}
use Rattle.uring_driver.proofs.uring.IoUringDriver.cancel.Goals as goal

pub invariant_of-self : goal.invariant_of-self
invariant_of-self g c = (
  sound-shrinks c.self.inside.ring.room c.make_spare.new.self.room c.self.inside.ops.slots.values c.self.inside.ops.slots.values
      (places c.self.inside.handles) (places c.self.inside.handles) c.self.invariant.0
      (let more = c.make_spare.ensures.more in omega (arith, more)) (λ key number h. h),
  c.self.invariant.1,
  c.self.invariant.2,
)

pub invariant_of-self-in-Err : goal.invariant_of-self-in-Err
invariant_of-self-in-Err g c = (
  sound-shrinks c.self.inside.ring.room c.make_spare.new.self.room c.self.inside.ops.slots.values c.self.inside.ops.slots.values
      (places c.self.inside.handles) (places c.self.inside.handles) c.self.invariant.0
      (let more = c.make_spare.ensures.more in omega (arith, more)) (λ key number h. h),
  c.self.invariant.1,
  subst (λ x. AreInSlots x c.self.inside.ops.slots.values) (sym c.in-Err.ensures.err) c.self.invariant.2,
)

pub invariant_of-self-2 : goal.invariant_of-self-2
invariant_of-self-2 g c =
    let numbers = c.as_slice.result.now in
    let spare = unfailed c.make_spare.result c.make_spare.ensures.ok (sym c.is_err.ensures.value ∙ c.if-is_err.false) in
    let room = c.in-Some.ensures in
    let handles = c.places.ensures in
    let size = c.size.ensures in
    let named = ap length (c.as_slice.ensures ∙ c.in-Ok.ensures.members) in
    let few = few-cancels c.cancel.new.self numbers in
    let left = posts-room g.R.Ring.view g.R.Ring.tells g.R.Ring.steady c.make_spare.new.self c.post_cancels.new.ring
    (cancels_of c.cancel.new.self numbers) (omega (arith, spare, room, size, named, few)) c.post_cancels.ensures.posts in (
      sound-live c.post_cancels.new.ring.room c.self.inside.ops.slots.values (places c.self.inside.handles)
          (omega (arith, spare, room, handles, size, named, few, left)),
      c.self.invariant.1,
      subst (λ x. AreInSlots x c.self.inside.ops.slots.values) (sym c.in-Ok.ensures.marked) c.self.invariant.2,
    )

pub returns-clause-answers : goal.returns-clause-answers
returns-clause-answers g c =
    let view = g.R.Ring.view in
    let d : State g.row.R.Denot g.row.B.Denot =
    by_parts c.self.inside.ring c.self.inside.ops c.self.inside.handles c.self.inside.members in
    let mid : State g.row.R.Denot g.row.B.Denot = record d { ring = c.make_spare.new.self } in
    let new : State g.row.R.Denot g.row.B.Denot =
    by_parts c.post_cancels.new.ring c.self.inside.ops c.self.inside.handles c.cancel.new.self in
    let numbers = c.in-Ok.canceling.1 in
    let same = c.as_slice.ensures in
    let within = subst (λ x. c.args.c < group_count x) (sym c.self.view_is) c.requires in
    let spare = unfailed c.make_spare.result c.make_spare.ensures.ok (sym c.is_err.ensures.value ∙ c.if-is_err.false) in
    let room = c.in-Some.ensures in
    let handles = c.places.ensures in
    let size = c.size.ensures in
    let named = ap length c.in-Ok.ensures.members in
    let few = few-cancels d.members numbers in
    let posts = subst (λ m. PostsEach view g.R.Ring.tells g.R.Ring.steady mid.ring new.ring (cancels_of m numbers))
    c.in-Ok.ensures.marked (subst (λ ns. PostsEach view g.R.Ring.tells g.R.Ring.steady mid.ring new.ring
    (cancels_of c.cancel.new.self ns)) same c.post_cancels.ensures.posts) in
    let left = posts-room view g.R.Ring.tells g.R.Ring.steady mid.ring new.ring (cancels_of d.members numbers)
    (omega (arith, spare, room, size, named, few)) posts in
    rw (← c.self.view_is) (
    λ always L stands. cancels-all view g.B.IoBufMut.buffer g.R.Ring.tells g.R.Ring.steady always mid new L c.args.c numbers
    (stands-same view g.B.IoBufMut.buffer d mid L _ c.make_spare.ensures.view c.make_spare.ensures.due c.make_spare.ensures.more refl
    refl (record { table = refl; closing = refl; makers = refl }) refl stands) within c.self.invariant.2
    (keyed-before d.members c.cancel.new.self c.args.c numbers c.in-Ok.ensures.marked c.in-Ok.ensures.keys) c.in-Ok.ensures.members
    (omega (arith, spare, room, size, named)) posts (omega (arith, spare, room, handles, size, named, few, left)) refl refl refl
    c.in-Ok.ensures.marked c.in-Ok.canceling.0 c.in-Ok.ensures.number)

pub returns-clause-moves : goal.returns-clause-moves
returns-clause-moves g c =
    let view = g.R.Ring.view in
    let d : State g.row.R.Denot g.row.B.Denot =
    by_parts c.self.inside.ring c.self.inside.ops c.self.inside.handles c.self.inside.members in
    let old = c.make_spare.new.self in
    let new = c.post_cancels.new.ring in
    let numbers = c.in-Ok.canceling.1 in
    let spare = unfailed c.make_spare.result c.make_spare.ensures.ok (sym c.is_err.ensures.value ∙ c.if-is_err.false) in
    let room = c.in-Some.ensures in
    let size = c.size.ensures in
    let named = ap length c.in-Ok.ensures.members in
    let few = few-cancels d.members numbers in
    let posts = subst (λ m. PostsEach view g.R.Ring.tells g.R.Ring.steady old new (cancels_of m numbers))
    c.in-Ok.ensures.marked (subst (λ ns. PostsEach view g.R.Ring.tells g.R.Ring.steady old new
    (cancels_of c.cancel.new.self ns)) c.as_slice.ensures c.post_cancels.ensures.posts) in
    rw (← c.self.view_is) (
    λ shows. subst (λ q. PendingJoins q (cancels_of d.members numbers) (pending_ring view new).queue)
    (ap (λ v. v.queue ++ old.due) c.make_spare.ensures.view ∙ ap (λ xs. (view d.ring.ring).queue ++ xs) c.make_spare.ensures.due)
    (posts-join view g.R.Ring.tells g.R.Ring.steady shows old new (cancels_of d.members numbers)
    (omega (arith, spare, room, size, named, few)) posts))
