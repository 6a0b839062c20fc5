use Rattle.std.proofs.Common.{refl, sym, subst}
use Rattle.machine.specs.Request.{listed}
use Rattle.machine.specs.Ledger.{with_made}
use Rattle.uring_driver.specs.Holding.{places}
use Rattle.uring_driver.proofs.Leaving.{drop-names}
use Rattle.driver_core.specs.Slot.{DropsAt}
use Rattle.driver_core.proofs.SlotTokens.{held-slot}
use Rattle.uring_driver.specs.Op.{Holds}
use Rattle.uring_driver.specs.State.{State, IsSound, AreHolding}
use Rattle.uring_driver.proofs.Means.{by_parts}
use Rattle.uring_driver.specs.Submissions.{Posts}
use Rattle.uring_driver.proofs.Answering.{leaves-group, left-in-slots}
use Rattle.uring_driver.proofs.Drops.{cancel-moves, drops-left, drop-leaves, drop-frees, sound-left}
use Rattle.uring_driver.proofs.Leaving.{ignored-holding, gone-may, gone-room, gone-freed, gone-parts}
use Rattle.uring_driver.proofs.Sound.{sound-room}
use Rattle.uring_driver.proofs.uring.IoUringDriver.drop_op.Goals as goal

pub let_all_go-requires-clause-held : goal.let_all_go-requires-clause-held
let_all_go-requires-clause-held g c =
    let d : State g.row.R.Denot g.row.B.Denot =
    by_parts c.self.inside.ring c.self.inside.ops c.self.inside.handles c.self.inside.members in
    let holds : Holds d c.args.op = subst (λ x. Holds x c.args.op) (sym c.self.view_is) c.requires in
    gone-may d c.args.op holds c.self.invariant.0 c.self.invariant.1 (with_made c.made_at-made.result (listed c.names_at-names.result))
    (drop-names d c.args.op.key c.key-key.result (listed c.names_at-names.result) c.made_at-made.result c.key-key.ensures
    c.names_at-names.ensures c.made_at-made.ensures)

pub let_all_go-requires-clause-room : goal.let_all_go-requires-clause-room
let_all_go-requires-clause-room g c =
    let d : State g.row.R.Denot g.row.B.Denot =
    by_parts c.self.inside.ring c.self.inside.ops c.self.inside.handles c.self.inside.members in
    let holds : Holds d c.args.op = subst (λ x. Holds x c.args.op) (sym c.self.view_is) c.requires in
    gone-room d c.args.op holds c.self.invariant.0 c.self.invariant.1 (with_made c.made_at-made.result (listed c.names_at-names.result))
    (drop-names d c.args.op.key c.key-key.result (listed c.names_at-names.result) c.made_at-made.result c.key-key.ensures
    c.names_at-names.ensures c.made_at-made.ensures)

pub invariant_of-self : goal.invariant_of-self
invariant_of-self g c =
    let d : State g.row.R.Denot g.row.B.Denot =
    by_parts c.self.inside.ring c.self.inside.ops c.self.inside.handles c.self.inside.members in
    let holds : Holds d c.args.op = subst (λ x. Holds x c.args.op) (sym c.self.view_is) c.requires in
    let drops = subst (λ a. DropsAt d.slots.values c.args.op.key c.drop_op.new.self.slots.values a) c.in-Free.is c.drop_op.ensures.drops in
    let kept = gone-freed d c.args.op holds c.self.invariant.0 c.self.invariant.1
    (with_made c.made_at-made.result (listed c.names_at-names.result))
    (drop-names d c.args.op.key c.key-key.result (listed c.names_at-names.result) c.made_at-made.result c.key-key.ensures
    c.names_at-names.ensures c.made_at-made.ensures)
    g.R.Ring.view g.R.Ring.tells g.R.Ring.steady c.let_all_go.new.ring c.let_all_go.ensures.posts c.drop_op.new.self.slots.values drops in
    let both : IsSound c.let_all_go.new.ring.room c.drop_op.new.self.slots.values (places c.let_all_go.new.handles)
    × AreHolding c.let_all_go.new.handles c.drop_op.new.self.slots.values c.drop_op.new.self.given =
    rw (c.let_all_go.ensures.handles) (rw (c.drop_op.ensures.given) kept) in (
      both.0,
      both.1,
      left-in-slots c.self.inside.members c.leave.new.self c.self.inside.ops c.drop_op.new.self c.args.op
          c.number.result c.number.ensures c.leave.ensures.left c.drop_op.ensures.tokens c.self.invariant.2,
    )

pub post-requires-clause-room : goal.post-requires-clause-room
post-requires-clause-room g c =
    let d : State g.row.R.Denot g.row.B.Denot =
    by_parts c.self.inside.ring c.self.inside.ops c.self.inside.handles c.self.inside.members in
    let holds : Holds d c.args.op = subst (λ x. Holds x c.args.op) (sym c.self.view_is) c.requires in
    sound-room d.ring.room d.slots.values (places d.holding) c.args.op.key c.args.op.number c.self.invariant.0 holds

pub invariant_of-self-in-Left : goal.invariant_of-self-in-Left
invariant_of-self-in-Left g c =
    let d : State g.row.R.Denot g.row.B.Denot =
    by_parts c.self.inside.ring c.self.inside.ops c.self.inside.handles c.self.inside.members in
    let new : State g.row.R.Denot g.row.B.Denot =
    by_parts c.post.new.self c.drop_op.new.self c.self.inside.handles c.leave.new.self in
    let holds : Holds d c.args.op = subst (λ x. Holds x c.args.op) (sym c.self.view_is) c.requires in
    let has = held-slot d.slots.values c.args.op holds in
    let drops = subst (λ a. DropsAt d.slots.values c.args.op.key c.drop_op.new.self.slots.values a) c.in-Left.is c.drop_op.ensures.drops in
    let some = sound-room d.ring.room d.slots.values (places d.holding) c.args.op.key c.args.op.number c.self.invariant.0 holds in (
      sound-left d new c.args.op c.drop_op.new.self.slots.values holds refl c.self.invariant.0 drops c.post.new.self.room
          (c.post.ensures.posts.room some),
      subst (λ n. AreHolding d.holding c.drop_op.new.self.slots.values n) (sym c.drop_op.ensures.given)
          (ignored-holding d.holding d.slots.values c.drop_op.new.self.slots.values d.given c.args.op c.self.invariant.1 has drops),
      left-in-slots c.self.inside.members c.leave.new.self c.self.inside.ops c.drop_op.new.self c.args.op c.number.result
          c.number.ensures c.leave.ensures.left c.drop_op.ensures.tokens c.self.invariant.2,
    )

pub returns-in-Free-clause-answers : goal.returns-in-Free-clause-answers
returns-in-Free-clause-answers g c =
    let d : State g.row.R.Denot g.row.B.Denot =
    by_parts c.self.inside.ring c.self.inside.ops c.self.inside.handles c.self.inside.members in
    let new : State g.row.R.Denot g.row.B.Denot =
    by_parts c.let_all_go.new.ring c.drop_op.new.self c.let_all_go.new.handles c.leave.new.self in
    let holds : Holds d c.args.op = subst (λ x. Holds x c.args.op) (sym c.self.view_is) c.requires in
    let drops = subst (λ a. DropsAt d.slots.values c.args.op.key c.drop_op.new.self.slots.values a) c.in-Free.is c.drop_op.ensures.drops in
    let names = drop-names d c.args.op.key c.key-key.result (listed c.names_at-names.result) c.made_at-made.result c.key-key.ensures
    c.names_at-names.ensures c.made_at-made.ensures in
    let parts = gone-parts d c.args.op holds c.self.invariant.0 c.self.invariant.1
    (with_made c.made_at-made.result (listed c.names_at-names.result)) names g.R.Ring.view g.R.Ring.tells g.R.Ring.steady
    c.let_all_go.new.ring c.let_all_go.ensures.posts new refl c.let_all_go.ensures.handles c.let_all_go.ensures.below in
    rw (← c.self.view_is) (λ always L stands. drop-frees d new c.args.op c.drop_op.new.self.slots.values holds refl g.R.Ring.view
    g.B.IoBufMut.buffer g.R.Ring.tells g.R.Ring.steady always L stands c.drop_op.ensures.given
    (leaves-group d new c.args.op c.drop_op.ensures.tokens c.leave.ensures.placed c.number.result c.number.ensures
    c.leave.ensures.left) (with_made c.made_at-made.result (listed c.names_at-names.result)) drops names parts)

pub returns-in-Left-clause-answers : goal.returns-in-Left-clause-answers
returns-in-Left-clause-answers g c =
    let d : State g.row.R.Denot g.row.B.Denot =
    by_parts c.self.inside.ring c.self.inside.ops c.self.inside.handles c.self.inside.members in
    let new : State g.row.R.Denot g.row.B.Denot =
    by_parts c.post.new.self c.drop_op.new.self c.self.inside.handles c.leave.new.self in
    let holds : Holds d c.args.op = subst (λ x. Holds x c.args.op) (sym c.self.view_is) c.requires in
    let drops = subst (λ a. DropsAt d.slots.values c.args.op.key c.drop_op.new.self.slots.values a) c.in-Left.is c.drop_op.ensures.drops in
    let posts =
    subst (λ e. Posts g.R.Ring.view g.R.Ring.tells g.R.Ring.steady d.ring c.post.new.self e) c.cancel.ensures c.post.ensures.posts in
    rw (← c.self.view_is) (λ always L stands. drop-leaves d new c.args.op c.drop_op.new.self.slots.values holds refl g.R.Ring.view
    g.B.IoBufMut.buffer g.R.Ring.tells g.R.Ring.steady always L stands c.drop_op.ensures.given
    (leaves-group d new c.args.op c.drop_op.ensures.tokens c.leave.ensures.placed c.number.result c.number.ensures
    c.leave.ensures.left) c.key-key.result c.number-number.result
    c.key-key.ensures c.number-number.ensures drops refl posts)

pub returns-in-Left-clause-drops : goal.returns-in-Left-clause-drops
returns-in-Left-clause-drops g c =
    let d : State g.row.R.Denot g.row.B.Denot =
    by_parts c.self.inside.ring c.self.inside.ops c.self.inside.handles c.self.inside.members in
    let new : State g.row.R.Denot g.row.B.Denot =
    by_parts c.post.new.self c.drop_op.new.self c.self.inside.handles c.leave.new.self in
    let holds : Holds d c.args.op = subst (λ x. Holds x c.args.op) (sym c.self.view_is) c.requires in
    let drops = subst (λ a. DropsAt d.slots.values c.args.op.key c.drop_op.new.self.slots.values a) c.in-Left.is c.drop_op.ensures.drops in
    let some = sound-room d.ring.room d.slots.values (places d.holding) c.args.op.key c.args.op.number c.self.invariant.0 holds in
    let posts =
    subst (λ e. Posts g.R.Ring.view g.R.Ring.tells g.R.Ring.steady d.ring c.post.new.self e) c.cancel.ensures c.post.ensures.posts in
    let moves = cancel-moves g.R.Ring.view g.R.Ring.tells g.R.Ring.steady d.ring c.post.new.self c.args.op c.key-key.result
    c.number-number.result c.key-key.ensures c.number-number.ensures some posts in
    rw (← c.self.view_is)
    (drops-left d new c.args.op c.drop_op.new.self.slots.values holds refl g.R.Ring.view g.R.Ring.tells drops refl moves)
