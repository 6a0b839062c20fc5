use Rattle.std.proofs.Common.{◌≡◌, ◌<◌, true, refl, sym, ◌∙◌, ap, subst, arith}
use Rattle.handle_core.specs.Table.{holders_at, without_user}
use Rattle.machine.specs.declared.world.TheConstants.{MOST_HANDLES}
use Rattle.ring_core.specs.Entry.{close_entry}
use Rattle.driver_core.specs.Holds.{is_nobody}
use Rattle.uring_driver.specs.Holding.{places, user_left}
use Rattle.uring_driver.specs.State.{State}
use Rattle.uring_driver.specs.Submissions.{Posts}
use Rattle.uring_driver.specs.Uring.{holds_handle}
use Rattle.uring_driver.proofs.Handling.{kept-fewer, len-still, len-unheld, room-held, not-last, releases-held, releases-last, close-moves}
use Rattle.uring_driver.proofs.uring.IoUringDriver.release.Goals as goal

pub post-requires-clause-room : goal.post-requires-clause-room
post-requires-clause-room g c =
    let held = subst (λ x. holds_handle x c.args.fd ≡ true) (sym c.self.view_is) c.requires in
    room-held c.self.inside.ring.room c.self.inside.ops.slots.values c.self.inside.handles c.args.fd c.self.invariant.0 held

pub returns-in-Last-clause-moves : goal.returns-in-Last-clause-moves
returns-in-Last-clause-moves g c =
    let holding = c.self.inside.handles in
    let held = subst (λ x. holds_handle x c.args.fd ≡ true) (sym c.self.view_is) c.requires in
    let none = ap (λ k. is_nobody (without_user (holders_at holding.table k))) (sym c.number-h.ensures)
    ∙ c.release.ensures.last.0 c.in-Last.is in
    let posts = subst (λ e. Posts g.R.Ring.view g.R.Ring.tells g.R.Ring.steady c.self.inside.ring c.post.new.self e)
    (c.close.ensures ∙ ap close_entry c.number-h.ensures) c.post.ensures.posts in
    rw (← c.self.view_is) (close-moves g.R.Ring.view g.R.Ring.tells g.R.Ring.steady c.self.inside.ring c.post.new.self c.args.fd
    (is_nobody (without_user (holders_at holding.table c.args.fd))) none
    (room-held c.self.inside.ring.room c.self.inside.ops.slots.values holding c.args.fd c.self.invariant.0 held) posts)

pub returns-in-Last-clause-answers : goal.returns-in-Last-clause-answers
returns-in-Last-clause-answers g c =
    let d : State g.row.R.Denot g.row.B.Denot = record {
      ring = c.self.inside.ring;
      slots = c.self.inside.ops.slots;
      given = c.self.inside.ops.given;
      holding = c.self.inside.handles;
      members = c.self.inside.members;
    } in
    let held = subst (λ x. holds_handle x c.args.fd ≡ true) (sym c.self.view_is) c.requires in
    let none = ap (λ k. is_nobody (without_user (holders_at d.holding.table k))) (sym c.number-h.ensures)
    ∙ c.release.ensures.last.0 c.in-Last.is in
    let posts = subst (λ e. Posts g.R.Ring.view g.R.Ring.tells g.R.Ring.steady d.ring c.post.new.self e)
    (c.close.ensures ∙ ap close_entry c.number-h.ensures) c.post.ensures.posts in
    rw (← c.self.view_is) (λ steady L stands. releases-last g.R.Ring.view g.B.IoBufMut.buffer d
    (record d { ring = c.post.new.self; holding = c.release.new.self }) L c.args.fd stands held refl refl refl
    (c.release.ensures.left ∙ ap (user_left d.holding) c.number-h.ensures) g.R.Ring.tells g.R.Ring.steady steady none
    (subst (λ k. k < MOST_HANDLES) c.number-h.ensures c.release.ensures.below)
    (room-held d.ring.room d.slots.values d.holding c.args.fd c.self.invariant.0 held) posts)

pub returns-in-Held-clause-answers : goal.returns-in-Held-clause-answers
returns-in-Held-clause-answers g c =
    let d : State g.row.R.Denot g.row.B.Denot = record {
      ring = c.self.inside.ring;
      slots = c.self.inside.ops.slots;
      given = c.self.inside.ops.given;
      holding = c.self.inside.handles;
      members = c.self.inside.members;
    } in
    let held = subst (λ x. holds_handle x c.args.fd ≡ true) (sym c.self.view_is) c.requires in
    let some = ap (λ k. is_nobody (without_user (holders_at d.holding.table k))) (sym c.number-h.ensures)
    ∙ not-last _ c.release.result c.in-Held.is c.release.ensures.last.1 in
    rw (← c.self.view_is) (λ steady L stands. releases-held g.R.Ring.view g.B.IoBufMut.buffer d
    (record d { holding = c.release.new.self }) L c.args.fd stands held refl refl refl
    (c.release.ensures.left ∙ ap (user_left d.holding) c.number-h.ensures) some refl)

pub invariant_of-self : goal.invariant_of-self
invariant_of-self g c =
    let holding = c.self.inside.handles in
    let h = c.number-h.result in
    let user = subst (λ k. holds_handle c.args.self.now k ≡ true) (sym c.number-h.ensures) c.requires in
    let held = subst (λ x. holds_handle x h ≡ true) (sym c.self.view_is) user in
    let some = not-last _ c.release.result c.in-Held.is c.release.ensures.last.1 in
    let kept = kept-fewer c.self.inside.ring.room c.self.inside.ops.slots.values c.self.inside.ops.given holding c.release.new.self h
    (c.self.invariant.0, c.self.invariant.1) c.release.ensures.left c.self.inside.ring.room
    (let a = len-still holding h held (without_user (holders_at holding.table h)) some in
    let b = ap places c.release.ensures.left in
    omega (arith, a, b)) in
    (kept.0, kept.1, c.self.invariant.2)

pub invariant_of-self-in-Last : goal.invariant_of-self-in-Last
invariant_of-self-in-Last g c =
    let holding = c.self.inside.handles in
    let room = c.self.inside.ring.room in
    let slots = c.self.inside.ops.slots.values in
    let h = c.number-h.result in
    let user = subst (λ k. holds_handle c.args.self.now k ≡ true) (sym c.number-h.ensures) c.requires in
    let held = subst (λ x. holds_handle x h ≡ true) (sym c.self.view_is) user in
    let less = c.post.ensures.posts.room (room-held room slots holding h c.self.invariant.0 held) in
    let kept = kept-fewer room slots c.self.inside.ops.given holding c.release.new.self h (c.self.invariant.0, c.self.invariant.1)
    c.release.ensures.left c.post.new.self.room
    (let a = len-unheld holding h held (without_user (holders_at holding.table h)) (c.release.ensures.last.0 c.in-Last.is) in
    let b = ap places c.release.ensures.left in
    omega (arith, a, b, less)) in
    (kept.0, kept.1, c.self.invariant.2)
