use Rattle.std.proofs.Common.{refl, sym, ◌∙◌, ap, subst, length, arith}
use Rattle.ring_core.specs.Ring.{RingView}
use Rattle.uring_driver.specs.Holding.{knows}
use Rattle.uring_driver.specs.Released.{Adopts, HasCloseRoom}
use Rattle.uring_driver.specs.State.{State}
use Rattle.uring_driver.specs.Submitted.{SameOps, IsSameRing}
use Rattle.uring_driver.specs.Submissions.{with_spare}
use Rattle.uring_driver.specs.Uring.{ring_in}
use Rattle.uring_driver.proofs.Closings.{unknown}
use Rattle.uring_driver.proofs.Giving.{adopted, same-forgotten, kept-without, gives, stands-forgotten}
use Rattle.uring_driver.proofs.uring.memory.IoUringDriver+MemRing+B.give.Goals as goal

pub forget-requires : goal.forget-requires
forget-requires g c =
    adopted c.args.self.now.holding c.self-2.inside.handles c.handles-h.result
    (subst (λ x. Adopts c.args.self.now.holding c.handles-h.result x.holding) (sym c.self-2.view_is) c.in_ok-fd.ensures.handles)

pub invariant_of-self-in-Err : goal.invariant_of-self-in-Err
invariant_of-self-in-Err g c =
    let mid = c.self-2.inside.handles in
    let h = c.handles-h.result in
    let adopts = subst (λ x. Adopts c.args.self.now.holding h x.holding) (sym c.self-2.view_is) c.in_ok-fd.ensures.handles in
    let same = ap (λ p. p.room) c.in-Err.ensures.err in
    let kept = kept-without c.self-2.inside.ring.room c.give.new.self.room c.self-2.inside.ops.slots.values c.self-2.inside.ops.given mid
    c.forget.new.self h (c.self-2.invariant.0, c.self-2.invariant.1) (adopted c.args.self.now.holding mid h adopts)
    c.forget.ensures (omega (arith, same)) in
    (kept.0, kept.1, c.self-2.invariant.2)

pub returns-in-Ok-clause-answers : goal.returns-in-Ok-clause-answers
returns-in-Ok-clause-answers g c =
    let d : State RingView g.row.B.Denot = c.args.self.now in
    let mid : State RingView g.row.B.Denot = record {
      ring = c.self-2.inside.ring;
      slots = c.self-2.inside.ops.slots;
      given = c.self-2.inside.ops.given;
      holding = c.self-2.inside.handles;
      members = c.self-2.inside.members;
    } in
    let h = c.handles-h.result in
    let number = c.handles-h.ensures ∙ ap (λ (x : State RingView g.row.B.Denot). length (ring_in x).world) c.self.view_is in
    let unknown_one = ap (knows d.holding) number ∙ c.requires.fresh in
    let adopts = subst (λ x. Adopts d.holding h x.holding) (sym c.self-2.view_is) c.in_ok-fd.ensures.handles in
    let same = subst (λ x. SameOps d x × IsSameRing (λ r. r) d x) (sym c.self-2.view_is) c.in_ok-fd.ensures.rest in
    let room = subst (λ x. HasCloseRoom x) (sym c.self-2.view_is) c.in_ok-fd.ensures.room in
    λ L stands. rw c.in_ok-fd.ensures.fd (gives g.B.IoBufMut.buffer d mid (record mid { ring = c.give.new.self }) h unknown_one adopts
    same room refl refl refl c.args.kind L stands number c.requires.counter c.in-Ok.ensures.ok refl)

pub returns-in-Err-clause-err : goal.returns-in-Err-clause-err
returns-in-Err-clause-err g c =
    let d : State RingView g.row.B.Denot = c.args.self.now in
    let h = c.handles-h.result in
    let number = c.handles-h.ensures ∙ ap (λ (x : State RingView g.row.B.Denot). length (ring_in x).world) c.self.view_is in
    let none = (unknown d.holding h (ap (knows d.holding) number ∙ c.requires.fresh)).0 in
    let adopts = subst (λ x. Adopts d.holding h x.holding) (sym c.self-2.view_is) c.in_ok-fd.ensures.handles in
    let same = subst (λ x. SameOps d x × IsSameRing (λ r. r) d x) (sym c.self-2.view_is) c.in_ok-fd.ensures.rest in
    let ring = c.in-Err.ensures.err in (
      record {
        ring = ap (λ p. p.ring) ring ∙ same.1.ring ∙ ap (λ p. with_spare (ring_in d) p.ring.spare) (sym ring);
        due = ap (λ p. p.due) ring ∙ same.1.due;
      },
      same-forgotten d.holding c.self-2.inside.handles h adopts c.forget.new.self none c.forget.ensures,
    )

pub returns-in-Err-clause-stands : goal.returns-in-Err-clause-stands
returns-in-Err-clause-stands g c =
    let d : State RingView g.row.B.Denot = c.args.self.now in
    let mid : State RingView g.row.B.Denot = record {
      ring = c.self-2.inside.ring;
      slots = c.self-2.inside.ops.slots;
      given = c.self-2.inside.ops.given;
      holding = c.self-2.inside.handles;
      members = c.self-2.inside.members;
    } in
    let h = c.handles-h.result in
    let number = c.handles-h.ensures ∙ ap (λ (x : State RingView g.row.B.Denot). length (ring_in x).world) c.self.view_is in
    let unknown_one = ap (knows d.holding) number ∙ c.requires.fresh in
    let adopts = subst (λ x. Adopts d.holding h x.holding) (sym c.self-2.view_is) c.in_ok-fd.ensures.handles in
    let same = subst (λ x. SameOps d x × IsSameRing (λ r. r) d x) (sym c.self-2.view_is) c.in_ok-fd.ensures.rest in
    let room = subst (λ x. HasCloseRoom x) (sym c.self-2.view_is) c.in_ok-fd.ensures.room in
    λ L stands. stands-forgotten g.B.IoBufMut.buffer d mid (record mid { ring = c.give.new.self; holding = c.forget.new.self }) h
    unknown_one adopts same room refl refl refl L stands c.in-Err.ensures.err c.forget.ensures
