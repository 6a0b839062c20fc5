use Rattle.std.proofs.Common.{IsTrue, IfSome, ◌<◌, ◌+◌, ◌≤◌, refl, sym, ap, subst, ◌∙◌, arith, length, length-append}
use Rattle.std.specs.FinMap as map
use Rattle.op_slots.specs.declared.slab.TheConstants.{MAX_LIVE}
use Rattle.ring_core.specs.Entry.{call_entry}
use Rattle.ring_core.specs.Ring.{pushed}
use Rattle.machine.specs.Request.{named, makes}
use Rattle.machine.specs.Lists.{one_if}
use Rattle.driver_core.specs.declared.operations.TheConstants.{MOST_GIVEN}
use Rattle.driver_core.specs.Holds.{CanJoin}
use Rattle.driver_core.specs.Slot.{number_at}
use Rattle.driver_core.specs.Operations.{new_slot}
use Rattle.uring_driver.specs.Holding.{Holding, places, IsSameHolding}
use Rattle.uring_driver.specs.Making.{KeepsHolding, op_joined}
use Rattle.uring_driver.specs.State.{State, AreHolding}
use Rattle.uring_driver.proofs.Means.{by_parts}
use Rattle.uring_driver.specs.Submissions.{with_spare, pending_ring}
use Rattle.uring_driver.specs.Uring.{holds_all, group_count}
use Rattle.uring_driver.proofs.Entering.{fits-split}
use Rattle.uring_driver.proofs.Holdings.{holding-reserved}
use Rattle.uring_driver.proofs.Joining.{keeps-same, places-same, places-joined, may-join, holding-submitted}
use Rattle.uring_driver.proofs.Sound.{sound-more, sound-keeps}
use Rattle.driver_core.specs.Groups.{AreInSlots}
use Rattle.driver_core.proofs.Placing.{in-slots-joined, joined-at}
use Rattle.uring_driver.proofs.Submits.{stands-submits, stands-canceled, why-refused, put-over, adds-over}
use Rattle.uring_driver.proofs.uring.IoUringDriver.submit_entry.Goals as goal

pub invariant_of-self : goal.invariant_of-self
invariant_of-self g c =
    let d : State g.row.R.Denot g.row.B.Denot =
    by_parts c.self.inside.ring c.self.inside.ops c.self.inside.handles c.self.inside.members in
    let mid : Holding = c.enter_group.new.handles in
    let same : IsSameHolding d.holding mid = keeps-same c.makes-maker.result d.holding mid c.in-Err.ensures.handles in
    let more = c.in-Err.ensures.more in
    let held = places-same same in (
      sound-keeps d.ring.room c.enter_group.new.ring.room d.slots.values c.enter_group.new.ops.slots.values (places d.holding) (places mid)
          c.self.invariant.0 (omega (arith, more, held)) (λ key. ap (λ m. number_at m key) c.in-Err.ensures.slots),
      subst (λ n. AreHolding mid c.enter_group.new.ops.slots.values n) (sym c.in-Err.ensures.given)
          (subst (λ m. AreHolding mid m d.given) (sym c.in-Err.ensures.slots)
          (holding-reserved d.holding mid d.slots.values d.given same c.self.invariant.1)),
      subst (λ x. AreInSlots x c.enter_group.new.ops.slots.values) (sym c.in-Err.ensures.same)
          (subst (λ m. AreInSlots d.members m) (sym c.in-Err.ensures.slots) c.self.invariant.2),
    )

pub join-requires-clause-names : goal.join-requires-clause-names
join-requires-clause-names g c =
    let d : State g.row.R.Denot g.row.B.Denot =
    by_parts c.self.inside.ring c.self.inside.ops c.self.inside.handles c.self.inside.members in
    let user = subst (λ x. IsTrue (holds_all x (named c.args.request))) (sym c.self.view_is) c.requires.held in
    let mid : Holding = c.enter_group.new.handles in
    subst (CanJoin mid.table) (sym c.names.ensures)
    (may-join d c.args.request mid user c.self.invariant.1 (subst (λ x. x.given < MOST_GIVEN) (sym c.self.view_is) c.requires.counter)
    (keeps-same c.makes-maker.result d.holding mid c.in-Ok.ensures.handles))

pub returns-in-Err-clause-err : goal.returns-in-Err-clause-err
returns-in-Err-clause-err g c =
    let d : State g.row.R.Denot g.row.B.Denot =
    by_parts c.self.inside.ring c.self.inside.ops c.self.inside.handles c.self.inside.members in
    let new : State g.row.R.Denot g.row.B.Denot =
    by_parts c.enter_group.new.ring c.enter_group.new.ops c.enter_group.new.handles c.enter_group.new.members in
    rw (← c.self.view_is) (
    record {
      back = refl;
      same = record {
        slots = c.in-Err.ensures.slots;
        given = c.in-Err.ensures.given;
        holding = subst (λ b. KeepsHolding b d.holding new.holding) c.makes-maker.ensures c.in-Err.ensures.handles;
        members = c.in-Err.ensures.same;
      };
      why =
          why-refused g.R.Ring.view g.B.IoBufMut.buffer d new g.R.Ring.steady c.in-Err.why c.makes-maker.result c.in-Err.ensures.handles
          c.in-Err.ensures.full
          (ap (λ n. record new { given = n }) c.in-Err.ensures.given
          ∙ ap (λ m. record d { ring = new.ring; slots = new.slots; holding = new.holding; members = m }) c.in-Err.ensures.same)
          c.in-Err.ensures.slots
          c.in-Err.ensures.err;
    })

pub invariant_of-self-2 : goal.invariant_of-self-2
invariant_of-self-2 g c =
    let d : State g.row.R.Denot g.row.B.Denot =
    by_parts c.self.inside.ring c.self.inside.ops c.self.inside.handles c.self.inside.members in
    let puts = put-over c.self.inside.ops c.enter_group.new.ops c.submit-op.new.self c.args.request c.submit-op.result c.in-Ok.ensures.slots
    c.in-Ok.ensures.given c.submit-op.ensures.submits in
    let user = subst (λ x. IsTrue (holds_all x (named c.args.request))) (sym c.self.view_is) c.requires.held in
    let mid : Holding = c.enter_group.new.handles in
    let held : IsSameHolding d.holding mid = keeps-same c.makes-maker.result d.holding mid c.in-Ok.ensures.handles in
    let can = may-join d c.args.request mid user c.self.invariant.1
    (subst (λ x. x.given < MOST_GIVEN) (sym c.self.view_is) c.requires.counter) held in
    let joined = c.join.ensures ∙ ap (λ hs. op_joined mid hs c.makes-maker.result) c.names.ensures
    ∙ ap (op_joined mid (named c.args.request)) c.makes-maker.ensures in
    let adds = adds-over c.self.inside.ops c.enter_group.new.ops c.submit-op.new.self c.submit-op.result c.in-Ok.ensures.slots
    c.in-Ok.ensures.given c.submit-op.ensures.token in
    let members = joined-at d.members c.enter_group.new.members c.set_key.new.self c.args.under d.given c.submit-op.result
    c.number-number.result c.key-key.result puts.number c.number-number.ensures c.key-key.ensures c.in-Ok.ensures.apart
    c.in-Ok.ensures.joins c.set_key.ensures in
    let room = c.join-2.ensures.room in
    let spare = c.in-Ok.ensures.ok.spare in
    let count = ap map.len c.in-Ok.ensures.slots in
    let maker = ap one_if c.makes-maker.ensures in
    let now = ap places joined in
    let more = places-joined mid (named c.args.request) (makes c.args.request) can in
    rw (puts.given) (
      sound-more c.join-2.new.self.room d.slots.values c.submit-op.new.self.slots.values (places c.join.new.self) c.submit-op.result.key
          (new_slot c.self.inside.ops c.args.request) puts.free puts.slots (omega (arith, room, spare, count, maker, now, more)),
      subst (λ x. AreHolding x c.submit-op.new.self.slots.values (d.given + 1)) (sym joined)
          (holding-submitted d.holding mid d.slots.values c.submit-op.new.self.slots.values d.given c.submit-op.result.key d.given
          c.args.request c.self.invariant.1 held puts.free puts.slots),
      subst (λ x. AreInSlots x c.submit-op.new.self.slots.values) (sym members)
          (in-slots-joined d.members c.self.inside.ops c.submit-op.new.self c.submit-op.result c.args.under adds c.self.invariant.2),
    )

pub returns-clause-answers : goal.returns-clause-answers
returns-clause-answers g c =
    let d : State g.row.R.Denot g.row.B.Denot =
    by_parts c.self.inside.ring c.self.inside.ops c.self.inside.handles c.self.inside.members in
    let puts = put-over c.self.inside.ops c.enter_group.new.ops c.submit-op.new.self c.args.request c.submit-op.result c.in-Ok.ensures.slots
    c.in-Ok.ensures.given c.submit-op.ensures.submits in
    let user = subst (λ x. IsTrue (holds_all x (named c.args.request))) (sym c.self.view_is) c.requires.held in
    let held : Holding = c.enter_group.new.handles in
    let same : IsSameHolding d.holding held = keeps-same c.makes-maker.result d.holding held c.in-Ok.ensures.handles in
    let can = may-join d c.args.request held user c.self.invariant.1
    (subst (λ x. x.given < MOST_GIVEN) (sym c.self.view_is) c.requires.counter) same in
    let adds = adds-over c.self.inside.ops c.enter_group.new.ops c.submit-op.new.self c.submit-op.result c.in-Ok.ensures.slots
    c.in-Ok.ensures.given c.submit-op.ensures.token in
    let members = joined-at d.members c.enter_group.new.members c.set_key.new.self c.args.under d.given c.submit-op.result
    c.number-number.result c.key-key.result puts.number c.number-number.ensures c.key-key.ensures c.in-Ok.ensures.apart
    c.in-Ok.ensures.joins c.set_key.ensures in
    let within = subst (λ x. IfSome c.args.under (λ n. n < group_count x)) (sym c.self.view_is) c.requires.known in
    let open_group = sym c.is_under_canceled.ensures ∙ c.if-is_under_canceled.false in
    rw (← c.self.view_is) (
    λ tells L stands handle named_by.
    let view = g.R.Ring.view in
    let op = c.submit-op.result in
    let made = c.enter_group.new.ring in
    let mid = pending_ring view made in
    let ok = c.in-Ok.ensures.ok in
    let spare = (view c.join-2.new.self.ring).spare in
    let roomy : length mid.queue < mid.capacity = (let l = length-append (view made.ring).queue made.due in
    let z = ap length ok.none_due in let q = ok.queue in omega (arith, l, z, q)) in
    let more : map.len d.slots.values + (places held + one_if (makes c.args.request)) + 1 ≤ c.join-2.new.self.room =
    (let a = ok.spare in let b = c.join-2.ensures.room in let s = ap map.len c.in-Ok.ensures.slots in
    let h = ap one_if c.makes-maker.ensures in omega (arith, a, b, s, h)) in
    stands-submits view g.B.IoBufMut.buffer d _ L c.args.request c.args.under handle c.args.linked op.key (view made.ring).spare spare mid
    held stands user
    (subst (λ m. map.len m < MAX_LIVE) c.in-Ok.ensures.slots ok.few) puts.free puts.below puts.slots
    (c.in-Ok.ensures.told tells (fits-split (view d.ring.ring).queue d.ring.due (view d.ring.ring).capacity stands.fits))
    roomy
    (c.join-2.ensures.told tells ∙ ap (λ e. with_spare (pushed mid e) spare) c.call.ensures
    ∙ ap (λ k. with_spare (pushed mid (call_entry k c.number-number.result c.args.linked c.call-call.result)) spare) c.key-key.ensures
    ∙ ap (λ n. with_spare (pushed mid (call_entry op.key n c.args.linked c.call-call.result)) spare) (c.number-number.ensures ∙ puts.number)
    ∙ ap (λ x. with_spare (pushed mid (call_entry op.key d.given c.args.linked x)) spare) c.call-call.ensures)
    same more can puts.given (c.join.ensures ∙ ap (λ hs. op_joined held hs c.makes-maker.result) c.names.ensures
    ∙ ap (op_joined held (named c.args.request)) c.makes-maker.ensures)
    named_by within open_group op puts.number adds members)

pub returns-then-is_under_canceled-clause-answers : goal.returns-then-is_under_canceled-clause-answers
returns-then-is_under_canceled-clause-answers g c =
    let d : State g.row.R.Denot g.row.B.Denot =
    by_parts c.self.inside.ring c.self.inside.ops c.self.inside.handles c.self.inside.members in
    let user = subst (λ x. IsTrue (holds_all x (named c.args.request))) (sym c.self.view_is) c.requires.held in
    let within = subst (λ x. IfSome c.args.under (λ n. n < group_count x)) (sym c.self.view_is) c.requires.known in
    rw (← c.self.view_is) (
    λ tells L stands handle named_by. stands-canceled g.R.Ring.view g.B.IoBufMut.buffer d L c.args.request c.args.under handle c.args.linked
    stands user named_by within (sym c.is_under_canceled.ensures ∙ c.if-is_under_canceled.true))

pub returns-clause-joins : goal.returns-clause-joins
returns-clause-joins g c =
    let d : State g.row.R.Denot g.row.B.Denot =
    by_parts c.self.inside.ring c.self.inside.ops c.self.inside.handles c.self.inside.members in
    let puts = put-over c.self.inside.ops c.enter_group.new.ops c.submit-op.new.self c.args.request c.submit-op.result
    c.in-Ok.ensures.slots c.in-Ok.ensures.given c.submit-op.ensures.submits in
    let mid : Holding = c.enter_group.new.handles in
    rw (← c.self.view_is) (
      record {
        mid = mid;
        ready = subst (λ b. KeepsHolding b d.holding mid) c.makes-maker.ensures c.in-Ok.ensures.handles;
        joined = c.join.ensures ∙ ap (λ hs. op_joined mid hs c.makes-maker.result) c.names.ensures
            ∙ ap (op_joined mid (named c.args.request)) c.makes-maker.ensures;
      },
      joined-at d.members c.enter_group.new.members c.set_key.new.self c.args.under d.given c.submit-op.result c.number-number.result
          c.key-key.result puts.number c.number-number.ensures c.key-key.ensures c.in-Ok.ensures.apart c.in-Ok.ensures.joins
          c.set_key.ensures,
    )
