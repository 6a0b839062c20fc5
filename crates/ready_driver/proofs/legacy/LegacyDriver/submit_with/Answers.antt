use Rattle.std.proofs.Common.{◌≡◌, ◌<◌, true, IfSome, refl, sym, ap, subst, ◌∙◌}
use Rattle.std.specs.FinMap.{get, insert}
use Rattle.machine.specs.Request.{named}
use Rattle.driver_core.specs.declared.operations.TheConstants.{MOST_GIVEN}
use Rattle.driver_core.specs.Groups.{AreInSlots}
use Rattle.driver_core.specs.Holds.{with_ops, CanJoin}
use Rattle.driver_core.specs.Operations.{new_slot}
use Rattle.driver_core.proofs.Placing.{in-slots-joined, joined-at}
use Rattle.driver_core.proofs.Requests.{request-added}
use Rattle.ready_driver.specs.LegacyCalls.{Unready}
use Rattle.ready_driver.specs.LegacyState.{LegacyState, holds_all, group_count}
use Rattle.ready_driver.specs.Named.{AreNaming}
use Rattle.ready_driver.specs.Polling.{SlotsStand, OpsStand}
use Rattle.ready_driver.specs.Registry.{Handling, MakesReady}
use Rattle.ready_driver.proofs.Driven.{by_parts}
use Rattle.ready_driver.proofs.Events.{stands-canceled, stands-submits}
use Rattle.ready_driver.proofs.Holding.{stands-unready, joins-handles}
use Rattle.ready_driver.proofs.Naming.{naming-join, naming-joined, all-known}
use Rattle.ready_driver.proofs.Showing.{shown-ready, shown-joined}
use Rattle.ready_driver.proofs.legacy.LegacyDriver.submit_with.Goals as goal

pub returns-then-is_under_canceled-clause-answers : goal.returns-then-is_under_canceled-clause-answers
returns-then-is_under_canceled-clause-answers g c =
    let d : LegacyState g.row.I.Denot g.row.B.Denot =
    by_parts c.self.inside.registry c.self.inside.ops c.self.inside.members c.self.inside.asked.items c.self.inside.untreated in
    let user = subst (λ (x : LegacyState g.row.I.Denot g.row.B.Denot). holds_all x.handling.table (named c.args.request) ≡ true)
    (sym c.self.view_is) c.requires.held in
    let within = subst (λ (x : LegacyState g.row.I.Denot g.row.B.Denot). IfSome c.args.under (λ n. n < group_count x)) (sym c.self.view_is)
    c.requires.known in
    rw (← c.self.view_is) (λ memory D stands handle is. stands-canceled g.I.NonBlock.view g.B.IoBufMut.buffer d D stands c.args.request
    c.args.under handle user within is (sym c.is_under_canceled.ensures ∙ c.if-is_under_canceled.true))

pub returns-in-Err-clause-stands : goal.returns-in-Err-clause-stands
returns-in-Err-clause-stands g c =
    let d : LegacyState g.row.I.Denot g.row.B.Denot =
    by_parts c.self.inside.registry c.self.inside.ops c.self.inside.members c.self.inside.asked.items c.self.inside.untreated in
    let user = subst (λ (x : LegacyState g.row.I.Denot g.row.B.Denot). holds_all x.handling.table (named c.args.request) ≡ true)
    (sym c.self.view_is) c.requires.held in
    let new : LegacyState g.row.I.Denot g.row.B.Denot =
    by_parts c.prepare.new.registry c.prepare.new.ops c.prepare.new.members c.self.inside.asked.items c.self.inside.untreated in
    let view = g.I.NonBlock.view in
    rw (← c.self.view_is) (λ memory D stands. stands-unready view g.B.IoBufMut.buffer g.I.NonBlock.tells g.I.NonBlock.memory d D stands
    memory
    (g.met.I.NonBlock.memory_tells memory) new (named c.args.request) c.in-Err.ensures.slots c.in-Err.ensures.given c.in-Err.ensures.same
    (subst (λ hs. Unready view g.I.NonBlock.tells g.I.NonBlock.memory d.handling hs c.prepare.new.registry) c.names-names.ensures
    c.in-Err.ensures.unready)
    (all-known d.handling.table (named c.args.request) user))

pub join-requires : goal.join-requires
join-requires g c =
    let d : LegacyState g.row.I.Denot g.row.B.Denot =
    by_parts c.self.inside.registry c.self.inside.ops c.self.inside.members c.self.inside.asked.items c.self.inside.untreated in
    let user = subst (λ (x : LegacyState g.row.I.Denot g.row.B.Denot). holds_all x.handling.table (named c.args.request) ≡ true)
    (sym c.self.view_is) c.requires.held in
    let may = naming-join d.handling.table c.prepare.new.registry.table d.slots.values d.given c.args.request c.self.invariant.0 user
    (subst (λ (x : LegacyState g.row.I.Denot g.row.B.Denot). x.given < MOST_GIVEN) (sym c.self.view_is) c.requires.counter)
    c.in-Ok.ensures.ready.table in
    subst (CanJoin c.prepare.new.registry.table) (sym c.names-names.ensures) may

pub invariant_of-self : goal.invariant_of-self
invariant_of-self g c =
    let d : LegacyState g.row.I.Denot g.row.B.Denot =
    by_parts c.self.inside.registry c.self.inside.ops c.self.inside.members c.self.inside.asked.items c.self.inside.untreated in
    let prep = c.prepare.new.ops in
    let made = c.in-Err.ensures.unready.made in (
      subst (λ t. AreNaming t prep.slots.values prep.given) (sym made.table)
          (subst (λ m. AreNaming d.handling.table m prep.given) (sym c.in-Err.ensures.slots)
          (subst (λ n. AreNaming d.handling.table d.slots.values n) (sym c.in-Err.ensures.given) c.self.invariant.0)),
      subst (λ m. AreInSlots m prep.slots.values) (sym c.in-Err.ensures.same)
          (subst (AreInSlots d.members) (sym c.in-Err.ensures.slots) c.self.invariant.1),
      λ memory. shown-ready g.I.NonBlock.view d.untreated g.I.NonBlock.tells g.I.NonBlock.memory memory d.handling
          c.prepare.new.registry c.in-Err.ensures.unready.front made (c.self.invariant.2 memory),
    )

pub invariant_of-self-2 : goal.invariant_of-self-2
invariant_of-self-2 g c =
    let d : LegacyState g.row.I.Denot g.row.B.Denot =
    by_parts c.self.inside.registry c.self.inside.ops c.self.inside.members c.self.inside.asked.items c.self.inside.untreated in
    let user = subst (λ (x : LegacyState g.row.I.Denot g.row.B.Denot). holds_all x.handling.table (named c.args.request) ≡ true)
    (sym c.self.view_is) c.requires.held in
    let prep = c.prepare.new.ops in
    let op = c.submit-op.result in
    let ready : MakesReady g.I.NonBlock.view g.I.NonBlock.tells g.I.NonBlock.memory d.handling (named c.args.request)
    c.prepare.new.registry =
    subst (λ hs. MakesReady g.I.NonBlock.view g.I.NonBlock.tells g.I.NonBlock.memory d.handling hs c.prepare.new.registry)
    c.names-names.ensures
    c.in-Ok.ensures.ready in
    let joined : c.join.new.self
    ≡ record c.prepare.new.registry { table = with_ops c.prepare.new.registry.table (named c.args.request) } =
    c.join.ensures
    ∙ ap (λ hs. record c.prepare.new.registry { table = with_ops c.prepare.new.registry.table hs }) c.names-names.ensures in
    let members = joined-at d.members c.prepare.new.members c.set_key.new.self c.args.under d.given op c.number.result c.key.result
    (c.submit-op.ensures.slots.number ∙ c.in-Ok.ensures.given) c.number.ensures c.key.ensures c.in-Ok.ensures.apart c.in-Ok.ensures.joins
    c.set_key.ensures in
    let base : AreNaming c.prepare.new.registry.table prep.slots.values prep.given =
    subst (λ t. AreNaming t prep.slots.values prep.given) (sym c.in-Ok.ensures.ready.table)
    (subst (λ m. AreNaming d.handling.table m prep.given) (sym c.in-Ok.ensures.slots)
    (subst (λ n. AreNaming d.handling.table d.slots.values n) (sym c.in-Ok.ensures.given) c.self.invariant.0)) in
    let puts = c.submit-op.ensures.slots in
    let more = naming-joined c.prepare.new.registry.table prep.slots.values c.submit-op.new.ops.slots.values prep.given op.key
    (new_slot prep c.args.request) base puts.free puts.slots refl in (
      subst (λ (x : Handling g.row.I.Denot). AreNaming x.table c.submit-op.new.ops.slots.values c.submit-op.new.ops.given) (sym joined)
          (subst (λ n. AreNaming (with_ops c.prepare.new.registry.table (named c.args.request)) c.submit-op.new.ops.slots.values n)
          (sym puts.given) more),
      subst (λ m. AreInSlots m c.submit-op.new.ops.slots.values) (sym members)
          (in-slots-joined d.members prep c.submit-op.new.ops op c.args.under c.submit-op.ensures.token
          (subst (λ m. AreInSlots d.members m) (sym c.in-Ok.ensures.slots) c.self.invariant.1)),
      λ memory. shown-joined g.I.NonBlock.view d.untreated c.prepare.new.registry c.join.new.self (named c.args.request)
          (naming-join d.handling.table c.prepare.new.registry.table d.slots.values d.given c.args.request c.self.invariant.0 user
          (subst (λ (x : LegacyState g.row.I.Denot g.row.B.Denot). x.given < MOST_GIVEN) (sym c.self.view_is) c.requires.counter)
          c.in-Ok.ensures.ready.table)
          joined
          (shown-ready g.I.NonBlock.view d.untreated g.I.NonBlock.tells g.I.NonBlock.memory memory d.handling c.prepare.new.registry
          (named c.args.request) ready (c.self.invariant.2 memory)),
    )

pub returns-clause-answers : goal.returns-clause-answers
returns-clause-answers g c =
    let d : LegacyState g.row.I.Denot g.row.B.Denot =
    by_parts c.self.inside.registry c.self.inside.ops c.self.inside.members c.self.inside.asked.items c.self.inside.untreated in
    let user = subst (λ (x : LegacyState g.row.I.Denot g.row.B.Denot). holds_all x.handling.table (named c.args.request) ≡ true)
    (sym c.self.view_is) c.requires.held in
    let within = subst (λ (x : LegacyState g.row.I.Denot g.row.B.Denot). IfSome c.args.under (λ n. n < group_count x)) (sym c.self.view_is)
    c.requires.known in
    let prep = c.prepare.new.ops in
    let op = c.submit-op.result in
    let ready : MakesReady g.I.NonBlock.view g.I.NonBlock.tells g.I.NonBlock.memory d.handling (named c.args.request)
    c.prepare.new.registry =
    subst (λ hs. MakesReady g.I.NonBlock.view g.I.NonBlock.tells g.I.NonBlock.memory d.handling hs c.prepare.new.registry)
    c.names-names.ensures
    c.in-Ok.ensures.ready in
    let joined : c.join.new.self
    ≡ record c.prepare.new.registry { table = with_ops c.prepare.new.registry.table (named c.args.request) } =
    c.join.ensures
    ∙ ap (λ hs. record c.prepare.new.registry { table = with_ops c.prepare.new.registry.table hs }) c.names-names.ensures in
    let members = joined-at d.members c.prepare.new.members c.set_key.new.self c.args.under d.given op c.number.result c.key.result
    (c.submit-op.ensures.slots.number ∙ c.in-Ok.ensures.given) c.number.ensures c.key.ensures c.in-Ok.ensures.apart c.in-Ok.ensures.joins
    c.set_key.ensures in
    let may = naming-join d.handling.table c.prepare.new.registry.table d.slots.values d.given c.args.request c.self.invariant.0 user
    (subst (λ (x : LegacyState g.row.I.Denot g.row.B.Denot). x.given < MOST_GIVEN) (sym c.self.view_is) c.requires.counter)
    c.in-Ok.ensures.ready.table in
    let view = g.I.NonBlock.view in
    let buffer = g.B.IoBufMut.buffer in
    let puts = c.submit-op.ensures.slots in
    let new : LegacyState g.row.I.Denot g.row.B.Denot =
    by_parts c.join.new.self c.submit-op.new.ops c.set_key.new.self c.self.inside.asked.items c.self.inside.untreated in
    rw (← c.self.view_is) (λ memory D stands handle is.
    let shows = g.met.I.NonBlock.memory_tells memory in
    let ops : OpsStand buffer prep D = record {
      given = c.in-Ok.ensures.given ∙ stands.parts.operations.given;
      slots = subst (λ m. SlotsStand buffer m D) (sym c.in-Ok.ensures.slots) stands.parts.operations.slots;
    } in
    stands-submits view buffer d D stands c.args.request c.args.under handle user within is new op.number op.key
    (new_slot prep c.args.request) (sym c.is_under_canceled.ensures ∙ c.if-is_under_canceled.false) c.in-Ok.ensures.room.1
    (c.submit-op.ensures.number D ops) (c.submit-op.ensures.submits D c.args.under ops)
    (ap (λ m. get m op.key) (sym c.in-Ok.ensures.slots) ∙ puts.free)
    (puts.slots ∙ ap (λ m. insert m op.key (new_slot prep c.args.request)) c.in-Ok.ensures.slots)
    (ap (λ (x : Handling g.row.I.Denot). (view x.io).world) joined ∙ ready.object.world shows)
    (joins-handles view buffer g.I.NonBlock.tells g.I.NonBlock.memory d D stands memory shows c.prepare.new.registry c.join.new.self
    c.args.request c.args.under ready (all-known d.handling.table (named c.args.request) user) may joined)
    members)

pub returns-clause-request : goal.returns-clause-request
returns-clause-request g c =
    request-added c.prepare.new.ops.slots.values c.submit-op.new.ops.slots.values c.submit-op.result.key c.submit-op.result.key
    (new_slot c.prepare.new.ops c.args.request) c.submit-op.ensures.slots.slots refl

pub returns-clause-joins : goal.returns-clause-joins
returns-clause-joins g c =
    let d : LegacyState g.row.I.Denot g.row.B.Denot =
    by_parts c.self.inside.registry c.self.inside.ops c.self.inside.members c.self.inside.asked.items c.self.inside.untreated in
    let prep = c.prepare.new.ops in
    let op = c.submit-op.result in
    let ready : MakesReady g.I.NonBlock.view g.I.NonBlock.tells g.I.NonBlock.memory d.handling (named c.args.request)
    c.prepare.new.registry =
    subst (λ hs. MakesReady g.I.NonBlock.view g.I.NonBlock.tells g.I.NonBlock.memory d.handling hs c.prepare.new.registry)
    c.names-names.ensures
    c.in-Ok.ensures.ready in
    let joined : c.join.new.self
    ≡ record c.prepare.new.registry { table = with_ops c.prepare.new.registry.table (named c.args.request) } =
    c.join.ensures
    ∙ ap (λ hs. record c.prepare.new.registry { table = with_ops c.prepare.new.registry.table hs }) c.names-names.ensures in
    let members = joined-at d.members c.prepare.new.members c.set_key.new.self c.args.under d.given op c.number.result c.key.result
    (c.submit-op.ensures.slots.number ∙ c.in-Ok.ensures.given) c.number.ensures c.key.ensures c.in-Ok.ensures.apart c.in-Ok.ensures.joins
    c.set_key.ensures in
    let puts = c.submit-op.ensures.slots in
    rw (← c.self.view_is) (record {
      mid = c.prepare.new.registry;
      ready = ready;
      handling = joined;
      slots = puts.slots ∙ ap (λ m. insert m op.key (new_slot prep c.args.request)) c.in-Ok.ensures.slots
          ∙ ap (λ n. insert d.slots.values op.key (record (new_slot prep c.args.request) { serial = n })) c.in-Ok.ensures.given;
      members = members;
      asked = refl;
      untreated = refl;
    })
