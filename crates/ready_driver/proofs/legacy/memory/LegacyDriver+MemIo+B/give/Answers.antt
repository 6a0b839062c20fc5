use Rattle.std.proofs.Common.{◌≡◌, ◌<◌, true, false, length, refl, sym, subst}
use Rattle.machine.specs.declared.world.TheConstants.{MOST_HANDLES}
use Rattle.ready_driver.specs.LegacyState.{LegacyState}
use Rattle.ready_driver.specs.MemIo.{Memory, memory_view}
use Rattle.ready_driver.specs.Registry.{is_known, with_created}
use Rattle.ready_driver.proofs.Driven.{by_parts}
use Rattle.ready_driver.proofs.Holding.{naming-adopted, gives-all}
use Rattle.ready_driver.proofs.Showing.{shown-gave}
use Rattle.ready_driver.proofs.legacy.memory.LegacyDriver+MemIo+B.give.Goals as goal

pub invariant_of-self : goal.invariant_of-self
invariant_of-self g c =
    let d : LegacyState Memory g.row.B.Denot =
    by_parts c.self.inside.registry c.self.inside.ops c.self.inside.members c.self.inside.asked.items c.self.inside.untreated in (
      naming-adopted c.give.result memory_view true true d.handling c.give.new.self (with_created d.handling c.args.kind)
          (length d.handling.io.world) d.slots.values d.given
          (subst (λ (x : LegacyState Memory g.row.B.Denot). is_known x.handling.table (length x.handling.io.world) ≡ false)
          (sym c.self.view_is) c.requires.fresh)
          refl c.give.ensures.ok c.give.ensures.err c.self.invariant.0,
      c.self.invariant.1,
      λ memory. shown-gave d.untreated c.give.result d.handling c.give.new.self c.args.kind (c.self.invariant.2 memory) c.give.ensures.shown
          c.give.ensures.ok c.give.ensures.err,
    )

pub returns-clause-answers : goal.returns-clause-answers
returns-clause-answers g c =
    let d : LegacyState Memory g.row.B.Denot =
    by_parts c.self.inside.registry c.self.inside.ops c.self.inside.members c.self.inside.asked.items c.self.inside.untreated in
    let counter = subst (λ (x : LegacyState Memory g.row.B.Denot). length x.handling.io.world < MOST_HANDLES) (sym c.self.view_is)
    c.requires.counter in
    rw (← c.self.view_is) (gives-all g.B.IoBufMut.buffer c.give.result d c.args.kind c.give.new.self counter c.give.ensures.number
    c.give.ensures.ok)
