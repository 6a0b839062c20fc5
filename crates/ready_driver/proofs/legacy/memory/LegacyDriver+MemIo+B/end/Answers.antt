use Rattle.std.proofs.Common.{◌≡◌, true, sym, subst}
use Rattle.ready_driver.specs.LegacyState.{LegacyState}
use Rattle.ready_driver.specs.MemIo.{Memory}
use Rattle.ready_driver.specs.Registry.{is_users}
use Rattle.ready_driver.proofs.Arriving.{stands-ends}
use Rattle.ready_driver.proofs.Driven.{by_parts}
use Rattle.ready_driver.proofs.legacy.memory.LegacyDriver+MemIo+B.end.Goals as goal

pub returns-clause-answers : goal.returns-clause-answers
returns-clause-answers g c =
    let d : LegacyState Memory g.row.B.Denot =
    by_parts c.self.inside.registry c.self.inside.ops c.self.inside.members c.self.inside.asked.items c.self.inside.untreated in
    let held = subst (λ (x : LegacyState Memory g.row.B.Denot). is_users x.handling.table c.args.h ≡ true) (sym c.self.view_is)
    c.requires.held in
    rw (← c.self.view_is) (λ D stands. stands-ends g.B.IoBufMut.buffer d D stands c.args.h held c.end.new.self
    c.end.result c.end.ensures.ends c.end.ensures.rest)
