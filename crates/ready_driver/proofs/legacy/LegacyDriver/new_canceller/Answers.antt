use Rattle.std.proofs.Common.{IsTrue}
use Rattle.ready_driver.specs.LegacyState.{LegacyState}
use Rattle.ready_driver.proofs.Driven.{by_parts, canceller-made}
use Rattle.ready_driver.proofs.legacy.LegacyDriver.new_canceller.Goals as goal

pub returns-clause-answers : goal.returns-clause-answers
returns-clause-answers g c =
    let d : LegacyState g.row.I.Denot g.row.B.Denot =
    by_parts c.self.inside.registry c.self.inside.ops c.self.inside.members c.self.inside.asked.items c.self.inside.untreated in
    rw (← c.self.view_is) (canceller-made g.I.NonBlock.view g.B.IoBufMut.buffer (IsTrue g.I.NonBlock.memory) c.new_canceller.result d
    c.new_canceller.new.self c.new_canceller.ensures.number c.new_canceller.ensures.made)
