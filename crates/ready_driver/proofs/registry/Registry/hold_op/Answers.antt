use Rattle.std.proofs.Common.{sym, subst}
use Rattle.handle_core.specs.Table.{IsHeld, holders_at, with_operation}
use Rattle.ready_driver.specs.Records.{Holdings}
use Rattle.ready_driver.specs.Registry.{Handling, AreRecorded}
use Rattle.ready_driver.proofs.Registering.{recorded-written}
use Rattle.ready_driver.proofs.registry.Registry.hold_op.Goals as goal

pub invariant_of-self : goal.invariant_of-self
invariant_of-self g c =
    let all = c.self.inside.records in
    let there = subst (λ (x : Handling g.row.I.Denot). IsHeld x.table c.args.h) (sym c.self.view_is) c.requires.held in
    subst (λ (a : Holdings). AreRecorded a.table a.records) (sym c.hold_op.ensures)
    (recorded-written all.table all.records c.self.invariant c.args.h (with_operation (holders_at all.table c.args.h)) there)
