use Rattle.std.proofs.Common.{◌<◌, sym, subst}
use Rattle.handle_core.specs.Table.{holders_at, without_operation}
use Rattle.ready_driver.specs.Records.{Holdings}
use Rattle.ready_driver.specs.Registry.{Handling, AreRecorded}
use Rattle.driver_core.proofs.Holds.{held-op}
use Rattle.ready_driver.proofs.Registering.{recorded-written, recorded-gone}
use Rattle.ready_driver.proofs.registry.Registry.let_one_go.Goals as goal

pub invariant_of-self : goal.invariant_of-self
invariant_of-self g c =
    let all = c.self.inside.records in
    let some = subst (λ (x : Handling g.row.I.Denot). 0 < (holders_at x.table c.args.h).operations) (sym c.self.view_is) c.requires in
    subst (λ (a : Holdings). AreRecorded a.table a.records) (sym (c.release_op.ensures.stays c.in-Held.is))
    (recorded-written all.table all.records c.self.invariant c.args.h (without_operation (holders_at all.table c.args.h))
    (held-op all.table c.args.h some))

pub invariant_of-self-in-Last : goal.invariant_of-self-in-Last
invariant_of-self-in-Last g c =
    subst (λ (a : Holdings). AreRecorded a.table a.records) (sym (c.release_op.ensures.left c.in-Last.is))
    (recorded-gone c.self.inside.records.table c.self.inside.records.records c.self.invariant c.args.h)
