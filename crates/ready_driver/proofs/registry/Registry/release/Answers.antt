use Rattle.std.proofs.Common.{◌≡◌, true, sym, subst}
use Rattle.handle_core.specs.Table.{holders_at, without_user}
use Rattle.ready_driver.specs.Records.{Holdings}
use Rattle.ready_driver.specs.Registry.{Handling, AreRecorded, is_users}
use Rattle.driver_core.proofs.Holds.{held-user}
use Rattle.ready_driver.proofs.Registering.{recorded-written, recorded-gone}
use Rattle.ready_driver.proofs.registry.Registry.release.Goals as goal

pub invariant_of-self : goal.invariant_of-self
invariant_of-self g c =
    let all = c.self.inside.records in
    let users = subst (λ (x : Handling g.row.I.Denot). is_users x.table c.args.h ≡ true) (sym c.self.view_is) c.requires in
    subst (λ (a : Holdings). AreRecorded a.table a.records) (sym (c.release.ensures.stays c.in-Held.is))
    (recorded-written all.table all.records c.self.invariant c.args.h (without_user (holders_at all.table c.args.h))
    (held-user all.table c.args.h users))

pub invariant_of-self-in-Last : goal.invariant_of-self-in-Last
invariant_of-self-in-Last g c =
    subst (λ (a : Holdings). AreRecorded a.table a.records) (sym (c.release.ensures.left c.in-Last.is))
    (recorded-gone c.self.inside.records.table c.self.inside.records.records c.self.invariant c.args.h)
