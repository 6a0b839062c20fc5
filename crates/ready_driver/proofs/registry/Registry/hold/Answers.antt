use Rattle.std.proofs.Common.{◌≡◌, true, sym, subst}
use Rattle.handle_core.specs.Table.{holders_at, with_user}
use Rattle.ready_driver.specs.Records.{Holdings}
use Rattle.ready_driver.specs.Registry.{Handling, is_users, AreRecorded}
use Rattle.driver_core.proofs.Holds.{held-user}
use Rattle.ready_driver.proofs.Registering.{recorded-written}
use Rattle.ready_driver.proofs.registry.Registry.hold.Goals as goal

pub invariant_of-self : goal.invariant_of-self
invariant_of-self g c =
    let all = c.self.inside.records in
    let users = subst (λ (x : Handling g.row.I.Denot). is_users x.table c.args.h ≡ true) (sym c.self.view_is) c.requires.held in
    subst (λ (a : Holdings). AreRecorded a.table a.records) (sym c.hold.ensures)
    (recorded-written all.table all.records c.self.invariant c.args.h (with_user (holders_at all.table c.args.h))
    (held-user all.table c.args.h users))
