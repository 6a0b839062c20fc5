use Rattle.std.proofs.Common.{true, ◌∙◌, sym, ap, subst}
use Rattle.ready_driver.specs.Records.{Holdings, changed_named, fresh_record, with_registered}
use Rattle.ready_driver.specs.Registry.{Handling, AreRecorded, GivesUser}
use Rattle.ready_driver.proofs.Agreeing.{new-registered}
use Rattle.ready_driver.proofs.Registering.{recorded-new, recorded-named}
use Rattle.ready_driver.proofs.registry.Registry.give_user.Goals as goal

pub invariant_of-self : goal.invariant_of-self
invariant_of-self g c =
    subst (λ (a : Holdings). AreRecorded a.table a.records) (sym c.set_registered.ensures)
    (recorded-named c.add_reserved-key.new.self.table c.add_reserved-key.new.self.records
    (recorded-new c.self.inside.records.table c.self.inside.records.records c.self.invariant c.args.h c.add_reserved-key.new.self.table
    c.add_reserved-key.new.self.records (fresh_record c.add_reserved-key.result)
    (ap (λ (a : Holdings). a.table.holders) c.add_reserved-key.ensures.rest)
    (ap (λ (a : Holdings). a.records.handles) c.add_reserved-key.ensures.rest)) c.add_reserved-key.result (with_registered true))

pub invariant_of-self-in-Err : goal.invariant_of-self-in-Err
invariant_of-self-in-Err g c =
    recorded-new c.self.inside.records.table c.self.inside.records.records c.self.invariant c.args.h c.add_reserved-key.new.self.table
    c.add_reserved-key.new.self.records (fresh_record c.add_reserved-key.result)
    (ap (λ (a : Holdings). a.table.holders) c.add_reserved-key.ensures.rest)
    (ap (λ (a : Holdings). a.records.handles) c.add_reserved-key.ensures.rest)

pub returns-in-Ok : goal.returns-in-Ok
returns-in-Ok g c =
    let key = c.add_reserved-key.result in
    let added = new-registered c.self.inside.records.records c.args.h key _ in
    subst (λ (x : Handling g.row.I.Denot). GivesUser g.I.NonBlock.view g.I.NonBlock.tells g.I.NonBlock.memory x c.args.h (record {
      io = c.register.new.self;
      table = c.set_registered.new.self.table;
      records = c.set_registered.new.self.records;
    })) c.self.view_is (record {
      key = key;
      fresh = c.add_reserved-key.ensures.key;
      taken = true;
      tries = (c.in-Ok.ensures.0, c.in-Ok.ensures.1);
      table = ap (λ (a : Holdings). a.table.holders) c.set_registered.ensures
          ∙ ap (λ (a : Holdings). a.table.holders) c.add_reserved-key.ensures.rest;
      records = ap (λ (a : Holdings). a.records.handles) c.set_registered.ensures
          ∙ ap (λ (a : Holdings). (changed_named a.records key (with_registered true)).handles) c.add_reserved-key.ensures.rest ∙ added.0;
      names = ap (λ (a : Holdings). a.records.names) c.set_registered.ensures
          ∙ ap (λ (a : Holdings). (changed_named a.records key (with_registered true)).names) c.add_reserved-key.ensures.rest ∙ added.1;
    })
