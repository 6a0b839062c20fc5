use Rattle.std.proofs.Common.{◌≡◌, ◌∷◌, [], true, None, sym, ◌∙◌, subst}
use Rattle.ready_driver.specs.Records.{Holdings, unregistered_at, with_registered}
use Rattle.ready_driver.specs.Registry.{Handling, AreRecorded, MakesReady}
use Rattle.ready_driver.proofs.Registering.{recorded-named}
use Rattle.ready_driver.proofs.Still.{ready-already, ready-now}
use Rattle.ready_driver.proofs.registry.Registry.make_one_ready.Goals as goal

pub returns-in_default-clause-ok : goal.returns-in_default-clause-ok
returns-in_default-clause-ok g c =
    ready-already g.I.NonBlock.view g.I.NonBlock.tells g.I.NonBlock.memory c.args.self.now c.args.h
    (subst (λ (x : Handling g.row.I.Denot). unregistered_at x.records c.args.h ≡ None) c.self.view_is
    (sym c.unregistered.ensures ∙ c.in_default.is))

pub invariant_of-self : goal.invariant_of-self
invariant_of-self g c =
    subst (λ (a : Holdings). AreRecorded a.table a.records) (sym c.set_registered.ensures)
    (recorded-named c.self.inside.records.table c.self.inside.records.records c.self.invariant c.in-Some.key (with_registered true))

pub returns-in-Ok-clause-ok : goal.returns-in-Ok-clause-ok
returns-in-Ok-clause-ok g c =
    let view = g.I.NonBlock.view in
    let tells = g.I.NonBlock.tells in
    let memory = g.I.NonBlock.memory in
    let io = c.register.new.self in
    let old : Handling g.row.I.Denot =
    record { io = c.self.inside.io; table = c.self.inside.records.table; records = c.self.inside.records.records } in
    subst (λ (x : Handling g.row.I.Denot). MakesReady view tells memory x (c.args.h ∷ []) (record {
      io = io;
      table = c.set_registered.new.self.table;
      records = c.set_registered.new.self.records;
    })) c.self.view_is
    (subst (λ (a : Holdings). MakesReady view tells memory old (c.args.h ∷ []) (record { io = io; table = a.table; records = a.records }))
    (sym c.set_registered.ensures)
    (ready-now view tells memory old io c.args.h c.in-Some.key (sym c.unregistered.ensures ∙ c.in-Some.is) c.named.ensures
    c.in-Ok.ensures.0))
