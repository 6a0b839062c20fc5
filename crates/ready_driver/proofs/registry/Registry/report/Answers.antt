use Rattle.std.proofs.Common.{sym, ap, subst}
use Rattle.ready_driver.specs.Records.{Holdings}
use Rattle.ready_driver.specs.Registry.{Handling, AreRecorded}
use Rattle.ready_driver.proofs.Reporting.{recorded-reported}
use Rattle.ready_driver.proofs.Reported.{shown-treated}
use Rattle.ready_driver.proofs.registry.Registry.report.Goals as goal

pub invariant_of-self : goal.invariant_of-self
invariant_of-self g c =
    subst (λ (a : Holdings). AreRecorded a.table a.records) (sym c.treat.ensures.records)
    (recorded-reported c.self.inside.records.table c.args.reports.now c.self.inside.records.records c.self.invariant)

pub returns-clause-shown : goal.returns-clause-shown
returns-clause-shown g c =
    let old : Handling g.row.I.Denot =
    record { io = c.self.inside.io; table = c.self.inside.records.table; records = c.self.inside.records.records } in
    let new : Handling g.row.I.Denot = record old { table = c.treat.new.records.table; records = c.treat.new.records.records } in
    rw (← c.self.view_is) (λ memory shown. shown-treated g.I.NonBlock.view old new c.args.reports.now c.self.invariant
    c.named.ensures
    (ap (λ (a : Holdings). record old { table = a.table; records = a.records }) c.treat.ensures.records) shown)
