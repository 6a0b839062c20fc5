use Rattle.std.proofs.Common.{refl, sym, subst}
use Rattle.ready_driver.specs.LegacyTurns.{Turning}
use Rattle.ready_driver.specs.Turns.{AreShown}
use Rattle.ready_driver.proofs.Turning.{shown-came, treats-all}
use Rattle.ready_driver.proofs.legacy.park.collect.Goals as goal

pub returns-in-Ok-treat-clause-does : goal.returns-in-Ok-treat-clause-does
returns-in-Ok-treat-clause-does g c =
    let mid : Turning g.row.I.Denot =
    record { handling = c.treat.new.registry; untreated = c.treat.new.untreated; tasks = c.treat.new.tasks.items } in
    let between : Turning g.row.I.Denot =
    record { handling = c.wait.new.self; untreated = c.wait.new.reports; tasks = c.treat.new.tasks.items } in
    treats-all g.I.NonBlock.view g.I.NonBlock.tells g.I.NonBlock.reporting g.I.NonBlock.memory (g.met.I.NonBlock.memory_tells)
    (g.met.I.NonBlock.memory_reports) _ mid between _ c.requires
    (record { treats = c.in-Ok.ensures.ok; io = c.in-Ok.ensures.io; none = c.in-Ok.ensures.none; shown = c.in-Ok.ensures.shown })
    (record {
      still = c.in-Ok-wait.ensures.waits.0;
      reports = c.in-Ok-wait.ensures.waits.1;
      none = c.in-Ok-wait.ensures.waits.2;
      handling = c.wait.ensures.rest;
      tasks = refl;
    })
    (record {
      treats = c.in-Ok-treat.ensures.ok;
      io = c.in-Ok-treat.ensures.io;
      none = c.in-Ok-treat.ensures.none;
      shown = c.in-Ok-treat.ensures.shown;
    })

pub returns-in-Ok-treat-clause-shown : goal.returns-in-Ok-treat-clause-shown
returns-in-Ok-treat-clause-shown g c = λ memory. (
    let mid : Turning g.row.I.Denot =
    record { handling = c.treat.new.registry; untreated = c.treat.new.untreated; tasks = c.treat.new.tasks.items } in
    let between : Turning g.row.I.Denot =
    record { handling = c.wait.new.self; untreated = c.wait.new.reports; tasks = c.treat.new.tasks.items } in
    let came : AreShown g.I.NonBlock.view c.wait.new.self c.wait.new.reports =
    shown-came g.I.NonBlock.view g.I.NonBlock.tells g.I.NonBlock.reporting g.I.NonBlock.memory (g.met.I.NonBlock.memory_tells)
    (g.met.I.NonBlock.memory_reports) mid between (record {
      still = c.in-Ok-wait.ensures.waits.0;
      reports = c.in-Ok-wait.ensures.waits.1;
      none = c.in-Ok-wait.ensures.waits.2;
      handling = c.wait.ensures.rest;
      tasks = refl;
    }) memory (c.in-Ok.ensures.shown memory (c.requires memory)) in
    subst (AreShown g.I.NonBlock.view c.treat-2.new.registry) (sym c.in-Ok-treat.ensures.none) (c.in-Ok-treat.ensures.shown memory came))

pub returns-in-Err-treat-clause-shown : goal.returns-in-Err-treat-clause-shown
returns-in-Err-treat-clause-shown g c = λ memory. (
    let mid : Turning g.row.I.Denot =
    record { handling = c.treat.new.registry; untreated = c.treat.new.untreated; tasks = c.treat.new.tasks.items } in
    let between : Turning g.row.I.Denot =
    record { handling = c.wait.new.self; untreated = c.wait.new.reports; tasks = c.treat.new.tasks.items } in
    let came : AreShown g.I.NonBlock.view c.wait.new.self c.wait.new.reports =
    shown-came g.I.NonBlock.view g.I.NonBlock.tells g.I.NonBlock.reporting g.I.NonBlock.memory (g.met.I.NonBlock.memory_tells)
    (g.met.I.NonBlock.memory_reports) mid between (record {
      still = c.in-Ok-wait.ensures.waits.0;
      reports = c.in-Ok-wait.ensures.waits.1;
      none = c.in-Ok-wait.ensures.waits.2;
      handling = c.wait.ensures.rest;
      tasks = refl;
    }) memory (c.in-Ok.ensures.shown memory (c.requires memory)) in
    subst (λ x. AreShown g.I.NonBlock.view x c.treat-2.new.untreated) (sym c.in-Err-treat.ensures.err.0)
    (subst (AreShown g.I.NonBlock.view c.wait.new.self) (sym c.in-Err-treat.ensures.err.1) came))
