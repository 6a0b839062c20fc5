use Rattle.std.proofs.Common.{sym, ◌∙◌, ap}
use Rattle.std.specs.Prelude.{option_map}
use Rattle.ready_driver.specs.declared.records.One.{One}
use Rattle.ready_driver.proofs.Kept.{looked-held, looked-kept, unheld-at, unfound-at}
use Rattle.ready_driver.proofs.records.Records.find.Goals as goal

pub returns-in-Some-clause-held : goal.returns-in-Some-clause-held
returns-in-Some-clause-held c = ap (option_map (λ (o : One). o.held)) c.get.ensures
    ∙ looked-held c.self.inside.keys c.self.inside.slab _ c.self.invariant _ c.self.view_is c.args.h _ c.in-Some.ensures.value

pub returns-in-Some-clause-kept : goal.returns-in-Some-clause-kept
returns-in-Some-clause-kept c = ap (option_map (λ (o : One). o.kept)) c.get.ensures
    ∙ looked-kept c.self.inside.keys c.self.inside.slab _ c.self.invariant _ c.self.view_is c.args.h _ c.in-Some.ensures.value

pub returns-in-None-clause-held : goal.returns-in-None-clause-held
returns-in-None-clause-held c = sym (unheld-at c.self.inside.keys c.self.inside.slab _ c.self.invariant _ c.self.view_is c.args.h
    c.in-None.ensures.value)

pub returns-in-None-clause-kept : goal.returns-in-None-clause-kept
returns-in-None-clause-kept c = sym (unfound-at c.self.inside.keys c.self.inside.slab _ c.self.invariant _ c.self.view_is c.args.h
    c.in-None.ensures.value)
