use Rattle.std.proofs.Common.{[], ◌∷◌, sym, subst}
use Rattle.std.specs.Prelude.{IfErr}
use Rattle.std.proofs.lemmas.Result.{IfErr-weaker}
use Rattle.machine.specs.Request.{listed}
use Rattle.ready_driver.specs.Registry.{RefusesReady}
use Rattle.ready_driver.proofs.Still.{refused-first, refused-second}
use Rattle.ready_driver.proofs.registry.Registry.make_ready.Goals as goal

pub returns-in-One-clause-err : goal.returns-in-One-clause-err
returns-in-One-clause-err g c =
    let view = g.I.NonBlock.view in
    let tells = g.I.NonBlock.tells in
    let memory = g.I.NonBlock.memory in
    let old = c.args.self.now in
    let new = c.make_one_ready.new.self in
    subst (λ names. IfErr c.make_one_ready.result (λ why. RefusesReady view tells memory old (listed names) new why)) (sym c.in-One.is)
    (IfErr-weaker c.make_one_ready.result _ _ (λ why. refused-first view tells memory old c.in-One.h [] new why)
    c.make_one_ready.ensures.err)

pub returns-in-Ok-clause-err : goal.returns-in-Ok-clause-err
returns-in-Ok-clause-err g c =
    let view = g.I.NonBlock.view in
    let tells = g.I.NonBlock.tells in
    let memory = g.I.NonBlock.memory in
    let old = c.args.self.now in
    let mid = c.make_one_ready-in-Two.new.self in
    let new = c.make_one_ready-in-Ok.new.self in
    subst (λ names. IfErr c.make_one_ready-in-Ok.result (λ why. RefusesReady view tells memory old (listed names) new why))
    (sym c.in-Two.is) (IfErr-weaker c.make_one_ready-in-Ok.result _ _
    (λ why. refused-second view tells memory old c.in-Two.lower c.in-Two.upper mid new why c.in-Ok.ensures.ok c.in-Ok.ensures.calm)
    c.make_one_ready-in-Ok.ensures.err)

pub returns-in-Err-clause-err : goal.returns-in-Err-clause-err
returns-in-Err-clause-err g c =
    let view = g.I.NonBlock.view in
    let tells = g.I.NonBlock.tells in
    let memory = g.I.NonBlock.memory in
    let old = c.args.self.now in
    let new = c.make_one_ready-in-Two.new.self in
    subst (λ names. RefusesReady view tells memory old (listed names) new c.in-Err.why) (sym c.in-Two.is)
    (refused-first view tells memory old c.in-Two.lower (c.in-Two.upper ∷ []) new c.in-Err.why c.in-Err.ensures.err)
