use Rattle.std.proofs.Common.{true, refl, subst}
use Rattle.rent_buf.specs.Buf.{built}
use Rattle.machine.specs.Request.{plain_request}
use Rattle.ready_driver.specs.LegacyCalls.{AddsToken, JoinsFor}
use Rattle.ready_driver.specs.LegacyStands.{SubmitsFor}
use Rattle.ready_driver.specs.MemIo.{memory_view}
use Rattle.ready_run.proofs.Kept.{tokens-same}
use Rattle.ready_run.proofs.Polling.{single-submitted}
use Rattle.ready_run.proofs.Steps.{answers-added, answers-returned, stands-unsubmitted}
use Rattle.ready_run.proofs.inner.Inner.submit_built.Goals as goal

pub returns-in-Ok-Op-clause-ok : goal.returns-in-Ok-Op-clause-ok
returns-in-Ok-Op-clause-ok c = λ D under stands is.
    let old = c.args.self.now.driver in
    let new = c.submit_with.new.self in
    let adds = subst (λ s. AddsToken old new s) c.in-Ok-Op.field-0-is c.in-Ok-Op.ensures.token in
    let joins = subst (λ s. JoinsFor memory_view true true old new c.args.request c.args.group s) c.in-Ok-Op.field-0-is
    c.in-Ok-Op.ensures.joins in
    let answers = subst (λ s. SubmitsFor memory_view built D c.args.request under new s) c.in-Ok-Op.field-0-is
    (c.in-Ok-Op.ensures.answers refl D stands.driver under is) in
    rw c.number-n.ensures (answers-added c.args.self.now _ D c.in-Ok-Op.op _ under _ stands c.add.ensures.items c.add.ensures.groups adds
    (single-submitted old new c.args.request c.args.group c.in-Ok-Op.op joins) answers)

pub returns-in-Ok-Canceled-clause-ok : goal.returns-in-Ok-Canceled-clause-ok
returns-in-Ok-Canceled-clause-ok c = λ D under stands is.
    let old = c.args.self.now.driver in
    let new = c.submit_with.new.self in
    let same = subst (λ s. JoinsFor memory_view true true old new c.args.request c.args.group s) c.in-Ok-Canceled.field-0-is
    c.in-Ok-Canceled.ensures.joins in
    let answers = subst (λ s. SubmitsFor memory_view built D c.args.request under new s) c.in-Ok-Canceled.field-0-is
    (c.in-Ok-Canceled.ensures.answers refl D stands.driver under is) in
    rw c.plain_held.ensures (answers-returned c.args.self.now _ D (plain_request built c.args.request) under _ stands (tokens-same _) same
    answers)

pub returns-clause-err : goal.returns-clause-err
returns-clause-err c = λ D stands. stands-unsubmitted c.args.self.now _ D c.args.request c.in-Err.field-0 stands (tokens-same _)
    (c.in-Err.ensures.stands refl D stands.driver) c.in-Err.ensures.err
