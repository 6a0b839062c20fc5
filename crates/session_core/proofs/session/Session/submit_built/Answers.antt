use Rattle.std.proofs.Common.{subst}
use Rattle.rent_buf.specs.Buf.{built}
use Rattle.machine.specs.Request.{plain_request}
use Rattle.uring_driver.specs.Submitted.{SubmitsFor, AddsToken, JoinsFor}
use Rattle.ready_run.proofs.Kept.{tokens-same}
use Rattle.session_core.proofs.Single.{single-joined}
use Rattle.session_core.proofs.Steps.{answers-added, answers-returned, stands-unsubmitted}
use Rattle.session_core.proofs.session.Session.submit_built.Goals as goal

pub returns-in-Ok-Op-clause-ok : goal.returns-in-Ok-Op-clause-ok
returns-in-Ok-Op-clause-ok c = λ L under stands is.
    let old = c.args.self.now.driver in
    let new = c.submit_to_driver.new.driver in
    let adds = subst (λ s. AddsToken old new s) c.in-Ok-Op.field-0-is c.in-Ok-Op.ensures.token in
    let joins = subst (λ s. JoinsFor old new c.args.request c.args.group s) c.in-Ok-Op.field-0-is c.in-Ok-Op.ensures.joins in
    let answers = subst (λ s. SubmitsFor (λ r. r) built c.args.linked L c.args.request under new s) c.in-Ok-Op.field-0-is
    (c.in-Ok-Op.ensures.answers L under stands.driver is) in
    rw c.number-n.ensures (answers-added c.args.self.now _ L c.in-Ok-Op.op _ under c.args.linked _ stands c.add.ensures.items
    c.add.ensures.groups adds c.in-Ok-Op.ensures.none_due (single-joined old new c.args.request joins.0) answers)

pub returns-in-Ok-Canceled-clause-ok : goal.returns-in-Ok-Canceled-clause-ok
returns-in-Ok-Canceled-clause-ok c = λ L under stands is.
    let old = c.args.self.now.driver in
    let new = c.submit_to_driver.new.driver in
    let same = subst (λ s. JoinsFor old new c.args.request c.args.group s) c.in-Ok-Canceled.field-0-is c.in-Ok-Canceled.ensures.joins in
    let answers = subst (λ s. SubmitsFor (λ r. r) built c.args.linked L c.args.request under new s) c.in-Ok-Canceled.field-0-is
    (c.in-Ok-Canceled.ensures.answers L under stands.driver is) in
    rw c.plain_held.ensures (answers-returned c.args.self.now _ L (plain_request built c.args.request) under c.args.linked _ stands
    (tokens-same _) same answers)

pub returns-clause-err : goal.returns-clause-err
returns-clause-err c = λ L stands. stands-unsubmitted c.args.self.now _ L c.args.request c.in-Err.field-0 stands (tokens-same _)
    c.in-Err.ensures.none_due c.in-Err.ensures.err
