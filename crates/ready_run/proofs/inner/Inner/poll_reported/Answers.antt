use Rattle.std.proofs.Common.{◌<◌, true, length, refl, sym, subst}
use Rattle.std.specs.Prelude.{Ok}
use Rattle.rent_buf.specs.Buf.{built}
use Rattle.machine.specs.Request.{held_of, plain_request}
use Rattle.machine.specs.declared.world.TheConstants.{MOST_HANDLES}
use Rattle.machine.specs.declared.ledger.Event.TheVariants.{Poll}
use Rattle.machine.specs.declared.ledger.Reply.TheVariants.{Pending, Handed}
use Rattle.driver_core.specs.Op.{PollsTokens}
use Rattle.ready_driver.specs.LegacyPolls.{EndsFor}
use Rattle.ready_driver.specs.LegacyStands.{LegacyAnswers, PollsFor, WaitsFor}
use Rattle.ready_driver.specs.LegacyState.{ops_in}
use Rattle.ready_driver.specs.MemIo.{memory_files, memory_called, memory_view}
use Rattle.ready_run.proofs.Kept.{put-back}
use Rattle.ready_run.proofs.Parts.{not-missing, token-held}
use Rattle.ready_run.proofs.Polling.{single-ended}
use Rattle.ready_run.proofs.Refusals.{token-live, unrefused-poll}
use Rattle.ready_run.proofs.Single.{single-same}
use Rattle.ready_run.proofs.Steps.{answers-kept, answers-taken, stands-kept}
use Rattle.ready_run.proofs.inner.Inner.poll_reported.Goals as goal

pub unreachable-requires : goal.unreachable-requires
unreachable-requires c = not-missing _ c.requires.there c.in-None.ensures.value

pub poll_op-requires : goal.poll_op-requires
poll_op-requires c = token-held c.args.self.now c.args.n c.in-Some.op c.requires.parts (sym c.in-Some.ensures.value)

pub returns-in-Ok-Pending : goal.returns-in-Ok-Pending
returns-in-Ok-Pending c = λ reported D stands.
    let old = c.args.self.now.driver in
    let new = c.poll_op.new.self in
    let there = sym c.in-Some.ensures.value in
    let kept = subst (λ answer. PollsTokens (ops_in old) (ops_in new) c.in-Some.op answer) c.in-Ok-Pending.field-0-is
    c.in-Ok-Pending.ensures.tokens in
    let ends = subst (λ answer. EndsFor memory_files built memory_called memory_view true true old new c.in-Some.op c.args.task
    (Ok answer)) c.in-Ok-Pending.field-0-is
    c.in-Ok-Pending.ensures.ends in
    let waits = subst (λ answer. WaitsFor memory_view built D c.in-Some.op c.args.task new (Ok answer)) c.in-Ok-Pending.field-0-is
    (c.in-Ok-Pending.ensures.exact refl reported D stands.driver) in
    answers-kept c.args.self.now _ D _ _ stands
    (put-back c.args.self.now.tokens c.take.new.self c.put.new.self c.args.n c.in-Some.op _ there c.in-Some.ensures.rest c.put.ensures.items
    kept.0 c.in-Some.ensures.groups c.put.ensures.groups) tt
    (subst (λ n. LegacyAnswers memory_view built D (Poll n c.args.task) Pending new) ((stands.tokens c.args.n c.in-Some.op).0 there).1
    waits)
    (single-same old.handling.table new.handling.table ends.0.table)
    (record { tokens = kept.1; given = c.poll_op.ensures.given })

pub returns-in-Ok-Ready : goal.returns-in-Ok-Ready
returns-in-Ok-Ready c = λ reported D stands.
    let old = c.args.self.now.driver in
    let new = c.poll_op.new.self in
    let there = sym c.in-Some.ensures.value in
    let done = c.in-Ok-Ready.done in
    let drops = subst (λ answer. PollsTokens (ops_in old) (ops_in new) c.in-Some.op answer) c.in-Ok-Ready.field-0-is
    c.in-Ok-Ready.ensures.tokens in
    let ends = subst (λ answer. EndsFor memory_files built memory_called memory_view true true old new c.in-Some.op c.args.task
    (Ok answer)) c.in-Ok-Ready.field-0-is
    c.in-Ok-Ready.ensures.ends in
    let polls = subst (λ answer. PollsFor memory_view built old D c.in-Some.op c.args.task new (Ok answer)) c.in-Ok-Ready.field-0-is
    (c.in-Ok-Ready.ensures.answers refl D stands.driver) in
    rw c.plain_held.ensures
    (answers-taken c.args.self.now _ D c.args.n c.in-Some.op _ _ stands there c.in-Some.ensures.rest c.in-Some.ensures.groups tt
    drops (single-ended old new c.in-Some.op c.args.task done ends) c.poll_op.ensures.given
    (subst (λ n. LegacyAnswers memory_view built D (Poll n c.args.task)
    (Handed done.outcome (held_of (plain_request built done.request))) new)
    ((stands.tokens c.args.n c.in-Some.op).0 there).1
    (polls (subst (λ world. length world < MOST_HANDLES) stands.driver.parts.handles c.requires.few))))

pub returns-in-Err : goal.returns-in-Err
returns-in-Err c = λ reported D stands.
    let old = c.args.self.now.driver in
    let new = c.poll_op.new.self in
    let there = sym c.in-Some.ensures.value in
    record {
      unrefused = unrefused-poll D c.args.n c.args.task (token-live c.args.self.now D c.args.n c.in-Some.op stands there);
      stands = stands-kept c.args.self.now _ D D stands
          (put-back c.args.self.now.tokens c.take.new.self c.put-in-Err.new.self c.args.n c.in-Some.op _ there c.in-Some.ensures.rest
          c.put-in-Err.ensures.items c.in-Err.ensures.tokens.0 c.in-Some.ensures.groups c.put-in-Err.ensures.groups) refl
          (c.in-Err.ensures.answers refl D stands.driver)
          (single-same old.handling.table new.handling.table c.in-Err.ensures.ends.0.table)
          (record { tokens = c.in-Err.ensures.tokens.1; given = c.poll_op.ensures.given });
    }
