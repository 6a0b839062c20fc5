use Rattle.std.proofs.Common.{refl, ap, subst}
use Rattle.rent_buf.specs.Buf.{built}
use Rattle.machine.specs.declared.ledger.Event.TheVariants.{Cancel}
use Rattle.machine.specs.declared.ledger.Reply.TheVariants.{Asked}
use Rattle.ready_driver.specs.LegacyStands.{LegacyAnswers}
use Rattle.ready_driver.specs.MemIo.{memory_view}
use Rattle.ready_run.proofs.Kept.{tokens-same}
use Rattle.ready_run.proofs.Parts.{token-held}
use Rattle.ready_run.proofs.Polling.{single-as}
use Rattle.ready_run.proofs.Refusals.{cause-cancel, no_token-gone, token-live, unrefused-cancel}
use Rattle.ready_run.proofs.Steps.{answers-kept, answers-refused, stands-same}
use Rattle.ready_run.proofs.inner.Inner.cancel.Goals as goal

pub returns-in-None : goal.returns-in-None
returns-in-None c = λ D stands. answers-refused c.args.self.now _ D _ _ stands
    (cause-cancel D c.args.n (no_token-gone c.args.self.now D c.args.n stands c.in-None.ensures)) refl (tokens-same _)

pub cancel_op-requires : goal.cancel_op-requires
cancel_op-requires c = token-held c.args.self.now c.args.n c.in-Some.op.now c.requires c.in-Some.ensures

pub returns-in-Ok : goal.returns-in-Ok
returns-in-Ok c = λ D stands.
    let old = c.args.self.now.driver in
    let new = c.cancel_op.new.self in
    answers-kept c.args.self.now _ D _ _ stands (tokens-same _) tt
    (subst (λ n. LegacyAnswers memory_view built D (Cancel n) Asked new)
    ((stands.tokens c.args.n c.in-Some.op.now).0 c.in-Some.ensures).1 (c.in-Ok.ensures.answers refl D stands.driver))
    (single-as old.handling.table new.handling.table (ap (λ all. all.table) c.in-Ok.ensures.waits))
    (record { tokens = c.cancel_op.ensures.tokens; given = c.cancel_op.ensures.given })

pub returns-in-Err : goal.returns-in-Err
returns-in-Err c = λ D stands. record {
  stands = stands-same c.args.self.now _ D stands c.in-Err.ensures.err (tokens-same _);
  unrefused = unrefused-cancel D c.args.n (token-live c.args.self.now D c.args.n c.in-Some.op.now stands c.in-Some.ensures);
}
