use Rattle.std.proofs.Common.{refl, subst}
use Rattle.rent_buf.specs.Buf.{built}
use Rattle.machine.specs.declared.ledger.Event.TheVariants.{Cancel}
use Rattle.machine.specs.declared.ledger.Reply.TheVariants.{Asked}
use Rattle.uring_driver.specs.Stands.{Answers}
use Rattle.session_core.proofs.Refusals.{cause-cancel, no_token-lacks, token-owns, unrefused-cancel}
use Rattle.session_core.proofs.Single.{single-same}
use Rattle.ready_run.proofs.Kept.{tokens-same}
use Rattle.session_core.proofs.Steps.{answers-kept, answers-refused, stands-kept}
use Rattle.session_core.proofs.session.Session.cancel.Goals as goal

pub returns-in-None : goal.returns-in-None
returns-in-None c = λ L stands. answers-refused c.args.self.now _ L _ _ stands
    (cause-cancel L c.args.n (no_token-lacks c.args.self.now L c.args.n stands c.in-None.ensures _ refl)) refl (tokens-same _)

pub cancel_op-requires : goal.cancel_op-requires
cancel_op-requires c = c.holds.ensures.0 c.if-not-holds.false

pub returns-in-Ok : goal.returns-in-Ok
returns-in-Ok c = λ L stands. answers-kept c.args.self.now _ L _ _ stands (tokens-same _) refl
    (subst (λ n. Answers (λ r. r) built L (Cancel n) Asked c.cancel_op.new.self)
    ((stands.tokens c.args.n c.in-Some.op.now).0 c.in-Some.ensures).1 (c.in-Ok.ensures.answers refl L stands.driver))
    (c.cancel_op.ensures.none_due refl)
    (single-same c.args.self.now.driver c.cancel_op.new.self c.cancel_op.ensures.same.holding) c.cancel_op.ensures.tokens
    c.cancel_op.ensures.given

pub returns-in-Err : goal.returns-in-Err
returns-in-Err c = λ L stands. record {
  unrefused = (let held = (stands.tokens c.args.n c.in-Some.op.now).0 c.in-Some.ensures in
      unrefused-cancel L c.args.n (token-owns c.args.self.now L c.args.n c.in-Some.op.now stands held.0 held.1));
  stands = stands-kept c.args.self.now _ L L stands (tokens-same _) refl (c.in-Err.ensures.err L stands.driver)
      (c.cancel_op.ensures.none_due refl)
      (single-same c.args.self.now.driver c.cancel_op.new.self c.cancel_op.ensures.same.holding) c.cancel_op.ensures.tokens
      c.cancel_op.ensures.given;
}
