use Rattle.std.proofs.Common.{refl, sym, subst, ◌∙◌}
use Rattle.machine.specs.declared.ledger.Event.TheVariants.{FeedMessage}
use Rattle.uring_driver.specs.Handles.{RefusedFor}
use Rattle.session_core.proofs.Refusals.{cause-message}
use Rattle.session_core.proofs.Single.{has-held, single-same}
use Rattle.ready_run.proofs.Kept.{tokens-same}
use Rattle.session_core.proofs.Steps.{answers-kept, answers-refused, stands-same}
use Rattle.session_core.proofs.session.Session.feed_message.Goals as goal

pub returns-then-not-has_handle : goal.returns-then-not-has_handle
returns-then-not-has_handle c = λ L stands. answers-refused c.args.self.now _ L _ _ stands
    (cause-message L c.args.h c.args.addr c.args.bytes.now (sym (has-held c.args.self.now.driver L c.args.h stands.driver)
    ∙ sym c.has_handle.ensures ∙ c.if-not-has_handle.true)) refl (tokens-same _)

pub returns-in-Ok : goal.returns-in-Ok
returns-in-Ok c = λ L stands.
    answers-kept c.args.self.now _ L _ _ stands (tokens-same _) refl (c.in-Ok.ensures.answers L stands.driver)
    (λ none. c.in-Ok.ensures.due ∙ none)
    (single-same c.args.self.now.driver c.feed_message.new.self c.in-Ok.ensures.rest.1.holding) c.in-Ok.ensures.tokens c.in-Ok.ensures.given

pub returns-in-Err-BadHandleEvent : goal.returns-in-Err-BadHandleEvent
returns-in-Err-BadHandleEvent c = λ L stands. answers-refused c.args.self.now _ L _ _ stands
    (subst (λ why. RefusedFor L (FeedMessage c.args.h c.args.addr c.args.bytes.now) why) c.in-Err-BadHandleEvent.field-0-is
    (c.in-Err-BadHandleEvent.ensures.answers L stands.driver)) c.in-Err-BadHandleEvent.ensures.err (tokens-same _)

pub returns-in-Err-OutOfMemory : goal.returns-in-Err-OutOfMemory
returns-in-Err-OutOfMemory c = λ L stands. record {
  stands = stands-same c.args.self.now _ L stands c.in-Err-OutOfMemory.ensures.err (tokens-same _);
  unrefused = subst (λ why. RefusedFor L (FeedMessage c.args.h c.args.addr c.args.bytes.now) why) c.in-Err-OutOfMemory.field-0-is
      (c.in-Err-OutOfMemory.ensures.answers L stands.driver);
}
