use Rattle.std.proofs.Common.{refl, sym, subst, ◌∙◌}
use Rattle.rent_buf.specs.Buf.{built}
use Rattle.machine.specs.declared.ledger.Event.{Event}
use Rattle.machine.specs.declared.ledger.Event.TheVariants.{FeedMessage}
use Rattle.ready_driver.specs.LegacyHandles.{RefusedFor}
use Rattle.ready_run.proofs.Kept.{tokens-same}
use Rattle.ready_run.proofs.Refusals.{cause-message}
use Rattle.ready_run.proofs.Single.{has-held}
use Rattle.ready_run.proofs.Steps.{answers-kept, answers-left, answers-refused, keeps-world, single-world, stands-kept}
use Rattle.ready_run.proofs.inner.Inner.feed_message.Goals as goal

pub returns-then-not-has_handle : goal.returns-then-not-has_handle
returns-then-not-has_handle c = λ D stands. answers-refused c.args.self.now _ D _ _ stands
    (cause-message D c.args.h c.args.addr c.args.bytes.now
    (sym (has-held c.args.self.now.driver D c.args.h stands.driver) ∙ sym c.has_handle.ensures
    ∙ c.if-not-has_handle.true)) refl (tokens-same _)

pub returns-in-Ok : goal.returns-in-Ok
returns-in-Ok c = λ D stands.
    let old = c.args.self.now.driver in
    let new = c.feed_message.new.self in
    answers-kept c.args.self.now _ D _ _ stands (tokens-same _) tt (c.in-Ok.ensures.answers D stands.driver)
    (single-world old new new.handling.io c.feed_message.ensures.rest) (keeps-world old new new.handling.io c.feed_message.ensures.rest)

pub returns-in-Err-BadHandleEvent : goal.returns-in-Err-BadHandleEvent
returns-in-Err-BadHandleEvent c = λ D stands.
    let old = c.args.self.now.driver in
    let new = c.feed_message.new.self in
    let event : Event = FeedMessage c.args.h c.args.addr c.args.bytes.now in
    let refused = subst (λ why. RefusedFor built D event new why) c.in-Err-BadHandleEvent.field-0-is
    (c.in-Err-BadHandleEvent.ensures.answers D stands.driver) in
    answers-left c.args.self.now _ D _ _ stands (tokens-same _) refused.0 refused.1
    (single-world old new new.handling.io c.feed_message.ensures.rest) (keeps-world old new new.handling.io c.feed_message.ensures.rest)

pub returns-in-Err-OutOfMemory : goal.returns-in-Err-OutOfMemory
returns-in-Err-OutOfMemory c = λ D stands.
    let old = c.args.self.now.driver in
    let new = c.feed_message.new.self in
    let event : Event = FeedMessage c.args.h c.args.addr c.args.bytes.now in
    let refused = subst (λ why. RefusedFor built D event new why) c.in-Err-OutOfMemory.field-0-is
    (c.in-Err-OutOfMemory.ensures.answers D stands.driver) in
    record {
      unrefused = refused.0;
      stands = stands-kept c.args.self.now _ D D stands (tokens-same _) refl refused.1
          (single-world old new new.handling.io c.feed_message.ensures.rest)
          (keeps-world old new new.handling.io c.feed_message.ensures.rest);
    }
