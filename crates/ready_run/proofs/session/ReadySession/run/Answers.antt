use Rattle.std.proofs.Common.{◌+◌, sym, subst, add-one, arith}
use Rattle.machine.specs.Ledger.{empty}
use Rattle.ready_run.specs.ReadySession.{ReadyStands}
use Rattle.ready_run.specs.Runs.{PendingWhenBlocked, CanceledWhenAsked}
use Rattle.ready_run.proofs.Runs.{get-there, driven-at, after-one_more, replies-one_more, replies-done, ledger-done}
use Rattle.ready_run.proofs.Runs.{pending-when-blocked, canceled-when-asked}
use Rattle.ready_run.proofs.session.ReadySession.run.Goals as goal

pub step-requires : goal.step-requires
step-requires c = driven-at c.args.events.now c.loop-event.event-index _ c.requires.driven
    (get-there c.args.events.now c.loop-event.event-index _ (omega arith) c.event-item.is)

pub loop-event-preserved : goal.loop-event-preserved
loop-event-preserved c =
    let index = c.loop-event.event-index in
    let there = get-there c.args.events.now index c.event-item.result (omega arith) c.event-item.is in
    record {
      count = omega arith;
      room = omega arith;
      all = λ capacity. (
          let answers = c.in_ok-reply.ensures.answers _ (c.loop-event.invariant.stands capacity) in
          replies-one_more (empty capacity) c.args.events.now index (index + 1) _ c.loop-event.replies.items _ _ _
          (add-one index) there answers.reply_is c.push_reserved.ensures.items (c.loop-event.invariant.all capacity));
      stands = λ capacity. (
          let answers = c.in_ok-reply.ensures.answers _ (c.loop-event.invariant.stands capacity) in
          subst (λ M. ReadyStands c.step.new.self M)
          (sym (after-one_more (empty capacity) c.args.events.now index (index + 1) _ (add-one index) there)) answers.stands);
    }

pub returns-clause-replies : goal.returns-clause-replies
returns-clause-replies c = λ capacity.
    replies-done (empty capacity) c.args.events.now c.loop-event.event-index _ _ (omega arith) (c.loop-event.invariant.all capacity)

pub returns-clause-stands : goal.returns-clause-stands
returns-clause-stands c = λ capacity.
    subst (λ M. ReadyStands c.loop-event.session M)
    (ledger-done (empty capacity) c.args.events.now c.loop-event.event-index (omega arith)) (c.loop-event.invariant.stands capacity)

pub returns-clause-pending : goal.returns-clause-pending
returns-clause-pending c = λ capacity.
    subst (λ replies. PendingWhenBlocked capacity c.args.events.now replies)
    (sym (replies-done (empty capacity) c.args.events.now c.loop-event.event-index _ _ (omega arith) (c.loop-event.invariant.all capacity)))
    (pending-when-blocked capacity c.args.events.now c.requires.driven)

pub returns-clause-canceled : goal.returns-clause-canceled
returns-clause-canceled c = λ capacity.
    subst (λ replies. CanceledWhenAsked capacity c.args.events.now replies)
    (sym (replies-done (empty capacity) c.args.events.now c.loop-event.event-index _ _ (omega arith) (c.loop-event.invariant.all capacity)))
    (canceled-when-asked capacity c.args.events.now c.requires.driven)
