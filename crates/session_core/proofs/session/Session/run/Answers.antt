use Rattle.std.proofs.Common.{◌+◌, sym, subst, add-one, arith}
use Rattle.machine.specs.Ledger.{empty}
use Rattle.run_laws.specs.Headline.{RefusedExactly, PendingUntilReaped, HandsBackOwn, FirstPollHands, HandedOnce, DroppedOnce, ReapNames}
use Rattle.run_laws.specs.Headline.{CanceledWhereAsked, GivenInOrder}
use Rattle.run_laws.specs.Closes.{ClosedOnce, ClosedWhenReleased, ClosedWhenOver, ClosedWhenMakerOver, UnheldCloses}
use Rattle.run_laws.specs.Closes.{CreatedOnce, UsedWhenReturned}
use Rattle.run_laws.specs.Groups.{CancelsMembers, CanceledAtOnceExactly, NoCancellerExactly, CancellersInOrder, HandlesInOrder}
use Rattle.run_laws.proofs.Laws.{refused-exactly, pending-until-reaped, hands-back-own, first-poll-hands, handed-once, dropped-once}
use Rattle.run_laws.proofs.Laws.{reap-names, canceled-where-asked, breaks-by-failure, given-in-order}
use Rattle.run_laws.proofs.Laws.{waits-once-taken, waits-only-taken, waits-behind, starts-free, starts-after-leader, moves-behind-leader}
use Rattle.run_laws.proofs.Laws.{starts-behind-leader, breaks-with-leader, breaks-chain, completes-in-order}
use Rattle.run_laws.proofs.Laws.{closed-once, closed-when-released, closed-when-over, closed-when-maker-over, unheld-closes}
use Rattle.run_laws.proofs.Laws.{created-once, made-once, used-when-returned}
use Rattle.run_laws.proofs.Laws.{input-in-order, messages-in-order, files-hold-last, output-in-order, sent-in-order}
use Rattle.run_laws.proofs.Laws.{moves-own, reads-take-own, receives-take-own, splices-pass-on}
use Rattle.run_laws.proofs.Laws.{cancels-members, canceled-at-once-exactly, no-canceller-exactly, cancellers-in-order, handles-in-order}
use Rattle.session_core.specs.Session.{SessionStands}
use Rattle.ready_run.proofs.Runs.{get-there}
use Rattle.session_core.proofs.Runs.{after-one_more, replies-one_more, holds-of_all}
use Rattle.session_core.proofs.session.Session.run.Goals as goal

pub loop-event-preserved : goal.loop-event-preserved
loop-event-preserved c =
    let index = c.loop-event.event-index in
    let there = get-there c.args.events.now index c.event-item.result (omega arith) c.event-item.is in
    let answers = c.in_ok-reply.ensures.answers _ c.loop-event.invariant.stands in
    record {
      count = omega arith;
      room = omega arith;
      all = replies-one_more (empty c.args.capacity) c.args.events.now index (index + 1) _ c.loop-event.replies.items _ _ _
          (add-one index) there answers.reply_is c.push_reserved.ensures.items c.loop-event.invariant.all;
      stands = subst (λ M. SessionStands c.step.new.self M)
          (sym (after-one_more (empty c.args.capacity) c.args.events.now index (index + 1) _ (add-one index) there)) answers.stands;
    }

pub returns-clause-refused : goal.returns-clause-refused
returns-clause-refused c =
    holds-of_all c.args.capacity c.args.events.now c.loop-event.event-index _ _
    (λ rs. RefusedExactly c.args.capacity c.args.events.now rs)
    (omega arith) c.loop-event.invariant.all (refused-exactly c.args.capacity c.args.events.now)

pub returns-clause-in_order : goal.returns-clause-in_order
returns-clause-in_order c =
    holds-of_all c.args.capacity c.args.events.now c.loop-event.event-index _ _
    (λ rs. GivenInOrder rs)
    (omega arith) c.loop-event.invariant.all (given-in-order c.args.capacity c.args.events.now)

pub returns-clause-pending : goal.returns-clause-pending
returns-clause-pending c =
    holds-of_all c.args.capacity c.args.events.now c.loop-event.event-index _ _
    (λ rs. PendingUntilReaped c.args.capacity c.args.events.now rs)
    (omega arith) c.loop-event.invariant.all (pending-until-reaped c.args.capacity c.args.events.now)

pub returns-clause-own : goal.returns-clause-own
returns-clause-own c =
    holds-of_all c.args.capacity c.args.events.now c.loop-event.event-index _ _
    (λ rs. HandsBackOwn c.args.capacity c.args.events.now rs)
    (omega arith) c.loop-event.invariant.all (hands-back-own c.args.capacity c.args.events.now)

pub returns-clause-first : goal.returns-clause-first
returns-clause-first c =
    holds-of_all c.args.capacity c.args.events.now c.loop-event.event-index _ _
    (λ rs. FirstPollHands c.args.capacity c.args.events.now rs)
    (omega arith) c.loop-event.invariant.all (first-poll-hands c.args.capacity c.args.events.now)

pub returns-clause-once : goal.returns-clause-once
returns-clause-once c =
    holds-of_all c.args.capacity c.args.events.now c.loop-event.event-index _ _
    (λ rs. HandedOnce c.args.events.now rs)
    (omega arith) c.loop-event.invariant.all (handed-once c.args.capacity c.args.events.now)

pub returns-clause-dropped : goal.returns-clause-dropped
returns-clause-dropped c =
    holds-of_all c.args.capacity c.args.events.now c.loop-event.event-index _ _
    (λ rs. DroppedOnce c.args.events.now rs)
    (omega arith) c.loop-event.invariant.all (dropped-once c.args.capacity c.args.events.now)

pub returns-clause-names : goal.returns-clause-names
returns-clause-names c =
    holds-of_all c.args.capacity c.args.events.now c.loop-event.event-index _ _
    (λ rs. ReapNames c.args.capacity c.args.events.now rs)
    (omega arith) c.loop-event.invariant.all (reap-names c.args.capacity c.args.events.now)

pub returns-clause-canceled : goal.returns-clause-canceled
returns-clause-canceled c =
    holds-of_all c.args.capacity c.args.events.now c.loop-event.event-index _ _
    (λ rs. CanceledWhereAsked c.args.capacity c.args.events.now rs)
    (omega arith) c.loop-event.invariant.all (canceled-where-asked c.args.capacity c.args.events.now)

pub returns-clause-once_taken : goal.returns-clause-once_taken
returns-clause-once_taken c = waits-once-taken c.args.capacity c.args.events.now

pub returns-clause-only_taken : goal.returns-clause-only_taken
returns-clause-only_taken c = waits-only-taken c.args.capacity c.args.events.now

pub returns-clause-after_leader : goal.returns-clause-after_leader
returns-clause-after_leader c = starts-after-leader c.args.capacity c.args.events.now

pub returns-clause-moves_behind : goal.returns-clause-moves_behind
returns-clause-moves_behind c = moves-behind-leader c.args.capacity c.args.events.now

pub returns-clause-chain : goal.returns-clause-chain
returns-clause-chain c = breaks-chain c.args.capacity c.args.events.now

pub returns-clause-chain_order : goal.returns-clause-chain_order
returns-clause-chain_order c = completes-in-order c.args.capacity c.args.events.now

pub returns-clause-waits : goal.returns-clause-waits
returns-clause-waits c = waits-behind c.args.capacity c.args.events.now

pub returns-clause-starts : goal.returns-clause-starts
returns-clause-starts c = starts-free c.args.capacity c.args.events.now

pub returns-clause-behind : goal.returns-clause-behind
returns-clause-behind c = starts-behind-leader c.args.capacity c.args.events.now

pub returns-clause-broken : goal.returns-clause-broken
returns-clause-broken c = breaks-with-leader c.args.capacity c.args.events.now

pub returns-clause-breaks : goal.returns-clause-breaks
returns-clause-breaks c = breaks-by-failure c.args.capacity c.args.events.now

pub returns-clause-closed_once : goal.returns-clause-closed_once
returns-clause-closed_once c =
    holds-of_all c.args.capacity c.args.events.now c.loop-event.event-index _ _
    (λ rs. ClosedOnce rs)
    (omega arith) c.loop-event.invariant.all (closed-once c.args.capacity c.args.events.now)

pub returns-clause-closed_released : goal.returns-clause-closed_released
returns-clause-closed_released c =
    holds-of_all c.args.capacity c.args.events.now c.loop-event.event-index _ _
    (λ rs. ClosedWhenReleased c.args.capacity c.args.events.now rs)
    (omega arith) c.loop-event.invariant.all (closed-when-released c.args.capacity c.args.events.now)

pub returns-clause-closed_over : goal.returns-clause-closed_over
returns-clause-closed_over c =
    holds-of_all c.args.capacity c.args.events.now c.loop-event.event-index _ _
    (λ rs. ClosedWhenOver c.args.capacity c.args.events.now rs)
    (omega arith) c.loop-event.invariant.all (closed-when-over c.args.capacity c.args.events.now)

pub returns-clause-closed_made : goal.returns-clause-closed_made
returns-clause-closed_made c =
    holds-of_all c.args.capacity c.args.events.now c.loop-event.event-index _ _
    (λ rs. ClosedWhenMakerOver c.args.capacity c.args.events.now rs)
    (omega arith) c.loop-event.invariant.all (closed-when-maker-over c.args.capacity c.args.events.now)

pub returns-clause-closed_unheld : goal.returns-clause-closed_unheld
returns-clause-closed_unheld c =
    holds-of_all c.args.capacity c.args.events.now c.loop-event.event-index _ _
    (λ rs. UnheldCloses c.args.capacity c.args.events.now rs)
    (omega arith) c.loop-event.invariant.all (unheld-closes c.args.capacity c.args.events.now)

pub returns-clause-created_once : goal.returns-clause-created_once
returns-clause-created_once c =
    holds-of_all c.args.capacity c.args.events.now c.loop-event.event-index _ _
    (λ rs. CreatedOnce c.args.capacity c.args.events.now rs)
    (omega arith) c.loop-event.invariant.all (created-once c.args.capacity c.args.events.now)

pub returns-clause-made_once : goal.returns-clause-made_once
returns-clause-made_once c = made-once c.args.capacity c.args.events.now

pub returns-clause-made_used : goal.returns-clause-made_used
returns-clause-made_used c =
    holds-of_all c.args.capacity c.args.events.now c.loop-event.event-index _ _
    (λ rs. UsedWhenReturned c.args.capacity c.args.events.now rs)
    (omega arith) c.loop-event.invariant.all (used-when-returned c.args.capacity c.args.events.now)

pub returns-clause-input : goal.returns-clause-input
returns-clause-input c = input-in-order c.args.capacity c.args.events.now

pub returns-clause-messages : goal.returns-clause-messages
returns-clause-messages c = messages-in-order c.args.capacity c.args.events.now

pub returns-clause-files : goal.returns-clause-files
returns-clause-files c = files-hold-last c.args.capacity c.args.events.now

pub returns-clause-output : goal.returns-clause-output
returns-clause-output c = output-in-order c.args.capacity c.args.events.now

pub returns-clause-sent : goal.returns-clause-sent
returns-clause-sent c = sent-in-order c.args.capacity c.args.events.now

pub returns-clause-moves : goal.returns-clause-moves
returns-clause-moves c = moves-own c.args.capacity c.args.events.now

pub returns-clause-reads : goal.returns-clause-reads
returns-clause-reads c = reads-take-own c.args.capacity c.args.events.now

pub returns-clause-receives : goal.returns-clause-receives
returns-clause-receives c = receives-take-own c.args.capacity c.args.events.now

pub returns-clause-splices : goal.returns-clause-splices
returns-clause-splices c = splices-pass-on c.args.capacity c.args.events.now

pub returns-clause-cancels : goal.returns-clause-cancels
returns-clause-cancels c =
    holds-of_all c.args.capacity c.args.events.now c.loop-event.event-index _ _
    (λ rs. CancelsMembers c.args.capacity c.args.events.now rs)
    (omega arith) c.loop-event.invariant.all (cancels-members c.args.capacity c.args.events.now)

pub returns-clause-at_once : goal.returns-clause-at_once
returns-clause-at_once c =
    holds-of_all c.args.capacity c.args.events.now c.loop-event.event-index _ _
    (λ rs. CanceledAtOnceExactly c.args.capacity c.args.events.now rs)
    (omega arith) c.loop-event.invariant.all (canceled-at-once-exactly c.args.capacity c.args.events.now)

pub returns-clause-no_canceller : goal.returns-clause-no_canceller
returns-clause-no_canceller c =
    holds-of_all c.args.capacity c.args.events.now c.loop-event.event-index _ _
    (λ rs. NoCancellerExactly c.args.events.now rs)
    (omega arith) c.loop-event.invariant.all (no-canceller-exactly c.args.capacity c.args.events.now)

pub returns-clause-cancellers : goal.returns-clause-cancellers
returns-clause-cancellers c =
    holds-of_all c.args.capacity c.args.events.now c.loop-event.event-index _ _
    (λ rs. CancellersInOrder rs)
    (omega arith) c.loop-event.invariant.all (cancellers-in-order c.args.capacity c.args.events.now)

pub returns-clause-cancel_handles : goal.returns-clause-cancel_handles
returns-clause-cancel_handles c =
    holds-of_all c.args.capacity c.args.events.now c.loop-event.event-index _ _
    (λ rs. HandlesInOrder rs)
    (omega arith) c.loop-event.invariant.all (handles-in-order c.args.capacity c.args.events.now)
