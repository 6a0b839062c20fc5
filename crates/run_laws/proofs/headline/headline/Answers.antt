-- Each law is a lemma over plain events.
use Rattle.run_laws.proofs.Laws.{one-reply-each, refused-exactly, pending-until-reaped, reaped-or-not, hands-back-own, handed-once}
use Rattle.run_laws.proofs.Laws.{dropped-once, refused-where-gone, first-poll-hands, reap-names, kept-until-reaped, canceled-where-asked}
use Rattle.run_laws.proofs.Laws.{waits-behind, starts-free, breaks-with-leader, starts-behind-leader}
use Rattle.run_laws.proofs.Laws.{waits-once-taken, waits-only-taken, starts-after-leader, moves-behind-leader, breaks-chain, completes-in-order}
use Rattle.run_laws.proofs.Laws.{breaks-by-failure, given-once, executed-once, reaped-once, one-own, given-in-order}
use Rattle.run_laws.proofs.Laws.{closed-once, closed-when-released, closed-when-over, closed-when-maker-over, unheld-closes}
use Rattle.run_laws.proofs.Laws.{closed-only, created-once, made-once, made-only, used-when-returned}
use Rattle.run_laws.proofs.Laws.{cancels-members, canceled-at-once-exactly, no-canceller-exactly}
use Rattle.run_laws.proofs.Laws.{cancellers-in-order, handles-in-order}
use Rattle.run_laws.proofs.Laws.{input-in-order, messages-in-order, files-hold-last, output-in-order, sent-in-order}
use Rattle.run_laws.proofs.Laws.{moves-own, reads-take-own, receives-take-own, splices-pass-on}
use Rattle.run_laws.proofs.headline.headline.Goals as goal

pub returns-clause-one_each : goal.returns-clause-one_each
returns-clause-one_each c = one-reply-each

pub returns-clause-refused : goal.returns-clause-refused
returns-clause-refused c = refused-exactly

pub returns-clause-pending : goal.returns-clause-pending
returns-clause-pending c = pending-until-reaped

pub returns-clause-decided : goal.returns-clause-decided
returns-clause-decided c = reaped-or-not

pub returns-clause-handed : goal.returns-clause-handed
returns-clause-handed c = hands-back-own

pub returns-clause-once : goal.returns-clause-once
returns-clause-once c = handed-once

pub returns-clause-dropped : goal.returns-clause-dropped
returns-clause-dropped c = dropped-once

pub returns-clause-gone : goal.returns-clause-gone
returns-clause-gone c = refused-where-gone

pub returns-clause-first : goal.returns-clause-first
returns-clause-first c = first-poll-hands

pub returns-clause-names : goal.returns-clause-names
returns-clause-names c = reap-names

pub returns-clause-kept : goal.returns-clause-kept
returns-clause-kept c = kept-until-reaped

pub returns-clause-canceled : goal.returns-clause-canceled
returns-clause-canceled c = canceled-where-asked

pub returns-clause-breaks : goal.returns-clause-breaks
returns-clause-breaks c = breaks-by-failure

pub returns-clause-once_taken : goal.returns-clause-once_taken
returns-clause-once_taken c = waits-once-taken

pub returns-clause-only_taken : goal.returns-clause-only_taken
returns-clause-only_taken c = waits-only-taken

pub returns-clause-waits : goal.returns-clause-waits
returns-clause-waits c = waits-behind

pub returns-clause-starts : goal.returns-clause-starts
returns-clause-starts c = starts-free

pub returns-clause-behind : goal.returns-clause-behind
returns-clause-behind c = starts-behind-leader

pub returns-clause-broken : goal.returns-clause-broken
returns-clause-broken c = breaks-with-leader

pub returns-clause-after_leader : goal.returns-clause-after_leader
returns-clause-after_leader c = starts-after-leader

pub returns-clause-moves_behind : goal.returns-clause-moves_behind
returns-clause-moves_behind c = moves-behind-leader

pub returns-clause-chain : goal.returns-clause-chain
returns-clause-chain c = breaks-chain

pub returns-clause-chain_order : goal.returns-clause-chain_order
returns-clause-chain_order c = completes-in-order

pub returns-clause-given : goal.returns-clause-given
returns-clause-given c = given-once

pub returns-clause-executed : goal.returns-clause-executed
returns-clause-executed c = executed-once

pub returns-clause-reaped : goal.returns-clause-reaped
returns-clause-reaped c = reaped-once

pub returns-clause-own : goal.returns-clause-own
returns-clause-own c = one-own

pub returns-clause-in_order : goal.returns-clause-in_order
returns-clause-in_order c = given-in-order

pub returns-clause-closed_once : goal.returns-clause-closed_once
returns-clause-closed_once c = closed-once

pub returns-clause-closed_released : goal.returns-clause-closed_released
returns-clause-closed_released c = closed-when-released

pub returns-clause-closed_over : goal.returns-clause-closed_over
returns-clause-closed_over c = closed-when-over

pub returns-clause-closed_made : goal.returns-clause-closed_made
returns-clause-closed_made c = closed-when-maker-over

pub returns-clause-created_once : goal.returns-clause-created_once
returns-clause-created_once c = created-once

pub returns-clause-made_once : goal.returns-clause-made_once
returns-clause-made_once c = made-once

pub returns-clause-made_used : goal.returns-clause-made_used
returns-clause-made_used c = used-when-returned

pub returns-clause-made_alone : goal.returns-clause-made_alone
returns-clause-made_alone c = made-only

pub returns-clause-closed_unheld : goal.returns-clause-closed_unheld
returns-clause-closed_unheld c = unheld-closes

pub returns-clause-closed_only : goal.returns-clause-closed_only
returns-clause-closed_only c = closed-only

pub returns-clause-input : goal.returns-clause-input
returns-clause-input c = input-in-order

pub returns-clause-messages : goal.returns-clause-messages
returns-clause-messages c = messages-in-order

pub returns-clause-files : goal.returns-clause-files
returns-clause-files c = files-hold-last

pub returns-clause-output : goal.returns-clause-output
returns-clause-output c = output-in-order

pub returns-clause-sent : goal.returns-clause-sent
returns-clause-sent c = sent-in-order

pub returns-clause-moves : goal.returns-clause-moves
returns-clause-moves c = moves-own

pub returns-clause-splices : goal.returns-clause-splices
returns-clause-splices c = splices-pass-on

pub returns-clause-reads : goal.returns-clause-reads
returns-clause-reads c = reads-take-own

pub returns-clause-receives : goal.returns-clause-receives
returns-clause-receives c = receives-take-own

pub returns-clause-cancels : goal.returns-clause-cancels
returns-clause-cancels c = cancels-members

pub returns-clause-at_once : goal.returns-clause-at_once
returns-clause-at_once c = canceled-at-once-exactly

pub returns-clause-no_canceller : goal.returns-clause-no_canceller
returns-clause-no_canceller c = no-canceller-exactly

pub returns-clause-cancellers : goal.returns-clause-cancellers
returns-clause-cancellers c = cancellers-in-order

pub returns-clause-handles : goal.returns-clause-handles
returns-clause-handles c = handles-in-order
