-- The laws of whole runs, each by its name, for whoever cites them.
use Rattle.std.proofs.Common.{ℕ, List}
use Rattle.machine.specs.declared.ledger.Event.{Event}
use Rattle.machine.specs.Ledger.{empty}
use Rattle.machine.specs.Run.{replies}
use Rattle.run_laws.specs.Headline.{OneReplyEach}
use Rattle.run_laws.proofs.Replies.{length-replies}
pub use Rattle.run_laws.proofs.Replies.{refused-exactly}
pub use Rattle.run_laws.proofs.Numbers.{given-in-order}
pub use Rattle.run_laws.proofs.Executing.{breaks-by-failure}
pub use Rattle.run_laws.proofs.Waiting.{waits-behind, starts-free, breaks-with-leader, starts-behind-leader}
pub use Rattle.run_laws.proofs.Starting.{waits-once-taken, waits-only-taken, starts-after-leader, moves-behind-leader}
pub use Rattle.run_laws.proofs.Breaking.{breaks-chain, completes-in-order}
pub use Rattle.run_laws.proofs.Polls.{pending-until-reaped, reaped-or-not, hands-back-own, given-once, executed-once, reaped-once, one-own}
pub use Rattle.run_laws.proofs.Once.{handed-once, dropped-once, refused-where-gone, first-poll-hands}
pub use Rattle.run_laws.proofs.Ends.{reap-names, kept-until-reaped, canceled-where-asked}
pub use Rattle.run_laws.proofs.Closed.{closed-once, closed-when-released, unheld-closes, closed-only}
pub use Rattle.run_laws.proofs.Over.{closed-when-over, closed-when-maker-over}
pub use Rattle.run_laws.proofs.Made.{made-once, made-only}
pub use Rattle.run_laws.proofs.Handles.{created-once}
pub use Rattle.run_laws.proofs.Used.{used-when-returned}
pub use Rattle.run_laws.proofs.Bytes.{input-in-order, messages-in-order, files-hold-last, output-in-order, sent-in-order}
pub use Rattle.run_laws.proofs.Bytes.{moves-own, reads-take-own, receives-take-own, splices-pass-on}
pub use Rattle.run_laws.proofs.Counting.{cancellers-in-order, handles-in-order}
pub use Rattle.run_laws.proofs.Created.{no-canceller-exactly}
pub use Rattle.run_laws.proofs.AtOnce.{canceled-at-once-exactly}
pub use Rattle.run_laws.proofs.Canceled.{cancels-members}

-- There are as many replies as events.
pub one-reply-each : (capacity : ℕ) (events : List Event) → OneReplyEach events (replies (empty capacity) events)
one-reply-each capacity events = length-replies (empty capacity) events
