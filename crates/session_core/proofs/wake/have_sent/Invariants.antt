use Rattle.std.proofs.Common.{◌≡◌, ◌*◌, take}
use Rattle.wake_core.specs.Remote.{sent_by}
use Rattle.session_core.proofs.wake.have_sent.Given as goal

-- Those that were looked at have sent so many each.
abbrev pub invariant-loop-sender : goal.invariant-loop-sender
invariant-loop-sender g l = sent_by (take l.sender-index l.senders) ≡ l.sender-index * l.count
