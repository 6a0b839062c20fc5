use Rattle.std.proofs.Common.{◌≡◌, ◌+◌, ◌*◌, ◌≤◌, length, vec_len}
use Rattle.wake_core.specs.declared.state.TheConstants.{MAX_PUSHED}
use Rattle.wake_core.specs.Remote.{sent_by}
use Rattle.wake_core.proofs.remote.gather.Given as goal

-- what is gathered, then what is left to gather, is the same all along
abbrev pub invariant-loop-sender : goal.invariant-loop-sender
invariant-loop-sender g l = record {
  parts : l.all.parts + length l.senders.items ≡ l.initial.all.parts + length l.initial.senders.items;
  amount : l.all.amount + sent_by l.senders.items ≡ l.initial.all.amount + sent_by l.initial.senders.items;
  total : l.total + sent_by l.senders.items ≡ sent_by l.initial.senders.items;
  bound : l.total ≤ l.all.parts * MAX_PUSHED;
}

abbrev pub decreases-loop-sender : goal.decreases-loop-sender
decreases-loop-sender g l = vec_len l.senders
