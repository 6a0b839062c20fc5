-- What contracts see of one sender. Cited by the table of senders and by the steps of the wake state.
use Rattle.std.specs.Prelude.{ℕ}
use Rattle.wake_core.specs.declared.senders.SenderStage.{SenderStage}
use Rattle.wake_core.specs.declared.senders.SenderStage.TheVariants.{Idle}

-- a sender, in the wake state
pub record SenderState : Type 0 where
  -- how far it is in its send
  pub stage : SenderStage
  -- how many wakers it pushed: its pushed count
  pub pushed : ℕ
  -- how many of these came out of drains: its drained count
  pub drained : ℕ

-- a sender that pushed nothing yet: it is idle, with both counts 0
abbrev pub new_sender : SenderState
new_sender = record { stage = Idle; pushed = 0; drained = 0 }

-- the sender once the drains have given out all that it pushed
abbrev pub all_drained : SenderState → SenderState
all_drained sender = record sender { drained = sender.pushed }
