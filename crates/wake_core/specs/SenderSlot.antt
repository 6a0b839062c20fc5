-- What the table keeps of a sender, and what it says of the sender beside the queue. Cited by the view of `WakeState`.
use Rattle.std.specs.Prelude.{ℕ, ◌+◌, ◌-◌, Bool, List, [], ◌∷◌, length}
use Rattle.wake_core.specs.declared.senders.SenderSlot.{SenderSlot}
use Rattle.wake_core.specs.declared.senders.SenderStage.TheVariants.{Idle}
use Rattle.wake_core.specs.declared.sleeper.SleeperStage.{SleeperStage}
use Rattle.wake_core.specs.declared.waker.Waker.{Waker}
use Rattle.wake_core.specs.SenderState.{SenderState}
use Rattle.wake_core.specs.WakerList.{wakers_of}
use Rattle.wake_core.specs.WakeState.{Wake}

-- a sender that pushed nothing yet
abbrev pub new_slot : SenderSlot
new_slot = record { stage = Idle; pushed = 0 }

-- the sender with this number: of what it pushed, all that doesn't wait in the queue was drained
abbrev pub state_of : List Waker → ℕ → SenderSlot → SenderState
state_of queue number slot = record { stage = slot.stage; pushed = slot.pushed; drained = slot.pushed - length (wakers_of number queue) }

-- the senders from this number on
abbrev pub states_from : List Waker → ℕ → List SenderSlot → List SenderState
states_from queue number [] = []
states_from queue number (slot ∷ rest) = state_of queue number slot ∷ states_from queue (number + 1) rest

-- all senders
abbrev pub states_of : List Waker → List SenderSlot → List SenderState
states_of queue slots = states_from queue 0 slots

-- what contracts see of a wake state that keeps these parts
abbrev pub seen : List Waker → Bool → Bool → List SenderSlot → ℕ → ℕ → SleeperStage → Wake
seen queue flag token slots pushes drains stage = record {
  queue = queue;
  flag = flag;
  token = token;
  senders = states_of queue slots;
  pushes = pushes;
  drains = drains;
  stage = stage;
}
