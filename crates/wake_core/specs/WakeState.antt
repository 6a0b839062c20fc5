-- The wake state as contracts see it, and its twelve kinds of step: when each may be made, and the state after it. Cited by
-- `WakeState` and by the laws over steps.
--
-- In a send, a sender pushes a waker, reads the flag, and sets the token if it read false. In a round, the sleeper drains, clears the
-- flag, drains again, falls asleep, gets up, and sets the flag.
use Rattle.std.specs.Prelude.{◌≡◌, ℕ, ◌+◌, ◌<◌, List, [], ◌∷◌, ◌++◌, length, map, Bool, true, false, ◌&&◌, ◌⊎◌, if◌then◌else◌}
use Rattle.wake_core.specs.declared.senders.SenderStage.{SenderStage}
use Rattle.wake_core.specs.declared.senders.SenderStage.TheVariants.{Idle, Pushed, Called}
use Rattle.wake_core.specs.declared.sleeper.SleeperStage.{SleeperStage}
use Rattle.wake_core.specs.declared.sleeper.SleeperStage.TheVariants.{Awake, First, Cleared, Second, Asleep, Up}
use Rattle.wake_core.specs.declared.state.TheConstants.{MAX_PUSHED, MAX_SENDERS}
use Rattle.wake_core.specs.declared.waker.Waker.{Waker}
use Rattle.wake_core.specs.SenderState.{SenderState, all_drained}
use Rattle.wake_core.specs.SenderTable.{sender_of, with_sender}
use Rattle.wake_core.specs.Waker.{waker}
use Rattle.wake_core.specs.WakerList.{is_empty}

-- a wake state
pub record Wake : Type 0 where
  -- the wakers that wait to be drained, in the order of their pushes
  pub queue : List Waker
  -- true: the sleeper is awake, and senders need not wake it
  pub flag : Bool
  -- true: the sleeper is to wake
  pub token : Bool
  -- the senders by number
  pub senders : List SenderState
  -- the total of the ledger of pushes
  pub pushes : ℕ
  -- the total of the ledger of drains
  pub drains : ℕ
  -- how far the sleeper is in its round
  pub stage : SleeperStage

-- the first state: the sleeper is awake, nothing waits, and no sender pushed anything
abbrev pub first_wake : Wake
first_wake = record { queue = []; flag = true; token = false; senders = []; pushes = 0; drains = 0; stage = Awake }

-- a sender may push if it is idle, its number is below `MAX_SENDERS`, and it pushed fewer than `MAX_PUSHED` wakers
pub record CanPush (state : Wake) (sender : ℕ) : Type 0 where
  pub numbered : sender < MAX_SENDERS
  pub idle : (sender_of state.senders sender).stage ≡ Idle
  pub room : (sender_of state.senders sender).pushed < MAX_PUSHED

-- the waker that a push of this task makes: it has the sender's next number
abbrev pub next_waker : Wake → ℕ → ℕ → Waker
next_waker state sender task = waker sender (sender_of state.senders sender).pushed task

-- a push puts that waker at the queue's end, makes the sender Pushed, and counts one more push
abbrev pub after_push : Wake → ℕ → ℕ → Wake
after_push state sender task =
    let known = sender_of state.senders sender in
    record state {
      queue = state.queue ++ next_waker state sender task ∷ [];
      senders = with_sender state.senders sender (record known { stage = Pushed; pushed = known.pushed + 1 });
      pushes = state.pushes + 1;
    }

-- the state in which this sender is at this stage
abbrev pub with_sender_at : Wake → ℕ → SenderStage → Wake
with_sender_at state sender to =
    let known = sender_of state.senders sender in
    record state { senders = with_sender state.senders sender (record known { stage = to }) }

-- a sender may read the flag if it is at Pushed
abbrev pub CanReadFlag : Wake → ℕ → Type 0
CanReadFlag state sender = (sender_of state.senders sender).stage ≡ Pushed

-- a sender that reads true is idle again, and one that reads false goes to Called
abbrev pub after_read_flag : Wake → ℕ → Wake
after_read_flag state sender = with_sender_at state sender (if state.flag then Idle else Called)

-- a sender may set the token if it is at Called
abbrev pub CanSetToken : Wake → ℕ → Type 0
CanSetToken state sender = (sender_of state.senders sender).stage ≡ Called

-- then the token is set, and the sender is idle again
abbrev pub after_set_token : Wake → ℕ → Wake
after_set_token state sender = let idle = with_sender_at state sender Idle in record idle { token = true }

-- a nudge, which may be made at any time, sets the token if the flag is false
abbrev pub after_nudge : Wake → Wake
after_nudge state = record state { token = if state.flag then state.token else true }

-- a drain, which may be made at any time, empties the queue: each sender's wakers are all drained, and counted as drains
abbrev pub after_drain_rest : Wake → Wake
after_drain_rest state = record state { queue = []; senders = map all_drained state.senders; drains = state.drains + length state.queue }

-- the state in which the sleeper is at this stage
abbrev pub at_stage : Wake → SleeperStage → Wake
at_stage state to = record state { stage = to }

-- the first drain of a round may be made in Awake
abbrev pub CanDrainFirst : Wake → Type 0
CanDrainFirst state = state.stage ≡ Awake

-- the first drain is a drain, and the sleeper goes to First, which says whether the drain gave nothing
abbrev pub after_drain_first : Wake → Wake
after_drain_first state = at_stage (after_drain_rest state) (First (is_empty state.queue))

-- the flag may be cleared in First if the first drain gave nothing
abbrev pub CanClearFlag : Wake → Type 0
CanClearFlag state = state.stage ≡ First true

-- then the flag is false, and the sleeper goes to Cleared
abbrev pub after_clear_flag : Wake → Wake
after_clear_flag state = record state { flag = false; stage = Cleared }

-- the second drain of a round may be made in First if the first gave something, and in Cleared
abbrev pub CanDrainAgain : Wake → Type 0
CanDrainAgain state = (state.stage ≡ First false) ⊎ (state.stage ≡ Cleared)

-- whether the first drain of this round gave nothing, at a stage between the two
abbrev pub first_gave_nothing : SleeperStage → Bool
first_gave_nothing Awake = false
first_gave_nothing (First empty) = empty
first_gave_nothing Cleared = true
first_gave_nothing (Second empty) = false
first_gave_nothing Asleep = false
first_gave_nothing Up = false

-- the second drain is a drain, and the sleeper goes to Second, which says whether both drains gave nothing
abbrev pub after_drain_again : Wake → Wake
after_drain_again state = at_stage (after_drain_rest state) (Second (first_gave_nothing state.stage && is_empty state.queue))

-- the sleeper may fall asleep in Second if both drains gave nothing
abbrev pub CanFallAsleep : Wake → Type 0
CanFallAsleep state = state.stage ≡ Second true

-- then the sleeper goes to Asleep
abbrev pub after_fall_asleep : Wake → Wake
after_fall_asleep state = at_stage state Asleep

-- the token may be taken in Asleep
abbrev pub CanTakeToken : Wake → Type 0
CanTakeToken state = state.stage ≡ Asleep

-- if the token is set, it is cleared and the sleeper goes to Up; else all stays
abbrev pub after_take_token : Wake → Wake
after_take_token state = record state { token = false; stage = if state.token then Up else state.stage }

-- the sleeper may be roused in Asleep
abbrev pub CanRouse : Wake → Type 0
CanRouse state = state.stage ≡ Asleep

-- then the sleeper goes to Up, and the token stays
abbrev pub after_rouse : Wake → Wake
after_rouse state = at_stage state Up

-- the flag may be set in Up, and in Second if a drain gave something
abbrev pub CanSetFlag : Wake → Type 0
CanSetFlag state = (state.stage ≡ Up) ⊎ (state.stage ≡ Second false)

-- then the flag is true, and the sleeper is awake
abbrev pub after_set_flag : Wake → Wake
after_set_flag state = record state { flag = true; stage = Awake }
