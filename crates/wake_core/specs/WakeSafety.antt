-- Wake safety: what holds of every wake state, so that a sleeper doesn't sleep on while a waker waits for it. It is the invariant of
-- `WakeState`, and `WakeState::is_safe` shows it.
use Rattle.std.specs.Prelude.{◌≡◌, ℕ, ◌<◌, ◌≤◌, List, length, All, Bool, true, false, ⊤, ◌⊎◌}
use Rattle.wake_core.specs.declared.senders.SenderStage.{SenderStage}
use Rattle.wake_core.specs.declared.senders.SenderStage.TheVariants.{Idle, Pushed, Called}
use Rattle.wake_core.specs.declared.sleeper.SleeperStage.{SleeperStage}
use Rattle.wake_core.specs.declared.sleeper.SleeperStage.TheVariants.{Awake, First, Cleared, Second, Asleep, Up}
use Rattle.wake_core.specs.declared.state.TheConstants.{MAX_PUSHED, MAX_SENDERS}
use Rattle.wake_core.specs.declared.waker.Waker.{Waker}
use Rattle.wake_core.specs.SenderState.{SenderState}
use Rattle.wake_core.specs.SenderTable.{sender_of, total_pushed, total_drained}
use Rattle.wake_core.specs.WakerList.{wakers_of, numbers_of, numbers_between}
use Rattle.wake_core.specs.WakeState.{Wake}

-- the flag is true in Awake and First, and false in Cleared, Second(true), Asleep and Up
abbrev pub FlagFits : SleeperStage → Bool → Type 0
FlagFits Awake flag = flag ≡ true
FlagFits (First empty) flag = flag ≡ true
FlagFits Cleared flag = flag ≡ false
FlagFits (Second true) flag = flag ≡ false
FlagFits (Second false) flag = ⊤
FlagFits Asleep flag = flag ≡ false
FlagFits Up flag = flag ≡ false

-- the sleeper sleeps, or may fall asleep at once: Second(true) and Asleep
abbrev pub MaySleep : SleeperStage → Type 0
MaySleep Awake = ⊥
MaySleep (First empty) = ⊥
MaySleep Cleared = ⊥
MaySleep (Second true) = ⊤
MaySleep (Second false) = ⊥
MaySleep Asleep = ⊤
MaySleep Up = ⊥

-- a sender is between its push and the end of its send: Pushed and Called
abbrev pub IsMidSend : SenderStage → Type 0
IsMidSend Idle = ⊥
IsMidSend Pushed = ⊤
IsMidSend Called = ⊤

-- each waker in the queue is from a sender at Pushed or Called, and no sender has two there
pub record AreMidSend (queue : List Waker) (senders : List SenderState) : Type 0 where
  pub each : All (λ (w : Waker). IsMidSend (sender_of senders w.sender).stage) queue
  pub none_twice : (number : ℕ) → length (wakers_of number queue) ≤ 1

-- the numbers of this sender's wakers in the queue run, in order, from its drained count to its pushed count less one
pub record RunsOn (queue : List Waker) (number : ℕ) (sender : SenderState) : Type 0 where
  pub within : sender.drained ≤ sender.pushed
  pub numbers : numbers_of number queue ≡ numbers_between sender.drained sender.pushed

-- each waker names a sender below `MAX_SENDERS`, and no pushed count passes `MAX_PUSHED`
pub record IsWithinLimits (queue : List Waker) (senders : List SenderState) : Type 0 where
  pub numbered : All (λ (w : Waker). w.sender < MAX_SENDERS) queue
  pub counted : (number : ℕ) → (sender_of senders number).pushed ≤ MAX_PUSHED

-- the total of the ledger of pushes is the sum of the pushed counts, and that of drains is the sum of the drained counts
pub record IsBooked (senders : List SenderState) (pushes drains : ℕ) : Type 0 where
  pub all_pushes : pushes ≡ total_pushed senders
  pub all_drains : drains ≡ total_drained senders

-- while the sleeper sleeps, the token is set, or the sender of each waker in the queue is between its push and the end of its send
abbrev pub IsTold : Wake → Type 0
IsTold state =
    state.stage ≡ Asleep → (state.token ≡ true) ⊎ All (λ (w : Waker). IsMidSend (sender_of state.senders w.sender).stage) state.queue

-- wake safety, in five parts
pub record WakeSafety (state : Wake) : Type 0 where
  -- the flag is true in Awake and First, and false in Cleared, Second(true), Asleep and Up
  pub flag_fits : FlagFits state.stage state.flag
  -- in Second(true) and Asleep, where the token isn't set, each waker in the queue is from a sender at Pushed or Called, and no
  -- sender has two there
  pub none_slept_over : MaySleep state.stage → state.token ≡ false → AreMidSend state.queue state.senders
  -- the numbers of each sender's wakers in the queue run, in order, from its drained count to its pushed count less one
  pub numbers_run_on : (number : ℕ) → RunsOn state.queue number (sender_of state.senders number)
  -- each waker names a sender below `MAX_SENDERS`, and no pushed count passes `MAX_PUSHED`
  pub within_limits : IsWithinLimits state.queue state.senders
  -- the total of the ledger of pushes is the sum of the pushed counts, and that of drains is the sum of the drained counts
  pub booked : IsBooked state.senders state.pushes state.drains
