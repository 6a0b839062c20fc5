-- The twelve kinds of step as data, lists of steps, and what is claimed of them. Cited by the laws of `law`.
use Rattle.std.specs.Prelude.{◌≡◌, ℕ, List, [], ◌∷◌, ◌++◌, ⊤}
use Rattle.wake_core.specs.declared.waker.Waker.{Waker}
use Rattle.wake_core.specs.SenderTable.{sender_of}
use Rattle.wake_core.specs.WakerList.{wakers_of, numbers_of, numbers_between}
use Rattle.wake_core.specs.WakeState.{Wake, first_wake, CanPush, next_waker, after_push, CanReadFlag, after_read_flag, CanSetToken}
use Rattle.wake_core.specs.WakeState.{after_set_token, after_nudge, CanDrainFirst, after_drain_first, CanClearFlag, after_clear_flag}
use Rattle.wake_core.specs.WakeState.{CanDrainAgain, after_drain_again, CanFallAsleep, after_fall_asleep, CanTakeToken, after_take_token}
use Rattle.wake_core.specs.WakeState.{CanRouse, after_rouse, CanSetFlag, after_set_flag, after_drain_rest}

-- a step
pub data Step : Type 0 where
  -- the sender with this number pushes a waker for this task
  Push : ℕ → ℕ → Step
  -- the sender with this number reads the flag
  ReadFlag : ℕ → Step
  -- the sender with this number sets the token
  SetToken : ℕ → Step
  -- an `UnparkHandle` unparks the sleeper
  Nudge : Step
  -- the sleeper makes these, in this order, in a round
  DrainFirst : Step
  ClearFlag : Step
  DrainAgain : Step
  FallAsleep : Step
  TakeToken : Step
  Rouse : Step
  SetFlag : Step
  -- a drain at any stage
  DrainRest : Step

-- the step may be made in this state
abbrev pub Admits : Wake → Step → Type 0
Admits state (Push sender task) = CanPush state sender
Admits state (ReadFlag sender) = CanReadFlag state sender
Admits state (SetToken sender) = CanSetToken state sender
Admits state Nudge = ⊤
Admits state DrainFirst = CanDrainFirst state
Admits state ClearFlag = CanClearFlag state
Admits state DrainAgain = CanDrainAgain state
Admits state FallAsleep = CanFallAsleep state
Admits state TakeToken = CanTakeToken state
Admits state Rouse = CanRouse state
Admits state SetFlag = CanSetFlag state
Admits state DrainRest = ⊤

-- the state after the step
abbrev pub after : Wake → Step → Wake
after state (Push sender task) = after_push state sender task
after state (ReadFlag sender) = after_read_flag state sender
after state (SetToken sender) = after_set_token state sender
after state Nudge = after_nudge state
after state DrainFirst = after_drain_first state
after state ClearFlag = after_clear_flag state
after state DrainAgain = after_drain_again state
after state FallAsleep = after_fall_asleep state
after state TakeToken = after_take_token state
after state Rouse = after_rouse state
after state SetFlag = after_set_flag state
after state DrainRest = after_drain_rest state

-- the wakers that the step puts in the queue
abbrev pub pushed_by : Wake → Step → List Waker
pushed_by state (Push sender task) = next_waker state sender task ∷ []
pushed_by state _ = []

-- the wakers that the step gives out: a drain gives all that wait
abbrev pub drained_by : Wake → Step → List Waker
drained_by state DrainFirst = state.queue
drained_by state DrainAgain = state.queue
drained_by state DrainRest = state.queue
drained_by state _ = []

-- each of these steps may be made in the state that those before it leave
abbrev pub AdmitsAll : Wake → List Step → Type 0
AdmitsAll state [] = ⊤
AdmitsAll state (step ∷ steps) = Admits state step × AdmitsAll (after state step) steps

-- the state after these steps
abbrev pub after_all : Wake → List Step → Wake
after_all state [] = state
after_all state (step ∷ steps) = after_all (after state step) steps

-- the wakers that these steps put in the queue, in order
abbrev pub pushed_by_all : Wake → List Step → List Waker
pushed_by_all state [] = []
pushed_by_all state (step ∷ steps) = pushed_by state step ++ pushed_by_all (after state step) steps

-- the wakers that these steps give out, in order
abbrev pub drained_by_all : Wake → List Step → List Waker
drained_by_all state [] = []
drained_by_all state (step ∷ steps) = drained_by state step ++ drained_by_all (after state step) steps

-- from the first state on, each waker comes out of the drains once and in order: of each sender, what the drains gave and what
-- still waits is what it pushed, with the numbers 0, 1, 2 and so on
pub record EachWakerOnce (steps : List Step) (sender : ℕ) : Type 0 where
  pub wakers : wakers_of sender (drained_by_all first_wake steps) ++ wakers_of sender (after_all first_wake steps).queue
      ≡ wakers_of sender (pushed_by_all first_wake steps)
  pub numbers : numbers_of sender (drained_by_all first_wake steps) ++ numbers_of sender (after_all first_wake steps).queue
      ≡ numbers_between 0 (sender_of (after_all first_wake steps).senders sender).pushed

-- from any wake-safe state on: what the drains gave and what still waits is what waited at first and what was pushed, in that
-- order, and the numbers of each sender's wakers among these run on from its drained count
pub record KeepsOrder (state : Wake) (steps : List Step) : Type 0 where
  pub wakers : drained_by_all state steps ++ (after_all state steps).queue ≡ state.queue ++ pushed_by_all state steps
  pub numbers : (sender : ℕ) → numbers_of sender (drained_by_all state steps ++ (after_all state steps).queue)
      ≡ numbers_between (sender_of state.senders sender).drained (sender_of (after_all state steps).senders sender).pushed
