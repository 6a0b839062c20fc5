-- What a park of the completion driver does with the sleeper that it is lent. Cited by its `park` and `park_timeout`.
use Rattle.std.specs.Prelude.{◌≡◌, ℕ, Bool, true, List, [], Option, Some, None, ⊤, length, nat_lt}
use Rattle.rent_buf.specs.Buffer.{Buffer}
use Rattle.ring_core.specs.Ring.{RingView}
use Rattle.machine.specs.declared.completion.Completion.{Completion}
use Rattle.wake_core.specs.declared.park.Woken.{Woken}
use Rattle.wake_core.specs.Sleeping.{Sleeping, Waits, is_still}
use Rattle.driver_core.specs.declared.driver.Parked.{Parked}
use Rattle.driver_core.specs.declared.op.Stop.{Stop}
use Rattle.driver_core.specs.declared.op.Stop.TheVariants.{RingFault, Busy, BadCompletion, OutOfMemory}
use Rattle.driver_core.specs.declared.op.Turned.{Turned}
use Rattle.uring_driver.specs.declared.uring.IoUringDriver.{IoUringDriver}
use Rattle.uring_driver.specs.Turned.{TreatsFor, TurnMeets}

-- Nothing was drained.
pub record DrainsNone (remote : Woken) : Type 0 where
  pub first : remote.first ≡ []
  pub again : remote.again ≡ []

-- No step of the sleeper was made, and nothing was drained.
pub record MakesNoRound (old new : Sleeping) (remote : Woken) : Type 0 where
  pub same : new ≡ old
  pub none : DrainsNone remote

-- A round was made: the lists are what its two drains gave. It came to its wait exactly if it wasn't ready and both drains gave nothing, and
-- waited, with this limit, exactly if the sleeper slept then.
pub record MakesRound (ready : Bool) (limit : Option ℕ) (new : Sleeping) (remote : Woken) : Type 0 where
  pub first : new.first ≡ remote.first
  pub again : new.again ≡ remote.again
  pub waits : Waits (is_still ready remote.first remote.again) limit new

-- What a park with this limit did with the sleeper, by why its turn stopped: no round where the turn stopped before it, and no wait where
-- the ring was busy or a completion was bad.
abbrev pub DrainsFor : Option Stop → Option ℕ → Sleeping → Sleeping → Woken → Type 0
DrainsFor (Some RingFault) limit old new remote = MakesNoRound old new remote
DrainsFor (Some OutOfMemory) limit old new remote = MakesNoRound old new remote
DrainsFor (Some Busy) limit old new remote = MakesRound true limit new remote
DrainsFor (Some (BadCompletion word)) limit old new remote = MakesRound true limit new remote
DrainsFor _ limit old new remote = (ready : Bool) × MakesRound ready limit new remote

-- Completions were treated.
abbrev pub has_treated : List Completion → Bool
has_treated taken = nat_lt 0 (length taken)

-- Nothing was at hand in a park: its turn named nobody, and its drains gave nothing.
pub record HadNothing (parked : Parked) : Type 0 where
  pub reaped : parked.turned.reaped ≡ []
  pub closed : parked.turned.closed ≡ []
  pub woken : parked.turned.woken ≡ []
  pub drained : DrainsNone parked.remote

-- When a park with this limit came to its wait, if its turn doesn't stop: exactly if the turn treated no completion, and both drains gave
-- nothing. So where it waited, nothing was at hand. What holds if it stops, `DrainsFor` says.
abbrev pub WaitsFor : {R B : Type 0} → (view : R → RingView) → (tells : Bool) → (old new : IoUringDriver R B) → (turned : Turned) →
    (queued : List ℕ) → (stop : Option Stop) → TreatsFor view tells old new turned queued stop → Option ℕ → Sleeping → Parked → Type 0
WaitsFor view tells old new turned queued None treats limit sleeper parked =
    Waits (is_still (has_treated treats.taken) parked.remote.first parked.remote.again) limit sleeper
    × (sleeper.waited ≡ Some limit → HadNothing parked)
WaitsFor view tells old new turned queued (Some stop) treats limit sleeper parked = ⊤

-- A park with this limit: its turn, and when it came to its wait.
pub record ParksFor {R B : Type 0} (view : R → RingView) (buffer : B → Buffer) (tells steady : Bool) (limit : Option ℕ)
    (old new : IoUringDriver R B) (sleeper : Sleeping) (parked : Parked) : Type 0 where
  pub turns : TurnMeets view buffer tells steady old new parked.turned
  pub waits : WaitsFor view tells old new parked.turned turns.queued parked.turned.stop turns.treats limit sleeper parked
