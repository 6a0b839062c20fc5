-- What contracts see of a sleeper. Cited by `Sleeper` and by the drivers that park it.
use Rattle.std.specs.Prelude.{ℕ, ◌≡◌, ◌⊎◌, ◌&&◌, not, min, Bool, true, List, [], Option, Some, None, is_some}
use Rattle.wake_core.specs.declared.park.TheConstants.{MOST_MILLIS}
use Rattle.wake_core.specs.declared.waker.Waker.{Waker}
use Rattle.wake_core.specs.WakerList.{is_empty}

-- a sleeper
pub record Sleeping : Type 0 where
  -- how many senders it made
  pub made : ℕ
  -- how many wakers all its drains gave
  pub taken : ℕ
  -- what the first drain of its last round gave
  pub first : List Waker
  -- what the second drain of its last round gave
  pub again : List Waker
  -- what the drain of its last `settle` gave
  pub rest : List Waker
  -- whether it slept, with the token not set, when its last round came to its wait: `None` if the round came to none
  pub asleep : Option Bool
  -- the limit in milliseconds that its last round waited with: `None` if it didn't wait, `Some None` if it waited without a limit
  pub waited : Option (Option ℕ)

-- a sleeper that made no sender and drained nothing yet
abbrev pub new_sleeper : Sleeping
new_sleeper = record { made = 0; taken = 0; first = []; again = []; rest = []; asleep = None; waited = None }

-- nothing stands: who parks isn't ready, and both drains gave nothing
abbrev pub is_still : Bool → List Waker → List Waker → Bool
is_still ready first again = not ready && (is_empty first && is_empty again)

-- the limit that a round waited with, if the sleeper slept when it came to its wait
abbrev pub waited_if : Option Bool → Option ℕ → Option (Option ℕ)
waited_if (Some true) limit = Some limit
waited_if _ limit = None

-- a round came to its wait exactly where nothing stands, and waited, with this limit, exactly if the sleeper slept then
pub record Waits (still : Bool) (limit : Option ℕ) (new : Sleeping) : Type 0 where
  pub comes : is_some new.asleep ≡ still
  pub waited : new.waited ≡ waited_if new.asleep limit

-- the limit of a look, by the wait that it was: a look that was no wait has the limit 0
abbrev pub limit_of : Option (Option ℕ) → Option ℕ
limit_of None = Some 0
limit_of (Some limit) = limit

-- the limit of a wait beside what has no bell: `MOST_MILLIS` at most
abbrev pub at_most_one : Option ℕ → ℕ
at_most_one None = MOST_MILLIS
at_most_one (Some millis) = min millis MOST_MILLIS

-- a round looked out once. Where the lookout has a bell the round waited in it, with the whole limit, if it waited. Else it waited beside
-- it, and looked out behind that without a wait
abbrev pub LooksOut : {L S : Type 0} → (L → Option ℕ → L → S → Type 0) → Bool → Option ℕ → Sleeping → L → L → S → Type 0
LooksOut looked still limit sleeper old new sight =
    (Waits still limit sleeper × looked old (limit_of sleeper.waited) new sight)
    ⊎ (Waits still (Some (at_most_one limit)) sleeper × looked old (Some 0) new sight)
