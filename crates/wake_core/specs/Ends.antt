-- What contracts see of the ends: what a sender and a sleeper each keep for themselves between locks. Cited by `locked`.
use Rattle.std.specs.Prelude.{ℕ, List, [], Option, Some, None, Bool, true, false}
use Rattle.wake_core.specs.declared.locked.sender.SendDue.{SendDue}
use Rattle.wake_core.specs.declared.locked.sender.SendDue.TheVariants.{Nothing, SetToken}
use Rattle.wake_core.specs.declared.locked.sleeper.RoundDue.{RoundDue}
use Rattle.wake_core.specs.declared.locked.sleeper.RoundDue.TheVariants.{DrainFirst}
use Rattle.wake_core.specs.declared.waker.Waker.{Waker}
use Rattle.wake_core.specs.Sleeping.{waited_if}

-- a sender's end
pub record Sending : Type 0 where
  -- its number among the senders of its sleeper
  pub number : ℕ
  -- how many wakers it pushed
  pub sent : ℕ
  -- the task of the last one
  pub last : Option ℕ
  -- what it is to do next
  pub due : SendDue

-- what a sender is to do once it read the flag: nothing if that ended its send, else to set the token
abbrev pub due_after : Bool → SendDue
due_after true = Nothing
due_after false = SetToken

-- a sleeper's end
pub record Draining : Type 0 where
  -- how many wakers all its drains gave
  pub taken : ℕ
  -- what the first drain of its last round gave
  pub first : List Waker
  -- what the second drain of its last round gave
  pub again : List Waker
  -- what the drain of its last `settle` gave
  pub rest : List Waker
  -- whether it slept, with the token not set, when its last round came to its wait: `None` if the round came to none
  pub asleep : Option Bool
  -- the limit in milliseconds that its last round waited with: `None` if it didn't wait, `Some None` if it waited without a limit
  pub waited : Option (Option ℕ)
  -- whether a bell hangs for the round that it is in
  pub hung : Bool
  -- what it is to do next
  pub due : RoundDue

-- the end of a sleeper that drained nothing yet
abbrev pub new_draining : Draining
new_draining = record { taken = 0; first = []; again = []; rest = []; asleep = None; waited = None; hung = false; due = DrainFirst }

-- an end whose round came to its wait: it waited with this limit, if the sleeper slept
abbrev pub came_to_wait : Draining → Bool → Option ℕ → Draining
came_to_wait end asleep limit = record end { asleep = Some asleep; waited = waited_if (Some asleep) limit }
