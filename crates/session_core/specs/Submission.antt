-- Under which group a session submits a request. Cited by `Session`.
use Rattle.std.specs.Prelude.{ℕ, ◌≡◌, ◌≤◌, length, Option, Some, Result, Ok, Err}
use Rattle.machine.specs.declared.ledger.Event.{Event}
use Rattle.machine.specs.declared.ledger.Event.TheVariants.{Submit}
use Rattle.machine.specs.declared.ledger.Refusal.{Refusal}
use Rattle.machine.specs.declared.ledger.Refusal.TheVariants.{NoCanceller}
use Rattle.machine.specs.Ledger.{Ledger}
use Rattle.driver_core.specs.Answers.{IsUnder}

-- A request is submitted under a cancel handle that was never created.
pub record IsUnmade (L : Ledger) (under : Option ℕ) : Type 0 where
  pub handle : ℕ
  pub under_is : under ≡ Some handle
  pub past : length L.cancel_handles ≤ handle

-- The group that a request is submitted under, or none; or the cancel handle was never created.
abbrev pub FindsFor : Ledger → Option ℕ → Result (Option ℕ) Refusal → Type 0
FindsFor L under (Ok group) = IsUnder L group under
FindsFor L under (Err refusal) = (refusal ≡ NoCanceller) × IsUnmade L under

-- The event submits a request.
abbrev pub IsSubmit : Event → Type 0
IsSubmit (Submit request under linked) = Unit {0}
IsSubmit _ = ⊥
