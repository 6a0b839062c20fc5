-- Under which group a readiness session submits a request. Cited by `ReadySession`.
use Rattle.std.specs.Prelude.{ℕ, ◌≡◌, ◌≤◌, length, Option, Some, Result, Ok, Err}
use Rattle.machine.specs.declared.ledger.Refusal.{Refusal}
use Rattle.machine.specs.declared.ledger.Refusal.TheVariants.{NoCanceller}
use Rattle.driver_core.specs.Answers.{IsUnder}
use Rattle.ready_driver.specs.Legacy.{Legacy, seen}

-- A request is submitted under a cancel handle that was never created.
pub record IsUnmade (D : Legacy) (under : Option ℕ) : Type 0 where
  pub handle : ℕ
  pub under_is : under ≡ Some handle
  pub past : length D.cancel_handles ≤ handle

-- The group that a request is submitted under, or none; or the cancel handle was never created.
abbrev pub FindsFor : Legacy → Option ℕ → Result (Option ℕ) Refusal → Type 0
FindsFor D under (Ok group) = IsUnder (seen D) group under
FindsFor D under (Err refusal) = (refusal ≡ NoCanceller) × IsUnmade D under
