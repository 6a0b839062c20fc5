-- What a park of a readiness driver does, whichever way its round looked out.
use Rattle.std.proofs.Common.{◌≡◌, ℕ, Bool, Option, Some, inl, inr}
use Rattle.std.specs.Prelude.{IfNone}
use Rattle.rent_buf.specs.Buffer.{Buffer}
use Rattle.machine.specs.Ledger.{Ledger}
use Rattle.wake_core.specs.declared.park.Woken.{Woken}
use Rattle.wake_core.specs.Sleeping.{Sleeping, LooksOut, is_still, limit_of}
use Rattle.driver_core.specs.declared.op.Turned.{Turned}
use Rattle.ready_driver.specs.Io.{IoView}
use Rattle.ready_driver.specs.LegacyState.{LegacyState, KeepsRequests}
use Rattle.ready_driver.specs.LegacyTurns.{LegacyTurns, LooksWithin, ShowsLedger, WalksSleeper}

module _ {I B : Type 0} (view : I → IoView) (buffer : B → Buffer) (tells reporting memory : Bool) (still : Bool) (limit : Option ℕ)
    (sleeper : Sleeping) (old new : LegacyState I B) (turned : Turned) where
  -- The round looked out once, with some limit.
  looked : LooksOut (LooksWithin view buffer tells reporting memory) still limit sleeper old new turned →
      (asked : Option ℕ) × LooksWithin view buffer tells reporting memory old asked new turned
  looked (inl is) = (limit_of sleeper.waited, is.1)
  looked (inr is) = (Some 0, is.1)

  -- So it is a turn,
  pub looks_turns : LooksOut (LooksWithin view buffer tells reporting memory) still limit sleeper old new turned →
      LegacyTurns view tells reporting memory old new turned
  looks_turns is = (looked is).1.turns

  -- keeps the requests,
  pub looks_keeps : LooksOut (LooksWithin view buffer tells reporting memory) still limit sleeper old new turned → KeepsRequests old new
  looks_keeps is = (looked is).1.keeps

  -- and leads to the ledger that the driver stood for.
  pub looks_stands : LooksOut (LooksWithin view buffer tells reporting memory) still limit sleeper old new turned →
      IfNone turned.stop ((L : Ledger) → ShowsLedger view buffer memory old L → ShowsLedger view buffer memory new L)
  looks_stands is = (looked is).1.stands

-- A round that looked out is one as the driver's parks make it.
pub looks_walks : {L S : Type 0} (looked : L → Option ℕ → L → S → Type 0) (ready : Bool) (limit : Option ℕ) (sleeper : Sleeping)
    (remote : Woken) (old new : L) (sight : S) → (sleeper.first ≡ remote.first) × (sleeper.again ≡ remote.again) →
    LooksOut looked (is_still ready remote.first remote.again) limit sleeper old new sight → WalksSleeper limit sleeper remote
looks_walks looked ready limit sleeper remote old new sight given (inl is) =
    record { first = given.0; again = given.1; ready = ready; waits = inl is.0 }
looks_walks looked ready limit sleeper remote old new sight given (inr is) =
    record { first = given.0; again = given.1; ready = ready; waits = inr is.0 }
