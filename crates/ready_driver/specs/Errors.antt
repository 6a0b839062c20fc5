-- Why a poll returns an error, over every object. Cited by the polls of `LegacyDriver`, and by those that it stands on.
use Rattle.std.specs.Prelude.{ℕ, suc, ◌≡◌, ◌⊎◌, true, Option, Result, Ok, Err}
use Rattle.std.specs.FinMap as map
use Rattle.rent_buf.specs.Counts.{Rose}
use Rattle.rent_buf.specs.declared.fault.OutOfMemory.{OutOfMemory}
use Rattle.handle_core.specs.Table.{Table}
use Rattle.machine.specs.declared.request.TheConstants.{CANCELED}
use Rattle.machine.specs.declared.request.Outcome.{Outcome}
use Rattle.machine.specs.declared.request.Outcome.TheVariants.{Count, From, Made, Fail}
use Rattle.machine.specs.declared.world.call.TheConstants.{INVALID}
use Rattle.driver_core.specs.declared.op.Op.{Op}
use Rattle.driver_core.specs.declared.op.PollOp.{PollOp}
use Rattle.driver_core.specs.declared.op.PollOp.TheVariants.{Pending, Ready}
use Rattle.driver_core.specs.declared.slot.Slot.{Slot}
use Rattle.ready_driver.specs.Io.{IoView, FailRose, made_after}
use Rattle.ready_driver.specs.LegacyState.{LegacyState}
use Rattle.ready_driver.specs.Named.{IsCompleted}
use Rattle.ready_driver.specs.Registry.{is_old}

-- The object counted how a call ended: that it failed, or that it made a handle.
pub record IsCounted (outcome : Outcome) (old new : IoView) : Type 0 where
  pub fails : FailRose outcome old.fails new.fails
  pub made : new.made ≡ made_after outcome old.made

-- A poll returns what its operation was completed with before, or how a call ended.
abbrev pub ReturnsFor : {B : Type 0} → Option (Slot B) → IoView → IoView → Result (PollOp B) (OutOfMemory × Op) → Type 0
ReturnsFor slot old new (Ok (Pending back)) = Unit {0}
ReturnsFor slot old new (Ok (Ready done)) = IsCompleted slot done.outcome ⊎ IsCounted done.outcome old new
ReturnsFor slot old new (Err error) = Unit {0}

-- The cancel of an operation was asked for, and this is its error.
pub record IsCanceledWith {B : Type 0} (slot : Option (Slot B)) (e : ℕ) : Type 0 where
  pub error : e ≡ CANCELED
  pub asked : IsCompleted slot (Fail CANCELED)

-- A call made a handle that can't be new, and this is the error of that.
pub record IsRefusedWith (table : Table) (old new : IoView) (e : ℕ) : Type 0 where
  pub error : e ≡ INVALID
  pub made : new.made ≡ suc old.made
  pub handle : ℕ
  pub refused : is_old table handle ≡ true

-- The causes of an error: a call ended with an error, so that the count of these rose; or the operation's own cancel was asked for; or its
-- call made a handle that can't be new. Another outcome has none.
abbrev pub ErrorFor : {B : Type 0} → Table → Option (Slot B) → IoView → IoView → Outcome → Type 0
ErrorFor table slot old new (Count k) = Unit {0}
ErrorFor table slot old new (From k addr) = Unit {0}
ErrorFor table slot old new (Made h) = Unit {0}
ErrorFor table slot old new (Fail e) =
    Rose old.fails new.fails ⊎ (IsCanceledWith slot e ⊎ IsRefusedWith table old new e)

-- A poll of a driver returns an error only for one of its causes.
abbrev pub FailsFor : {I B : Type 0} → (I → IoView) → LegacyState I B → LegacyState I B → Op → Result (PollOp B) (OutOfMemory × Op) → Type 0
FailsFor view old new op (Ok (Pending back)) = Unit {0}
FailsFor view old new op (Ok (Ready done)) =
    ErrorFor old.handling.table (map.get old.slots.values op.key) (view old.handling.io) (view new.handling.io) done.outcome
FailsFor view old new op (Err error) = Unit {0}
