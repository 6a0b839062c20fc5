-- What opening a handle does: listening on a port, or dialling one. Cited by `LegacyDriver`.
use Rattle.std.specs.Prelude.{ℕ, ◌≡◌, ◌⊎◌, Bool, true, false, Result, Ok, Err}
use Rattle.machine.specs.declared.world.call.TheConstants.{INVALID}
use Rattle.machine.specs.declared.world.HandleKind.{HandleKind}
use Rattle.ready_driver.specs.declared.non_block.NonBlockError.{NonBlockError}
use Rattle.ready_driver.specs.declared.non_block.NonBlockError.TheVariants.{Fault}
use Rattle.ready_driver.specs.Io.{IoView, IsStill, FaultsFor}
use Rattle.ready_driver.specs.Registry.{Handling, is_old, GivesUser}
use Rattle.ready_driver.specs.Sockets.{IsGiven}

-- A handle was opened: the object made it, nobody held it before, and now its user does, once, and it is registered where the object took
-- it. All other handles stay.
pub record IsOpened {I : Type 0} (view : I → IoView) (tells memory : Bool) (kind : HandleKind) (old new : Handling I) (h : ℕ) : Type 0 where
  pub mid : Handling I
  pub fresh : is_old old.table h ≡ false
  pub holders : mid.table.holders ≡ old.table.holders
  pub handles : mid.records.handles ≡ old.records.handles
  pub names : mid.records.names ≡ old.records.names
  pub made : IsGiven tells memory kind (view old.io) (view mid.io) h
  pub user : GivesUser view tells memory mid h new

-- None was: the object made none, and no handle has changed. A fault is the object's, whose count of faults rose; or it is `INVALID`, since
-- the number that the object gives next can't be new.
pub record IsUnopened {I : Type 0} (view : I → IoView) (tells memory : Bool) (old new : Handling I) (why : NonBlockError) : Type 0 where
  pub holders : new.table.holders ≡ old.table.holders
  pub handles : new.records.handles ≡ old.records.handles
  pub names : new.records.names ≡ old.records.names
  pub object : IsStill tells memory (view old.io) (view new.io) (view old.io).keys (view old.io).closes
  pub cause : FaultsFor memory (view old.io) (view new.io) why ⊎ ((why ≡ Fault INVALID) × (is_old old.table (view old.io).made ≡ true))

-- What opening a handle of a kind answers and leaves.
abbrev pub OpensFor : {I : Type 0} → (I → IoView) → Bool → Bool → HandleKind → Handling I → Handling I → Result ℕ NonBlockError → Type 0
OpensFor view tells memory kind old new (Ok h) = IsOpened view tells memory kind old new h
OpensFor view tells memory kind old new (Err why) = IsUnopened view tells memory old new why
