-- Streams that are split into a half that is read and one that is written.
use Rattle.std.specs.Prelude.{ℕ, ◌≡◌, ◌+◌, ◌-◌, ◌^◌, min, Bool, IsTrue, Result, Ok, Err}
use Rattle.rent_buf.specs.declared.fault.IoFault.{IoFault}
use Rattle.rent_io.specs.declared.poll.Step.{Step}
use Rattle.rent_io.specs.declared.poll.Step.TheVariants.{Ready, Pending, Again}
use Rattle.rent_io.specs.Counts.{Rose}
use Rattle.rent_io.specs.Polls.{Pauses, WriteFails}
use Rattle.rent_io.specs.Writer.{Writer}

-- A half is its part of the stream, and the number of its pair.
pub record Half (A : Type 0) : Type 0 where
  pub part : A
  pub pair : ℕ

-- A stream of two is the one that is read and the one that is written.
pub record Two (R W : Type 0) : Type 0 where
  pub read : R
  pub write : W

-- How many pairs were given after one more: their number stays at the last `u64`.
abbrev pub one_more : ℕ → ℕ
one_more given = min (given + 1) (2 ^ 64 - 1)

-- The bytes that were delivered and the flushes that succeeded are as before.
abbrev pub OnlyShutsDown : Bool → Writer → Writer → Type 0
OnlyShutsDown tells before now = (IsTrue tells → now.delivered ≡ before.delivered) × (now.flushes ≡ before.flushes)

-- How a shutdown ends: Ok only where the shutdowns rose, and a fault by its cause.
abbrev pub IsShutdownEnd : Writer → Writer → Result ℕ IoFault → Type 0
IsShutdownEnd before now (Ok n) = Rose before.shutdowns now.shutdowns
IsShutdownEnd before now (Err fault) = WriteFails before.counts now.counts fault × (now.shutdowns ≡ before.shutdowns)

-- A poll of a shutdown of this part. The part comes back in each answer.
abbrev pub ShutsDown : {W : Type 0} → (W → Writer) → Bool → ℕ → W → Step W (Result ℕ IoFault × W) → Type 0
ShutsDown writer tells task part (Ready end) =
    OnlyShutsDown tells (writer part) (writer end.1) × IsShutdownEnd (writer part) (writer end.1) end.0
ShutsDown writer tells task part (Pending next) = OnlyShutsDown tells (writer part) (writer next)
    × Pauses task (writer part).counts (writer next).counts × ((writer next).shutdowns ≡ (writer part).shutdowns)
ShutsDown writer tells task part (Again next) = OnlyShutsDown tells (writer part) (writer next)
    × Rose (writer part).counts.interrupts (writer next).counts.interrupts × ((writer next).shutdowns ≡ (writer part).shutdowns)

-- What an answer of a shutdown holds: the part.
abbrev pub part_in : {W : Type 0} → Step W (Result ℕ IoFault × W) → W
part_in (Ready end) = end.1
part_in (Pending next) = next
part_in (Again next) = next
