-- Sets of readiness bits, each a number below 64. The contracts of `Ready`, `Direction` and `ScheduledIo` cite this.
use Rattle.std.specs.Prelude.{ℕ, ◌-◌, ◌==◌, Bool, not, Option, Some, None, bit_and, if◌then◌else◌}
use Rattle.ready_driver.specs.declared.ready.Direction.{Direction}
use Rattle.ready_driver.specs.declared.ready.Direction.TheVariants.{Read, Write}
use Rattle.ready_driver.specs.declared.ready.TheConstants.{READABLE, WRITABLE, READ_CLOSED, WRITE_CLOSED, READ_ALL, WRITE_ALL}

-- Two sets have a bit in common.
abbrev pub meets : ℕ → ℕ → Bool
meets ready mask = not (bit_and ready mask == 0)

-- The first set has every bit of the second.
abbrev pub has_all : ℕ → ℕ → Bool
has_all ready other = bit_and ready other == other

-- The bits of the first set that aren't in the second.
abbrev pub without : ℕ → ℕ → ℕ
without ready gone = ready - bit_and ready gone

-- The bits that an operation of a direction waits for.
abbrev pub mask_of : Direction → ℕ
mask_of Read = READ_ALL
mask_of Write = WRITE_ALL

-- The bits that a direction waits for and a set has, if there is one.
abbrev pub bits_for : ℕ → Direction → Option ℕ
bits_for ready dir = if meets ready (mask_of dir) then Some (bit_and ready (mask_of dir)) else None

-- The bits that a report may have: what may be read, or written, and which of both is closed.
abbrev pub readable_bit : ℕ
readable_bit = READABLE

abbrev pub writable_bit : ℕ
writable_bit = WRITABLE

abbrev pub read_closed_bit : ℕ
read_closed_bit = READ_CLOSED

abbrev pub write_closed_bit : ℕ
write_closed_bit = WRITE_CLOSED
