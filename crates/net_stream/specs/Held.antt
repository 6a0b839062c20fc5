-- Where the buffer of a box is: here, or with the operation that waits.
use Rattle.std.specs.Prelude.{ℕ, ◌≡◌, List, [], Option, None, Some}
use Rattle.rent_buf.specs.Rent.{Rented}
use Rattle.machine.specs.declared.request.Outcome.{Outcome}
use Rattle.driver_core.specs.declared.op.Op.{Op}

-- The bytes that a buffer holds, where it is here.
abbrev pub bytes_here : Option Rented → List ℕ
bytes_here None = []
bytes_here (Some buf) = buf.bytes

-- The buffer, where it is here, and else one of nothing.
abbrev pub buffer_here : Option Rented → Rented
buffer_here None = record { bytes = []; total = 0 }
buffer_here (Some buf) = buf

-- The buffer is here exactly where no operation waits.
abbrev pub IsApart : Option Rented → Option Op → Type 0
IsApart None None = ⊥
IsApart None (Some op) = Unit {0}
IsApart (Some buf) None = Unit {0}
IsApart (Some buf) (Some op) = ⊥

-- A buffer that is here has this total.
abbrev pub HasTotal : ℕ → Option Rented → Type 0
HasTotal total None = Unit {0}
HasTotal total (Some buf) = buf.total ≡ total

-- Nothing has ended where an operation waits.
abbrev pub IsHeld : Option Op → Option Outcome → Type 0
IsHeld None outcome = Unit {0}
IsHeld (Some op) None = Unit {0}
IsHeld (Some op) (Some outcome) = ⊥
