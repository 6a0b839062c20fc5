-- A stream with a buffer of its own.
use Rattle.std.specs.Prelude.{ℕ, ◌≡◌, Bool, IsTrue, List, [], ◌++◌, length, Ok, Err}
use Rattle.rent_io.specs.declared.poll.PollCount.{PollCount}
use Rattle.rent_io.specs.declared.poll.PollCount.TheVariants.{Ready, Pending, Again}

-- The bytes that are buffered are the first of those that are left, where the stream tells these.
abbrev pub IsFront : Bool → List ℕ → List ℕ → Type 0
IsFront tells left buffered = IsTrue tells → (rest : List ℕ) × (left ≡ buffered ++ rest)

-- A fill that is done answers how many bytes are buffered: none only where nothing is left.
abbrev pub Fills : Bool → List ℕ → List ℕ → PollCount → Type 0
Fills tells left buffered (Ready (Ok n)) = (n ≡ length buffered) × (IsTrue tells → n ≡ 0 → left ≡ [])
Fills tells left buffered (Ready (Err fault)) = Unit {0}
Fills tells left buffered Pending = Unit {0}
Fills tells left buffered Again = Unit {0}
