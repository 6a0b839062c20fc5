-- What a write and a flush do.
use Rattle.std.specs.Prelude.{ℕ, ◌≡◌, ◌≤◌, Bool, false, IsTrue, List, [], ◌++◌, length, take, Result, Ok, Err}
use Rattle.rent_io.specs.Counts.{Rose}
use Rattle.rent_io.specs.declared.source.Failed.{Failed}

-- A write: Ok n took the first n bytes, at least one where there are some, and then the sink isn't flushed; where the sink tells
-- its bytes the count of faults is the same. A failure took nothing, and the count of faults rose.
abbrev pub WritesFor : Bool → List ℕ → List ℕ → ℕ → ℕ → Bool → Bool → List ℕ → Result ℕ Failed → Type 0
WritesFor tells taken new faults later flushed now bytes (Ok n) =
    (n ≤ length bytes) × (n ≡ 0 → bytes ≡ []) × (faults ≤ later) × (1 ≤ n → now ≡ false) × (IsTrue now → IsTrue flushed)
    × (IsTrue tells → new ≡ taken ++ take n bytes) × (IsTrue tells → later ≡ faults)
WritesFor tells taken new faults later flushed now bytes (Err failed) =
    Rose faults later × (faults ≤ later) × (IsTrue now → IsTrue flushed) × (IsTrue tells → new ≡ taken)

-- A flush: after Ok the sink is flushed; it takes nothing, and a failure's count of faults rose.
abbrev pub FlushesFor : Bool → List ℕ → List ℕ → ℕ → ℕ → Bool → Bool → Result (Unit {0}) Failed → Type 0
FlushesFor tells taken new faults later flushed now (Ok done) =
    IsTrue now × (faults ≤ later) × (IsTrue tells → new ≡ taken) × (IsTrue tells → later ≡ faults)
FlushesFor tells taken new faults later flushed now (Err failed) =
    Rose faults later × (faults ≤ later) × (IsTrue now → IsTrue flushed) × (IsTrue tells → new ≡ taken)
