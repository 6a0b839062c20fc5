-- Counts that rise.
use Rattle.std.proofs.Common.{ℕ, ◌≤◌, arith}
use Rattle.rent_buf.specs.Counts.{Rose}

-- A count that rose and doesn't fall has risen.
pub rose-later : (a b c : ℕ) → Rose a b → b ≤ c → Rose a c
rose-later a b c rose more = omega (arith, rose, more)
