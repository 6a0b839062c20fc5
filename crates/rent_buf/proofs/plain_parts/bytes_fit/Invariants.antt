use Rattle.std.proofs.Common.{◌≤◌, take, length}
use Rattle.std.specs.Prelude.{All}
use Rattle.rent_buf.proofs.plain_parts.bytes_fit.Given as goal

-- the bytes so far fit their rooms
abbrev pub invariant-loop-pair : goal.invariant-loop-pair
invariant-loop-pair l = All (λ pair. length pair.1 ≤ pair.0) (take l.pair-index l.pairs)
