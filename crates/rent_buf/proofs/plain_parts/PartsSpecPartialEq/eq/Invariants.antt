use Rattle.std.proofs.Common.{◌≡◌, drop}
use Rattle.rent_buf.specs.PartsSpec.{parts_eq}
use Rattle.rent_buf.proofs.plain_parts.PartsSpecPartialEq.eq.Given as goal

-- the parts that are left decide
abbrev pub invariant-loop-i : goal.invariant-loop-i
invariant-loop-i l = parts_eq l.self l.other ≡ parts_eq (drop l.i l.self) (drop l.i l.other)
