use Rattle.std.proofs.Common.{◌≡◌, ◌+◌, ◌≤◌, length, drop}
use Rattle.rent_buf.specs.Ranges.{places, consumed}
use Rattle.rent_buf.proofs.ranges.Ranges.consume.Given as goal

-- what is still to be taken away of the places that are left leaves what is to be left
abbrev pub invariant-loop-rest : goal.invariant-loop-rest
invariant-loop-rest l = record {
  ranges : consumed l.self.ranges l.rest ≡ consumed l.initial.self.ranges l.n;
  taken : drop l.rest (places l.self.ranges) ≡ drop l.n (places l.initial.self.ranges);
  within : l.rest ≤ length (places l.self.ranges);
  len : l.self.len ≡ l.initial.self.len;
}

abbrev pub decreases-loop-rest : goal.decreases-loop-rest
decreases-loop-rest l = l.rest + length l.self.ranges
