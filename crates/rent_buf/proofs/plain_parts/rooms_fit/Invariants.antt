use Rattle.std.proofs.Common.{◌≡◌, ◌<◌, ◌^◌, take}
use Rattle.std.specs.Prelude.{sum_by}
use Rattle.rent_buf.proofs.plain_parts.rooms_fit.Given as goal

-- the sum is that of the rooms so far
abbrev pub invariant-loop-pair : goal.invariant-loop-pair
invariant-loop-pair l = record {
  sum : l.sum ≡ sum_by (λ pair. pair.0) (take l.pair-index l.pairs);
  fits : l.sum < 2 ^ 64;
}
