use Rattle.std.proofs.Common.{◌≡◌, ◌<◌, ◌^◌, take, length}
use Rattle.std.specs.Prelude.{sum_by}
use Rattle.rent_buf.proofs.io_vec_buf.sum_fits.Given as goal

-- the sum is that of the lengths so far
abbrev pub invariant-loop-list : goal.invariant-loop-list
invariant-loop-list l = record {
  sum : l.sum ≡ sum_by (λ v. length v.items) (take l.list-index l.lists);
  fits : l.sum < 2 ^ 64;
}
