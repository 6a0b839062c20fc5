use Rattle.std.proofs.Common.{◌≡◌, take}
use Rattle.rent_buf.proofs.io_vec_buf.cloned_rents.Given as goal

-- the copies are those of the parts so far
abbrev pub invariant-loop-rent : goal.invariant-loop-rent
invariant-loop-rent l = l.copies.items ≡ take l.rent-index l.rent-items
