use Rattle.std.proofs.Common.{◌≡◌, ◌+◌, ◌≤◌, ◌++◌, length, vec_len}
use Rattle.std.specs.Prelude.{vec_capacity}
use Rattle.rent_buf.specs.Parts.{bytes_of, items_of}
use Rattle.rent_buf.proofs.io_vec_buf.moved_out.Given as goal

-- the vectors so far, then those of the parts that are left, are those of all parts
abbrev pub invariant-loop-part : goal.invariant-loop-part
invariant-loop-part l = record {
  moved : items_of l.lists.items ++ bytes_of l.part-iterator.rest.items ≡ bytes_of l.fn.parts.items;
  room : vec_len l.lists + length l.part-iterator.rest.items ≤ vec_capacity l.lists;
}
