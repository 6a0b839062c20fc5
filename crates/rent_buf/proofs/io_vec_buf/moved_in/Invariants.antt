use Rattle.std.proofs.Common.{◌≡◌, ◌+◌, ◌≤◌, ◌++◌, length, vec_len}
use Rattle.std.specs.Prelude.{vec_capacity}
use Rattle.rent_buf.specs.Parts.{parts_of_lists, items_of}
use Rattle.rent_buf.proofs.io_vec_buf.moved_in.Given as goal

-- the parts so far, then those of the vectors that are left, are those of all vectors
abbrev pub invariant-loop-list : goal.invariant-loop-list
invariant-loop-list l = record {
  moved : l.parts.items ++ parts_of_lists (items_of l.list-iterator.rest.items) ≡ parts_of_lists (items_of l.fn.lists.items);
  room : vec_len l.parts + length l.list-iterator.rest.items ≤ vec_capacity l.parts;
}
