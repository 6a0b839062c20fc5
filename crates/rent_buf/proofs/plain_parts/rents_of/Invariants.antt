use Rattle.std.proofs.Common.{◌≡◌, ◌≤◌, ◌++◌, length}
use Rattle.std.specs.Prelude.{All}
use Rattle.rent_buf.specs.Parts.{parts_of_pairs}
use Rattle.rent_buf.proofs.plain_parts.rents_of.Given as goal

-- the parts so far, then those of the pairs that are left, are those of all pairs
abbrev pub invariant-loop-room : goal.invariant-loop-room
invariant-loop-room l = record {
  made : l.rents.items ++ parts_of_pairs l.room-iterator.rest.items ≡ parts_of_pairs l.fn.pairs.items;
  fit : All (λ part. length part.bytes ≤ part.total) (parts_of_pairs l.room-iterator.rest.items);
}
