use Rattle.std.proofs.Common.{◌≡◌, ◌++◌, length, take, drop}
use Rattle.rent_buf.specs.Parts.{IsParts, bytes_of, parts_stored}
use Rattle.rent_buf.proofs.io_vec_buf.IoVecBufMut.store_front.Given as goal

-- the parts so far, then what is left of the bytes in the parts that are left, are the bytes in all parts
abbrev pub invariant-loop-i : goal.invariant-loop-i
invariant-loop-i g l = record {
  walk : take l.i (g.Self.IoVecBufMut.held l.self) ++ parts_stored (drop l.i (g.Self.IoVecBufMut.held l.self)) l.rest ≡ parts_stored
      (g.Self.IoVecBufMut.held l.initial.self) l.bytes;
  count : length (g.Self.IoVecBufMut.held l.self) ≡ length (g.Self.IoVecBufMut.held l.initial.self);
  bounds : IsParts (g.Self.IoVecBufMut.held l.self);
  parts : g.Self.IoVecBuf.parts l.self ≡ bytes_of (g.Self.IoVecBufMut.held l.self);
}
