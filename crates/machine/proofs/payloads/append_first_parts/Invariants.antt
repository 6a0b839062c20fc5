use Rattle.std.proofs.Common.{◌≡◌, ◌++◌, ◌-◌, length, take}
use Rattle.std.specs.List.{concat}
use Rattle.machine.proofs.payloads.append_first_parts.Given as goal

-- what joined the list is what the parts so far have of the first `count` bytes, and so many are left
abbrev pub invariant-loop-i : goal.invariant-loop-i
invariant-loop-i g l = record {
  joined : l.list ≡ l.fn.list ++ take l.count (concat (take l.i (g.V.IoVecBuf.parts l.parts)));
  left : l.left ≡ l.count - length (concat (take l.i (g.V.IoVecBuf.parts l.parts)));
  before : l.before ≡ length l.fn.list;
}
