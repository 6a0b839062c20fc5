use Rattle.std.proofs.Common.{◌≡◌, length, min, take}
use Rattle.std.specs.List.{concat}
use Rattle.machine.specs.Payloads.{laid_over}
use Rattle.machine.proofs.payloads.copy_first_parts.Given as goal

-- the parts so far are laid over the front of the target, as far as they fit it
abbrev pub invariant-loop-i : goal.invariant-loop-i
invariant-loop-i g l = record {
  laid : l.target ≡ laid_over (concat (take l.i (g.V.IoVecBuf.parts l.parts))) l.fn.target;
  at : l.at ≡ min (length l.fn.target) (length (concat (take l.i (g.V.IoVecBuf.parts l.parts))));
}
