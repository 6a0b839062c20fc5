use Rattle.std.proofs.Common.{◌≡◌, length, ◌-◌, ◌^◌, min}
use Rattle.std.specs.Prelude.{take}
use Rattle.std.specs.List.{concat}
use Rattle.rent_buf.specs.Parts.{bytes_of}
use Rattle.machine.proofs.request.bytes.parts_offered.Given as goal

abbrev pub invariant-loop-i : goal.invariant-loop-i
invariant-loop-i l = l.count ≡ min (length (concat (take l.i (bytes_of l.parts)))) (2 ^ 64 - 1)
