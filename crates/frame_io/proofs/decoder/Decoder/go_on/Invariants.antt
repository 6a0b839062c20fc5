use Rattle.std.proofs.Common.{◌≡◌, ◌<◌, ◌≤◌, ◌-◌, ◌++◌, ℕ, List, length, drop}
use Rattle.frame_io.specs.Decoder.{rest_of}
use Rattle.frame_io.proofs.decoder.Decoder.go_on.Given as goal

-- More bytes were taken, and what is to be read is the same.
abbrev pub invariant-loop-done : goal.invariant-loop-done
invariant-loop-done l = record {
  some : 0 < l.done;
  within : l.done ≤ length l.bytes;
  same : (more : List ℕ) → rest_of l.self (drop l.done l.bytes ++ more) ≡ rest_of l.initial.self (drop l.initial.done l.bytes ++ more);
}

abbrev pub decreases-loop-done : goal.decreases-loop-done
decreases-loop-done l = length l.bytes - l.done
