use Rattle.std.proofs.Common.{◌≡◌, ◌≤◌, ◌+◌, ◌-◌, ◌*◌, ◌++◌, length, take, vec_len, vec_capacity}
use Rattle.event_text.specs.TextWords.{hex}
use Rattle.task_run.proofs.output.put_pairs.Given as goal

-- The digits of the bytes so far were appended, and there is room for those of the others.
abbrev pub invariant-loop-byte : goal.invariant-loop-byte
invariant-loop-byte l = record {
  written : l.out.items ≡ l.initial.out.items ++ hex (take l.byte-index l.bytes);
  room : vec_len l.out + (length l.bytes - l.byte-index) * 2 ≤ vec_capacity l.out;
}
