use Rattle.std.proofs.Common.{◌≡◌, ◌++◌, take}
use Rattle.event_text.specs.TextRequest.{part_words}
use Rattle.event_text.proofs.TextWrites.{behind_spaces}
use Rattle.event_text.proofs.buffer.put_parts.Given as goal

-- The rooms and bytes of the parts so far were appended, each behind a space.
abbrev pub invariant-loop-i : goal.invariant-loop-i
invariant-loop-i l = l.out.items ≡ l.initial.out.items ++ behind_spaces (part_words (take l.i l.parts))
