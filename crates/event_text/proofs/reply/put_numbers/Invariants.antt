use Rattle.std.proofs.Common.{◌≡◌, ◌++◌, take}
use Rattle.event_text.proofs.TextWrites.{behind_commas}
use Rattle.event_text.proofs.reply.put_numbers.Given as goal

-- The numbers so far were appended, each behind a comma.
abbrev pub invariant-loop-number : goal.invariant-loop-number
invariant-loop-number l = l.out.items ≡ l.initial.out.items ++ behind_commas (take l.number-index l.number-items)
