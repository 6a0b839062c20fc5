use Rattle.std.proofs.Common.{◌≡◌, ◌++◌, take}
use Rattle.event_text.specs.TextReply.{message_words}
use Rattle.event_text.proofs.TextWrites.{behind_spaces}
use Rattle.event_text.proofs.reply.put_messages.Given as goal

-- The addresses and bytes of the messages so far were appended, each behind a space.
abbrev pub invariant-loop-address : goal.invariant-loop-address
invariant-loop-address l = l.out.items ≡ l.initial.out.items ++ behind_spaces (message_words (take l.address-index l.address-items))
