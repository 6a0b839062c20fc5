use Rattle.std.proofs.Common.{◌≡◌, take}
use Rattle.rent_buf.proofs.lists.MessageList.try_clone.Given as goal

-- the copies are those of the messages so far
abbrev pub invariant-loop-addr : goal.invariant-loop-addr
invariant-loop-addr l = l.items.items ≡ take l.addr-index l.addr-items
