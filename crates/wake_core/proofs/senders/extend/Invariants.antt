use Rattle.std.proofs.Common.{◌≡◌, ◌++◌, replicate}
use Rattle.std.specs.Prelude.{vec_capacity}
use Rattle.wake_core.specs.SenderSlot.{new_slot}
use Rattle.wake_core.proofs.senders.extend.Given as goal

-- the table is that at first, then as many new slots as there were turns
abbrev pub invariant-loop-i : goal.invariant-loop-i
invariant-loop-i l = record {
  items : l.items.items ≡ l.initial.items.items ++ replicate l._i new_slot;
  capacity : vec_capacity l.items ≡ vec_capacity l.initial.items;
}
