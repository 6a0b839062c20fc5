use Rattle.std.proofs.Common.{◌≡◌, ◌+◌, ◌-◌, ◌≤◌, drop, length}
use Rattle.std.specs.Vec.{vec_len, vec_capacity}
use Rattle.driver_core.specs.Op.{KeepsTokens}
use Rattle.driver_core.specs.Requests.{KeepsRequests}
use Rattle.ready_driver.specs.Legacy.{Legacy}
use Rattle.ready_driver.specs.LegacyCalls.{asks_each}
use Rattle.ready_driver.specs.Polling.{OpsStand}
use Rattle.ready_driver.proofs.Asking.{AsksSlots}
use Rattle.ready_driver.proofs.legacy.groups.ask_each.Given as goal

-- What the cancels that are left change is what all change, of the driver as plain data too; and there is room for their tasks.
abbrev pub invariant-loop-i : goal.invariant-loop-i
invariant-loop-i g l = record {
  asks : asks_each l.members (record { handling = l.registry; slots = l.ops.slots.values; asked = l.asked.items }) (drop l.i l.numbers)
      ≡ asks_each l.members
      (record { handling = l.initial.registry; slots = l.initial.ops.slots.values; asked = l.initial.asked.items }) l.numbers;
  stands : (D : Legacy) → OpsStand g.B.IoBufMut.buffer l.initial.ops D →
      AsksSlots g.B.IoBufMut.buffer l.ops D (drop l.i l.numbers) l.numbers;
  tokens : KeepsTokens l.initial.ops l.ops;
  requests : KeepsRequests l.initial.ops l.ops;
  given : l.ops.given ≡ l.initial.ops.given;
  room : vec_len l.asked + (length l.numbers - l.i) ≤ vec_capacity l.asked;
}
