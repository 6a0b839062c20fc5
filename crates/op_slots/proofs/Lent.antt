-- A lent slot that was written.
use Rattle.std.proofs.Common.{◌≡◌, ap}
use Rattle.std.proofs.Math.Bool.{Bool-set}
use Rattle.op_slots.specs.Slots.{IsLive, with_value}
use Rattle.op_slots.specs.declared.slab.ref_mut.Ref.{Ref}
use Rattle.op_slots.specs.Ref.{with_slot_value, live_with_value}

-- however it is known that the key is still live, the slot is the same
pub slot_written : {T : Type 0} (r : Ref T) (w : T) (live : IsLive (with_value r.slab.now r.key w) r.key)
    → ◌≡◌ {A = Ref T} (record {
      slab = record r.slab { now = with_value r.slab.now r.key w };
      key = r.key;
      live =
          live;
    }) (with_slot_value r w)
slot_written r w live = ap (λ known. record (with_slot_value r w) { live = known }) (Bool-set _ _ live (live_with_value r.slab.now r.key w))
