-- A slab's live slot, lent. Cited by `Slab::get` and by `Ref`.
use Rattle.std.specs.Prelude.{ℕ, ◌≡◌, [], Option, Some, is_some, cond}
use Rattle.std.specs.Borrow.{Fml, RattleType, MutBor, Lends, RestsIfNone}
use Rattle.std.specs.Cmp.{nat_cmp_total, eq_by_cmp_equiv}
use Rattle.std.specs.FinMap as map
use Rattle.std.proofs.Common.{ap, ◌∙◌}
use mir.Syntax.{named}
use Rattle.op_slots.specs.Slots.{Slots, IsLive, with_value}
use Rattle.op_slots.specs.declared.slab.ref_mut.Ref.{Ref}
use Rattle.op_slots.specs.contracts.slab.Slab.{the_row}
use Rattle.op_slots.specs.contracts.slab.ref_mut.Ref as slot

module _ {T : Type 0} where
  -- the reference to the slab
  abbrev pub slab_lent : Ref T → MutBor (Slots T)
  slab_lent r = r.slab

  -- the slab's slots, as they stand now
  abbrev pub slots_lent : Ref T → Slots T
  slots_lent r = r.slab.now

  -- the key of the slot
  abbrev pub key_lent : Ref T → ℕ
  key_lent r = r.key

  -- a key that was given a value is live
  pub live_with_value : (slots : Slots T) (key : ℕ) (value : T) → IsLive (with_value slots key value) key
  live_with_value slots key value = ap is_some (map.get-insert nat_cmp_total slots.values key value key)
      ∙ ap (λ b. is_some (cond b (Some value) (map.get slots.values key))) ((eq_by_cmp_equiv nat_cmp_total).refl key)

  -- the slot, once this is its value
  abbrev pub with_slot_value : Ref T → T → Ref T
  with_slot_value r value = record {
    slab = record r.slab { now = with_value r.slab.now r.key value };
    key = r.key;
    live = live_with_value r.slab.now r.key value;
  }

module _ (T : RattleType) where
  -- once the borrow v ends, the slot's key has the last value written through v, and all else in the slab is the same
  abbrev pub LendsSlotValue : MutBor (Ref T.Denot) → MutBor T.Denot → Fml
  LendsSlotValue r v = Lends (slot.the_row (record { mir = named 1; lft = [] }) T) T r v (with_slot_value r.now)

  -- if there is no slot, the slab stays as it is
  abbrev pub RestsIfNotLive : MutBor (Slots T.Denot) → Option (Ref T.Denot) → Fml
  RestsIfNotLive s r = RestsIfNone (the_row T) s (λ slot. slot.slab.ghost_name) r (λ slots. slots ≡ s.now)
