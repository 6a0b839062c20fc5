-- What a slab ends as, where a `&mut` to one of its values was lent. Cited by `Slab::value_mut`.
use Rattle.std.specs.Prelude.{ℕ}
use Rattle.std.specs.Borrow.{Lends, Fml, RattleType, MutBor}
use Rattle.op_slots.specs.Slots.{Slots, with_value}
use Rattle.op_slots.specs.contracts.slab.Slab.{the_row}

module _ (T : RattleType) (s : MutBor (Slots T.Denot)) (key : ℕ) where
  -- once the borrow r ends, the key has the last value written through r
  abbrev pub LendsValue : MutBor T.Denot → Fml
  LendsValue r = Lends (the_row T) T s r (with_value s.now key)
