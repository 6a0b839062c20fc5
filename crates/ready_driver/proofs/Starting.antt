-- A new readiness driver is a new one as plain data.
use Rattle.std.proofs.Common.{◌≡◌, ℕ, [], Option, Some, None, sym, ◌∙◌, ap, subst, arith}
use Rattle.std.specs.Ordering.{nat_cmp}
use Rattle.std.specs.FinMap.{FinMap, get, empty, len, len-empty, get-empty}
use Rattle.rent_buf.specs.Buffer.{Buffer}
use Rattle.driver_core.specs.declared.slot.Slot.{Slot}
use Rattle.driver_core.specs.Members.{none}
use Rattle.ready_driver.specs.HandlesStand.{HandlesStand}
use Rattle.ready_driver.specs.Io.{IoView}
use Rattle.ready_driver.specs.Legacy.{LegacyOp, idle}
use Rattle.ready_driver.specs.LegacyStands.{LegacyStands}
use Rattle.ready_driver.specs.LegacyState.{LegacyState}
use Rattle.ready_driver.specs.Polling.{SlotsStand}
use Rattle.ready_driver.proofs.Grouped.{groups-idle}
use Rattle.ready_driver.proofs.Standing.{standing-none}

-- No slots are those of no operations.
slots-none : {B : Type 0} (buffer : B → Buffer) (slots : FinMap nat_cmp (Slot B)) → slots ≡ empty → SlotsStand buffer slots idle
slots-none {B} buffer slots is = record {
  holds = λ key slot there. absurd (gone key slot there);
  one = λ k j s t at also same. absurd (gone k s at);
  each = λ n op there. (let f : ◌≡◌ {A = Option LegacyOp} None (Some op) = there in let g : ⊥ = cc in absurd g);
}
  where
    gone : (key : ℕ) (slot : Slot B) → get slots key ≡ Some slot → ⊥
    gone key slot there = (
        let f : ◌≡◌ {A = Option (Slot B)} None (Some slot) =
        sym (ap (λ m. get m key) is ∙ get-empty {X = Slot B} nat_cmp key) ∙ there in
        let g : ⊥ = cc in
        g)

-- A driver that has done nothing stands for the idle machine.
pub stands-idle : {I B : Type 0} (view : I → IoView) (buffer : B → Buffer) (d : LegacyState I B) (io : I) → d.handling.io ≡ io →
    d.handling.table.holders ≡ empty → d.slots.values ≡ empty → d.given ≡ 0 → d.members ≡ none → (view io).world ≡ [] →
    (view io).keys ≡ [] → LegacyStands view buffer d idle
stands-idle {I} {B} view buffer d io object holders slots given groups world keys = record {
  parts = record {
    operations = record { given = given; slots = slots-none buffer d.slots.values slots };
    handles = ap (λ i. (view i).world) object ∙ world;
  };
  live = ap len slots ∙ len-empty nat_cmp (Slot B);
  handles = subst (λ ks. HandlesStand d.handling.table ks idle) (sym (ap (λ i. (view i).keys) object ∙ keys))
      (standing-none d.handling.table holders);
  groups = groups-idle d.members groups;
  few = omega arith;
}
