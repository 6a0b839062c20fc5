-- What a turn over handles in memory leaves of a session.
use Rattle.std.proofs.Common.{◌≡◌, ◌∙◌, inl, inr, true, Option, Some, None, refl, sym, ap, subst}
use Rattle.std.specs.FinMap.{len}
use Rattle.rent_buf.specs.Buf.{built}
use Rattle.rent_buf.specs.declared.plain.Buf.{Buf}
use Rattle.driver_core.specs.declared.op.Stop.{Stop}
use Rattle.driver_core.specs.declared.op.Stop.TheVariants.{RingFault, Busy, BadCompletion, Os, OutOfMemory}
use Rattle.driver_core.specs.declared.op.Turned.{Turned}
use Rattle.driver_core.specs.Op.{number_of}
use Rattle.driver_core.specs.Slot.{number_at}
use Rattle.ready_driver.specs.HandlesStand.{HandlesStand}
use Rattle.ready_driver.specs.Legacy.{Legacy}
use Rattle.ready_driver.specs.LegacyStands.{LegacyStands, GroupsStand}
use Rattle.ready_driver.specs.LegacyState.{LegacyState}
use Rattle.ready_driver.specs.LegacyTurns.{Turning, TurnsBy, LegacyTurns, turning_in}
use Rattle.ready_driver.specs.MemIo.{Memory, memory_view}
use Rattle.ready_driver.specs.Polling.{SlotsStand}
use Rattle.ready_driver.specs.Registry.{Handling}
use Rattle.ready_driver.specs.Turns.{AreReported}
use Rattle.ready_run.specs.declared.inner.Inner.{Inner}
use Rattle.ready_run.specs.ReadySession.{SessionStands}
use Rattle.ready_run.proofs.Kept.{SameTokens}
use Rattle.ready_run.proofs.Single.{single-same}
use Rattle.ready_run.proofs.Steps.{stands-kept}

-- The holders of handles, what the handles have, and with what each is registered stay.
record Stays (old new : Handling Memory) : Type 0 where
  table : new.table ≡ old.table
  world : new.io.world ≡ old.io.world
  keys : new.io.keys ≡ old.io.keys

-- So it is after a turn, however it stopped.
stays-turned : (old new : Turning Memory) (stop : Option Stop) → TurnsBy memory_view true true true old new stop →
    Stays old.handling new.handling
stays-turned old new None does = record {
  table = ap (λ all. all.table) does.treats.handling;
  world = does.object.world refl;
  keys = does.object.keys_are refl;
}
stays-turned old new (Some RingFault) does = absurd does
stays-turned old new (Some Busy) does = absurd does
stays-turned old new (Some (BadCompletion word)) does = absurd does
stays-turned old new (Some (Os code)) does = record {
  table = ap (λ all. all.table) does.0.treats.handling;
  world = does.0.object.world refl;
  keys = does.0.object.keys_are refl;
}
stays-turned old new (Some OutOfMemory) does = elim does [
  | inl same ↦ record {
    table = ap (λ all. all.handling.table) same;
    world = ap (λ all. all.handling.io.world) same;
    keys = ap (λ all. all.handling.io.keys) same;
  }
  | inr starves ↦ record {
    table = ap (λ all. all.table) starves.stops.treats.handling;
    world = starves.stops.object.world refl;
    keys = starves.stops.object.keys_are refl;
  }
]

-- A turn of a driver over handles in memory.
module _ (old new : LegacyState Memory Buf) (turned : Turned)
    (turns : LegacyTurns memory_view true true true old new turned) where
  -- What it leaves of the handles.
  stays : Stays old.handling new.handling
  stays = stays-turned (turning_in old old.asked) (turning_in new turns.tasks) turned.stop turns.does

  -- What the handles have.
  pub world-turned : new.handling.io.world ≡ old.handling.io.world
  world-turned = stays.world

  -- The same operations and handles as plain data.
  driver-turned : (D : Legacy) → LegacyStands memory_view built old D → LegacyStands memory_view built new D
  driver-turned D st = record {
    parts = record {
      operations = record {
        given = turns.given ∙ st.parts.operations.given;
        slots = subst (λ slots. SlotsStand built slots.values D) (sym turns.slots) st.parts.operations.slots;
      };
      handles = stays.world ∙ st.parts.handles;
    };
    live = ap (λ slots. len slots.values) turns.slots ∙ st.live;
    handles = subst (λ table. HandlesStand table new.handling.io.keys D) (sym stays.table)
        (subst (λ keys. HandlesStand old.handling.table keys D) (sym stays.keys) st.handles);
    groups = subst (λ m. GroupsStand m D) (sym turns.members) st.groups;
    few = st.few;
  }

  -- Where it didn't stop, each handle that is held has its bits.
  pub reported-turned : turned.stop ≡ None → (D : Legacy) → LegacyStands memory_view built old D →
      AreReported new.handling.table new.handling.records new.handling.io.world
  reported-turned went D st =
      let does = subst (λ stop. TurnsBy memory_view true true true (turning_in old old.asked) (turning_in new turns.tasks) stop) went
      turns.does in
      does.shows refl st.handles.keyed

-- A session whose driver made a turn is the same driver as plain data.
pub stands-turned : (old new : Inner) (turned : Turned) (D : Legacy) → SessionStands old D → SameTokens old.tokens new.tokens →
    LegacyTurns memory_view true true true old.driver new.driver turned → SessionStands new D
stands-turned old new turned D stands tokens turns =
    stands-kept old new D D stands tokens refl (driver-turned old.driver new.driver turned turns D stands.driver)
    (single-same old.driver.handling.table new.driver.handling.table
    (ap (λ table. table.holders) (stays old.driver new.driver turned turns).table))
    (record {
      tokens = λ op. (
        λ h. subst (λ slots. number_at slots.values op.key ≡ Some (number_of op)) (sym turns.slots) h,
        λ h. subst (λ slots. number_at slots.values op.key ≡ Some (number_of op)) turns.slots h,
      );
      given = turns.given;
    })
