-- What an execution stores, with the surroundings of the buffers and the handles of slots that it keeps.
use Rattle.std.proofs.Common.{◌≡◌, inl, inr, ℕ, Bool, true, false, ◌&&◌, List, Option, Some, None, length, refl, sym, ◌∙◌, ap, subst, arith}
use Rattle.std.specs.Ordering.{nat_cmp}
use Rattle.std.specs.FinMap.{FinMap, get, insert}
use Rattle.rent_buf.specs.Buffer.{Buffer}
use Rattle.machine.specs.declared.completion.Completion.{Completion}
use Rattle.machine.specs.declared.request.Told.{Told}
use Rattle.ring_core.specs.MemRing.{IsExecuted}
use Rattle.machine.specs.Payloads.{StoresIf}
use Rattle.ring_core.specs.Bodies.{body_comes}
use Rattle.machine.specs.Lists.{has_number}
use Rattle.ring_core.specs.Ring.{RingView}
use Rattle.machine.specs.Surroundings.{Surroundings}
use Rattle.machine.specs.Request.{makes, plain_request, held_after}
use Rattle.machine.specs.Ledger.{with_made}
use Rattle.machine.proofs.Requests.{named-mapped, named-holding, makes-mapped, makes-holding}
use Rattle.machine.proofs.Numbers.{same-or-not}
use Rattle.driver_core.specs.declared.slot.Slot.{Slot}
use Rattle.driver_core.specs.Slot.{is_flying, fits_in, IsFilled, FillsIf, FillsSlot}
use Rattle.driver_core.specs.Holds.{named_in, made_life, made_in, is_maker}
use Rattle.driver_core.specs.Ops.{Ops}
use Rattle.driver_core.specs.Operations.{offered, StoresAt, Stores}
use Rattle.driver_core.specs.Requests.{surroundings_in, KeepsSurroundings}
use Rattle.driver_core.proofs.Requests.{stays-same}
use Rattle.driver_core.proofs.Maps.{put-same, put-other}
use Rattle.driver_core.proofs.Counted.{counted-kept}
use Rattle.driver_core.proofs.Passing.{number-kept}
use Rattle.uring_driver.specs.Holding.{Holding}
use Rattle.uring_driver.specs.State.{AreHolding}

-- Two slots that were looked up hold the same handles, as ones that are named and made; and both may make a handle, or neither.
record HoldsSame {B : Type 0} (old new : Option (Slot B)) : Type 0 where
  named : named_in new ≡ named_in old
  made : made_in new ≡ made_in old
  maker : is_maker new ≡ is_maker old

-- A slot and itself.
holds-own : {B : Type 0} {old new : Option (Slot B)} → new ≡ old → HoldsSame old new
holds-own same = record { named = ap named_in same; made = ap made_in same; maker = ap is_maker same }

-- Bytes that are stored in a slot leave which handles each slot holds, and whether it makes one.
module _ {B : Type 0} (buffer : B → Buffer) (slots slots' : FinMap nat_cmp (Slot B)) (key : ℕ) (bytes : List ℕ) where
  -- The slot that was filled.
  filled-same : (s : Slot B) (filled : IsFilled buffer slots key bytes slots' s) → HoldsSame (Some s) (Some filled.after)
  filled-same s filled =
      let held = held_after (plain_request buffer s.request) bytes in record {
        named = sym (named-mapped buffer (λ parts. parts) filled.after.request)
            ∙ named-holding (plain_request buffer s.request) held (plain_request buffer filled.after.request) filled.request
            ∙ named-mapped buffer (λ parts. parts) s.request;
        made = ap made_life filled.life;
        maker = ap (λ l. is_flying l && makes filled.after.request) filled.life
            ∙ ap (λ b. is_flying s.life && b) (sym (makes-mapped buffer (λ parts. parts) filled.after.request)
            ∙ makes-holding (plain_request buffer s.request) held (plain_request buffer filled.after.request) filled.request
            ∙ makes-mapped buffer (λ parts. parts) s.request);
      }

  same-if : (o : Option (Slot B)) → get slots key ≡ o → (b : Bool) → fits_in buffer o (length bytes) ≡ b →
      FillsIf buffer b slots key bytes slots' → (k : ℕ) → HoldsSame (get slots k) (get slots' k)
  same-if o there false fits same k = holds-own (ap (λ m. get m k) same)
  same-if None there true fits fills k = (let f : ⊥ = cc in absurd f)
  same-if (Some s) there true fits fills k =
      let filled = fills s there in
      let after = filled.after in
      subst (λ m. HoldsSame (get slots k) (get m k)) (sym filled.slots) (elim (same-or-not k key) [
        | inl e ↦ subst (λ x. HoldsSame (get slots x) (get (insert slots key after) x)) (sym e)
            (subst (λ x. HoldsSame (get slots key) x) (sym (put-same slots key after))
            (subst (λ x. HoldsSame x (Some after)) (sym there) (filled-same s filled)))
        | inr e ↦ holds-own (put-other slots key after k e)
      ])

  same-filled : FillsSlot buffer slots key bytes slots' → (k : ℕ) → HoldsSame (get slots k) (get slots' k)
  same-filled fills = same-if (get slots key) refl (fits_in buffer (get slots key) (length bytes)) refl fills

-- What holds of every driver's handles holds where each slot holds the same.
holding-kept : {B : Type 0} (holding : Holding) (slots slots' : FinMap nat_cmp (Slot B)) (given given' : ℕ) → given' ≡ given →
    ((k : ℕ) → HoldsSame (get slots k) (get slots' k)) → AreHolding holding slots given → AreHolding holding slots' given'
holding-kept {B} holding slots slots' given given' count same old = record {
  counted = counted-kept holding.table slots slots' old.counted
      (λ k. ap (λ m. with_made m (named_in (get slots' k))) (same k).made ∙ ap (with_made (made_in (get slots k))) (same k).named);
  few = λ h. (let f = old.few h in omega (arith, f, count));
  making = number-kept (is_maker {B = B}) old.making (λ k. (same k).maker);
  apart = λ k h made. ap (has_number h) (same k).named ∙ old.apart k h (sym (same k).made ∙ made);
}

-- What holds of every driver's handles holds after an execution.
pub executed-holding : {B : Type 0} (buffer : B → Buffer) (holding : Holding) (before after : Ops B) (word : ℕ) (got : List ℕ) (b : Bool) →
    StoresIf (StoresAt buffer) b before word got after → AreHolding holding before.slots.values before.given →
    AreHolding holding after.slots.values after.given
executed-holding buffer holding before after word got true stored old =
    holding-kept holding before.slots.values after.slots.values before.given after.given stored.given
    (same-filled buffer before.slots.values after.slots.values word got stored.fills) old
executed-holding buffer holding before after word got false same old =
    subst (λ x. AreHolding holding x.slots.values x.given) (sym same) old

module _ {B : Type 0} (buffer : B → Buffer) (reader : B → Surroundings) where
  -- What is stored where bytes come, without the surroundings.
  stores-at : (b : Bool) (before after : Ops B) (word : ℕ) (got : List ℕ) →
      StoresIf (Stores buffer reader) b before word got after → StoresIf (StoresAt buffer) b before word got after
  stores-at true before after word got stores = stores.0
  stores-at false before after word got same = same

  -- The surroundings of buffers stay, whether bytes come or not.
  stores-keeps : (b : Bool) (before after : Ops B) (word : ℕ) (got : List ℕ) →
      StoresIf (Stores buffer reader) b before word got after → KeepsSurroundings reader before after
  stores-keeps true before after word got stores = stores.1
  stores-keeps false before after word got same =
      stays-same (surroundings_in reader) before.slots.values after.slots.values (ap (λ x. x.slots.values) same)

  module _ {old new : RingView} {place : ℕ} {told : Told} {before after : Ops B} {c : Completion}
      (executed : IsExecuted (offered buffer) (Stores buffer reader) old place told new before after c) where
    -- What was executed, without the surroundings.
    pub executed-at : IsExecuted (offered buffer) (StoresAt buffer) old place told new before after c
    executed-at = record {
      got = executed.got;
      finishes = executed.finishes;
      stored = stores-at (body_comes executed.finishes.flight.entry.body told) before after c.word executed.got executed.stored;
    }

    -- An execution keeps the surroundings of buffers.
    pub executed-keeps : KeepsSurroundings reader before after
    executed-keeps = stores-keeps (body_comes executed.finishes.flight.entry.body told) before after c.word executed.got executed.stored
