-- What an execution of the completion driver does to requests.
use Rattle.std.proofs.Common.{◌≡◌, ◌∙◌, inl, inr, ℕ, Bool, true, false, List, Option, Some, None, length, refl, sym, ap, subst}
use Rattle.std.specs.Prelude.{Result, Ok, Err, OnErr}
use Rattle.std.specs.Ordering.{nat_cmp}
use Rattle.std.specs.FinMap.{FinMap, get, insert}
use Rattle.rent_buf.specs.Buffer.{Buffer}
use Rattle.rent_buf.specs.Parts.{Parts}
use Rattle.ring_core.specs.declared.mem_ring.ExecRefusal.{ExecRefusal}
use Rattle.machine.specs.declared.request.Request.{Request}
use Rattle.machine.specs.declared.request.Told.{Told}
use Rattle.machine.specs.Payloads.{StoresIf}
use Rattle.ring_core.specs.Bodies.{body_comes}
use Rattle.machine.specs.Request.{IsHolding, held_after, held_of, plain_request, stored_if}
use Rattle.ring_core.specs.Ring.{RingView}
use Rattle.machine.proofs.Numbers.{same-or-not}
use Rattle.machine.proofs.Requests.{request-is}
use Rattle.driver_core.specs.declared.op.Executed.{Executed}
use Rattle.driver_core.specs.declared.slot.Slot.{Slot}
use Rattle.driver_core.specs.Op.{number_of}
use Rattle.driver_core.specs.Operations.{StoresAt}
use Rattle.driver_core.specs.Ops.{Ops}
use Rattle.driver_core.specs.Requests.{request_at, request_in}
use Rattle.driver_core.specs.Slot.{FillsIf, FillsSlot, fits_in, number_at}
use Rattle.driver_core.proofs.Maps.{put-same, put-other}
use Rattle.uring_driver.specs.declared.uring.IoUringDriver.{IoUringDriver}
use Rattle.uring_driver.specs.Executed.{ExecutesOver}
use Rattle.uring_driver.specs.Op.{ops_in}
use Rattle.op_driver.specs.Returned.{IsBack, IsBackOf, KeepsBack}
use Rattle.op_driver.proofs.Returned.{same_back, shape_plain, way_plain}

-- Bytes that are stored in what a request holds leave its shape, and what it sends.
holding_back : {B : Type 0} (buffer : B → Buffer) (request now : Request B Parts) (bytes : List ℕ)
    → IsHolding (plain_request buffer request) (held_after (plain_request buffer request) bytes) (plain_request buffer now)
    → IsBack buffer request now
holding_back buffer request now bytes holding = record {
  shape = sym (shape_plain buffer now) ∙ (holding.shape ∙ shape_plain buffer request);
  sent = λ sends. request-is (plain_request buffer now) (plain_request buffer request) holding.shape (holding.holds
      ∙ ap (λ way. stored_if way (held_of (plain_request buffer request)) bytes) (way_plain buffer request ∙ sends));
}

module _ {B : Type 0} (buffer : B → Buffer) (slots slots' : FinMap nat_cmp (Slot B)) (key : ℕ) (bytes : List ℕ) where
  -- Bytes that fit were stored in the slot of a key, or none were: so it is at each key that has a number.
  back_if : (o : Option (Slot B)) → get slots key ≡ o → (b : Bool) → fits_in buffer o (length bytes) ≡ b
      → FillsIf buffer b slots key bytes slots' → (k number : ℕ) → number_at slots k ≡ Some number
      → IsBackOf buffer (request_in (get slots k)) (request_in (get slots' k))
  back_if o there false fits same k number is =
      subst (λ m. IsBackOf buffer (request_in (get slots k)) (request_in (get m k))) (sym same) (same_back buffer (get slots k) number is)
  back_if None there true fits fills k number is = (let f : ⊥ = cc in absurd f)
  back_if (Some s) there true fits fills k number is =
      let filled = fills s there in
      let after = filled.after in
      let one : IsBackOf buffer (request_in (Some s)) (request_in (Some after)) =
      holding_back buffer s.request after.request bytes filled.request in
      subst (λ m. IsBackOf buffer (request_in (get slots k)) (request_in (get m k))) (sym filled.slots) (elim (same-or-not k key) [
        | inl e ↦ subst (λ x. IsBackOf buffer (request_in (get slots x)) (request_in (get (insert slots key after) x))) (sym e)
            (subst (λ x. IsBackOf buffer (request_in (get slots key)) (request_in x)) (sym (put-same slots key after))
            (subst (λ x. IsBackOf buffer (request_in x) (request_in (Some after))) (sym there) one))
        | inr e ↦ subst (λ x. IsBackOf buffer (request_in (get slots k)) (request_in x)) (sym (put-other slots key after k e))
            (same_back buffer (get slots k) number is)
      ])

  filled_back : FillsSlot buffer slots key bytes slots' → (k number : ℕ) → number_at slots k ≡ Some number
      → IsBackOf buffer (request_in (get slots k)) (request_in (get slots' k))
  filled_back fills = back_if (get slots key) refl (fits_in buffer (get slots key) (length bytes)) refl fills

-- Where nothing changed each request is as it was.
unchanged_back : {B : Type 0} (buffer : B → Buffer) (before after : Ops B) → after ≡ before → KeepsBack buffer before after
unchanged_back buffer before after same = λ op held.
    subst (λ o. IsBackOf buffer (request_at before op) (request_at o op)) (sym same)
    (same_back buffer (get before.slots.values op.key) (number_of op) held)

-- So it is where bytes came, or none.
stored_back : {B : Type 0} (buffer : B → Buffer) (before after : Ops B) (word : ℕ) (got : List ℕ) (b : Bool)
    → StoresIf (StoresAt buffer) b before word got after → KeepsBack buffer before after
stored_back buffer before after word got true stored = λ op held.
    filled_back buffer before.slots.values after.slots.values word got stored.fills op.key (number_of op) held
stored_back buffer before after word got false same = unchanged_back buffer before after same

-- An execution leaves the request of each operation but for bytes that it reads.
pub executed_back : {B : Type 0} (buffer : B → Buffer) (old new : IoUringDriver RingView B) (place : ℕ) (told : Told)
    (result : Result Executed ExecRefusal) → ExecutesOver buffer old place told new result → OnErr result (new ≡ old)
    → KeepsBack buffer (ops_in old) (ops_in new)
executed_back buffer old new place told (Ok answer) is err =
    let made = is.executed in
    stored_back buffer (ops_in old) (ops_in new) is.completion.word made.got (body_comes made.finishes.flight.entry.body told) made.stored
executed_back buffer old new place told (Err why) is err = unchanged_back buffer (ops_in old) (ops_in new) (ap ops_in err)
