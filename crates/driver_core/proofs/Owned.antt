-- What the slot of a token says of its operation.
use Rattle.std.proofs.Common.{◌≡◌, ℕ, Bool, true, false, Option, Some, None, refl, sym, ◌∙◌, ap}
use Rattle.std.specs.Prelude.{◌&&◌, not}
use Rattle.rent_buf.specs.Buffer.{Buffer}
use Rattle.op_slots.specs.declared.lifecycle.Lifecycle.TheVariants.{Completed}
use Rattle.machine.specs.declared.request.Outcome.{Outcome}
use Rattle.machine.specs.Ledger.{Ledger, Place, InQueue, InFlight, InDone, Reaped, Gone, is_kept, is_owned}
use Rattle.machine.specs.Request.{named, plain_request}
use Rattle.machine.proofs.Requests.{named-holding, named-mapped}
use Rattle.driver_core.specs.declared.slot.Slot.{Slot}
use Rattle.driver_core.specs.Slot.{is_owned_life}
use Rattle.driver_core.specs.Slots.{SlotFor, waiting, life_of, owned_life}

-- The operation of a slot is its user's, and so the slot's life is that of its place.
pub record Owned {B : Type 0} (buffer : B → Buffer) (L : Ledger) (s : Slot B) : Type 0 where
  pub fit : SlotFor buffer L.ops s
  pub not_dropped : fit.operation.dropped ≡ false
  pub owned : is_owned fit.operation ≡ true
  pub life : s.life ≡ owned_life fit.operation.place fit.operation.task

-- An operation whose slot is its user's wasn't dropped.
pub not-dropped : (b : Bool) (p : Place) (t : Option ℕ) → is_owned_life (life_of b p t) ≡ true → b ≡ false
not-dropped true p t h = (let f : ⊥ = cc in absurd f)
not-dropped false p t h = refl

-- A slot that is its user's stands for an operation that is.
pub owned-slot : {B : Type 0} (buffer : B → Buffer) (L : Ledger) (s : Slot B) → SlotFor buffer L.ops s → is_owned_life s.life ≡ true →
    Owned buffer L s
owned-slot buffer L s m h =
    let o = m.operation in
    let d = not-dropped o.dropped o.place o.task (sym (ap is_owned_life m.life) ∙ h) in
    record {
      fit = m;
      not_dropped = d;
      owned = ap (λ b. is_kept o.place && not b) d ∙ ap (λ b. b && true) m.live;
      life = m.life ∙ ap (λ b. life_of b o.place o.task) d;
    }

-- A slot that waits isn't completed.
waiting-not : (t : Option ℕ) (r : Outcome) → waiting t ≡ Completed r → ⊥
waiting-not None r e = cc
waiting-not (Some t) r e = cc

-- An operation whose slot is completed was reaped.
take-reaped : (p : Place) (t : Option ℕ) (r : Outcome) → is_kept p ≡ true → owned_life p t ≡ Completed r → p ≡ Reaped r
take-reaped InQueue t r h e = absurd (waiting-not t r e)
take-reaped InFlight t r h e = absurd (waiting-not t r e)
take-reaped (InDone o) t r h e = absurd (waiting-not t r e)
take-reaped (Reaped o) t r h e = (let q : o ≡ r = cc in ap (λ x. Reaped x) q)
take-reaped Gone t r h e = (let f : ⊥ = cc in absurd f)

-- The operation of a slot that is its user's.
module _ {B : Type 0} (buffer : B → Buffer) (L : Ledger) (s : Slot B) (my : Owned buffer L s) where
  -- The slot names what its operation does.
  pub owned-names : named my.fit.operation.request ≡ named s.request
  owned-names =
      sym (named-holding my.fit.operation.request my.fit.operation.buffer (plain_request buffer s.request) my.fit.request)
      ∙ named-mapped buffer (λ parts. parts) s.request

  -- Where the slot is completed it was reaped.
  pub owned-reaped : (r : Outcome) → s.life ≡ Completed r → my.fit.operation.place ≡ Reaped r
  owned-reaped r life = take-reaped my.fit.operation.place my.fit.operation.task r my.fit.live (sym my.life ∙ life)
