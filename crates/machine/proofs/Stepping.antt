-- A step by its cause, and what an event that isn't refused finds.
use Rattle.std.proofs.Common.{◌≡◌, inl, inr, ℕ, Bool, true, false, not, ◌&&◌, ◌||◌, List, [], ◌∷◌, length, Option, Some, None, slice_get}
use Rattle.std.proofs.Common.{refl, sym}
use Rattle.std.proofs.Common.{◌∙◌, ap, ◌<◌}
use Rattle.std.specs.Prelude.{nat_le}
use Rattle.std.proofs.lemmas.Bool.Decides.{leb_tells}
use Rattle.std.proofs.lemmas.Option.{slice_get_within}
use Rattle.rent_buf.specs.Buffer.{Buffer}
use Rattle.rent_buf.specs.Parts.{Parts}
use Rattle.machine.specs.declared.request.Request.{Request}
use Rattle.machine.specs.declared.request.Told.{Told}
use Rattle.machine.specs.declared.ledger.Event.{Event}
use Rattle.machine.specs.declared.ledger.Event.TheVariants.{Close, Submit, NewHandle, CancelAll, Exec}
use Rattle.machine.specs.declared.ledger.Refusal.{Refusal}
use Rattle.machine.specs.declared.ledger.Refusal.TheVariants.{NoOp, NoCanceller, NoHandle, Full, NotFlying, Waiting, BadOutcome}
use Rattle.machine.specs.declared.ledger.Reply.TheVariants.{Refused}
use Rattle.machine.specs.Lists.{passes, has_number}
use Rattle.machine.specs.Request.{named}
use Rattle.machine.specs.Ledger.{Ledger, Operation, Owner, Item, is_kept, is_owned, user_holds}
use Rattle.machine.specs.Refusal.{cause, refused_if, lacks_op, lacks_handle, allowed, has_no_canceller, is_full, waits}
use Rattle.machine.specs.Step.{step, row, answered}
use Rattle.machine.proofs.Numbers.{same-or-not}
use Rattle.machine.proofs.Leaving.{has-other}

-- A refused event changes nothing.
pub step-refused : (L : Ledger) (e : Event) (refusal : Refusal) → cause L e ≡ Some refusal → step L e ≡ (L, Refused refusal)
unfolding step
step-refused L e refusal h = ap (λ c. answered c L e) h

-- An event that isn't refused has its row.
pub step-row : (L : Ledger) (e : Event) → cause L e ≡ None → step L e ≡ row L e
unfolding step
step-row L e h = ap (λ c. answered c L e) h

-- An operation of a number that is its user's.
pub record OwnedAt (L : Ledger) (n : ℕ) : Type 0 where
  pub operation : Operation
  pub there : slice_get L.ops n ≡ Some operation
  pub kept : is_kept operation.place ≡ true
  pub undropped : operation.dropped ≡ false

-- A test that refuses nothing passes.
unrefused : (b : Bool) → refused_if (not b) NoOp None ≡ None → b ≡ true
unrefused true h = refl
unrefused false h = (let f : ⊥ = cc in absurd f)

-- What is its user's is neither gone nor dropped.
kept-undropped : (kept dropped : Bool) → (kept && not dropped) ≡ true → (kept ≡ true) × (dropped ≡ false)
kept-undropped true true h = (let f : ⊥ = cc in absurd f)
kept-undropped true false h = (refl, refl)
kept-undropped false dropped h = (let f : ⊥ = cc in absurd f)

-- What was looked up and is its user's is there.
owned-there : (L : Ledger) (n : ℕ) (x : Option Operation) → slice_get L.ops n ≡ x → passes is_owned x ≡ true → OwnedAt L n
owned-there L n None there h = (let f : ⊥ = cc in absurd f)
owned-there L n (Some o) there h =
    let k = kept-undropped (is_kept o.place) o.dropped h in record { operation = o; there = there; kept = k.0; undropped = k.1 }

-- An event about an operation that isn't refused as NoOp finds it, and it is its user's.
pub found : (L : Ledger) (n : ℕ) → refused_if (lacks_op L n) NoOp None ≡ None → OwnedAt L n
found L n h = owned-there L n (slice_get L.ops n) refl (unrefused (passes is_owned (slice_get L.ops n)) h)

-- What has no cause of an Exec is in flight.
item-there : (L : Ledger) (told : Told) (b waiting : Bool) (x : Option Item) →
    refused_if b NotFlying (refused_if waiting Waiting (refused_if (not (passes (λ item. allowed L item told) x)) BadOutcome None)) ≡ None →
    (item : Item) × (x ≡ Some item)
item-there L told true waiting x h = (let f : ⊥ = cc in absurd f)
item-there L told false true x h = (let f : ⊥ = cc in absurd f)
item-there L told false false None h = (let f : ⊥ = cc in absurd f)
item-there L told false false (Some item) h = (item, refl)

-- An Exec that isn't refused finds an item in flight.
pub executed-there : (L : Ledger) (place : ℕ) (told : Told) → cause L (Exec place told) ≡ None → (item : Item)
    × (slice_get L.flying place ≡ Some item)
executed-there L place told h =
    item-there L told (nat_le (length L.flying) place) (passes (waits L) (slice_get L.flying place)) (slice_get L.flying place) h

-- A test whose opposite refuses nothing, beside none other, passes.
holds-if : (b : Bool) → refused_if (not b || false) NoHandle None ≡ None → b ≡ true
holds-if true h = refl
holds-if false h = (let f : ⊥ = cc in absurd f)

-- A Close that isn't refused is one of a handle that its user holds.
pub closed-held : (L : Ledger) (h : ℕ) → cause L (Close h) ≡ None → user_holds L h ≡ true
closed-held L h unrefused = holds-if (user_holds L h) unrefused

-- A user holds no handle but those that are there.
pub held-there : (L : Ledger) (h : ℕ) → user_holds L h ≡ true → h < length L.owners
held-there L h holds = at (slice_get L.owners h) refl holds
  where
    at : (x : Option Owner) → slice_get L.owners h ≡ x → passes (λ owner. owner.is_user) x ≡ true → h < length L.owners
    at None there is = (let f : ⊥ = cc in absurd f)
    at (Some o) there is = slice_get_within L.owners h o there

-- Where no handle is lacking, the user holds the first, and no later one is lacking.
lacks-none : (held : Bool) (rest : Bool) → (not held || rest) ≡ false → (held ≡ true) × (rest ≡ false)
lacks-none true rest h = (refl, h)
lacks-none false rest h = (let f : ⊥ = cc in absurd f)

-- Where no handle is lacking, the user holds each.
pub names-held : (L : Ledger) (names : List ℕ) → lacks_handle L names ≡ false → (h : ℕ) → has_number h names ≡ true → user_holds L h ≡ true
names-held L [] none h is = (let f : ⊥ = cc in absurd f)
names-held L (k ∷ names) none h is =
    let both = lacks-none (user_holds L k) (lacks_handle L names) none in
    elim (same-or-not h k) [
      | inl e ↦ ap (user_holds L) e ∙ both.0
      | inr e ↦ names-held L names both.1 h (sym (has-other h k names e) ∙ is)
    ]

-- A first test that refuses nothing fails.
pub refuses-none : (b : Bool) (refusal : Refusal) (next : Option Refusal) → refused_if b refusal next ≡ None → b ≡ false
refuses-none true refusal next h = (let f : ⊥ = cc in absurd f)
refuses-none false refusal next h = refl

-- Nor does any later test refuse anything.
refuses-next : (b : Bool) (refusal : Refusal) (next : Option Refusal) → refused_if b refusal next ≡ None → next ≡ None
refuses-next true refusal next h = (let f : ⊥ = cc in absurd f)
refuses-next false refusal next h = h

-- What is refused of an Exec of what waits for nothing.
abbrev exec_next : Ledger → ℕ → Told → Option Refusal
exec_next L place told = refused_if (not (passes (λ item. allowed L item told) (slice_get L.flying place))) BadOutcome None

-- An Exec that isn't refused is one of what waits for nothing.
pub executed-free : (L : Ledger) (place : ℕ) (told : Told) → cause L (Exec place told) ≡ None →
    passes (waits L) (slice_get L.flying place) ≡ false
executed-free L place told h =
    refuses-none (passes (waits L) (slice_get L.flying place)) Waiting (exec_next L place told)
    (refuses-next (nat_le (length L.flying) place) NotFlying
    (refused_if (passes (waits L) (slice_get L.flying place)) Waiting (exec_next L place told)) h)

-- What is refused of a Submit, once its cancel handle is there: a handle that it names isn't its user's, or there are too many.
abbrev submit_next : Ledger → Request Buffer Parts → Option ℕ → Bool → Option Refusal
submit_next L request under linked =
    refused_if (lacks_handle L (named request)) NoHandle (refused_if (is_full L (Submit request under linked)) Full None)

-- A Submit that isn't refused names handles that its user holds.
pub submitted-held : (L : Ledger) (request : Request Buffer Parts) (under : Option ℕ) (linked : Bool) →
    cause L (Submit request under linked) ≡ None → (h : ℕ) → has_number h (named request) ≡ true → user_holds L h ≡ true
submitted-held L request under linked unrefused h names =
    names-held L (named request)
    (refuses-none (lacks_handle L (named request)) NoHandle (refused_if (is_full L (Submit request under linked)) Full None)
    (refuses-next (has_no_canceller L (Submit request under linked)) NoCanceller (submit_next L request under linked) unrefused)) h names

-- What isn't at or past the end is below it.
below-end : (n end : ℕ) (refusal : Refusal) (next : Option Refusal) → refused_if (nat_le end n) refusal next ≡ None → n < end
below-end n end refusal next h = elim (leb_tells end n) [
  | inl past ↦ absurd (let f : true ≡ false = sym past.0 ∙ refuses-none (nat_le end n) refusal next h in let g : ⊥ = cc in g)
  | inr within ↦ within.1
]

-- A Submit under a cancel handle that isn't refused finds it.
pub submitted-under : (L : Ledger) (request : Request Buffer Parts) (handle : ℕ) (linked : Bool) →
    cause L (Submit request (Some handle) linked) ≡ None → handle < length L.cancel_handles
submitted-under L request handle linked unrefused =
    below-end handle (length L.cancel_handles) NoCanceller (submit_next L request (Some handle) linked) unrefused

-- A NewHandle that isn't refused finds its canceller.
pub handle-canceller : (L : Ledger) (c : ℕ) → cause L (NewHandle c) ≡ None → c < length L.cancellers
handle-canceller L c unrefused = below-end c (length L.cancellers) NoCanceller None unrefused

-- So does a CancelAll.
pub cancel-canceller : (L : Ledger) (c : ℕ) → cause L (CancelAll c) ≡ None → c < length L.cancellers
cancel-canceller L c unrefused = below-end c (length L.cancellers) NoCanceller None unrefused
