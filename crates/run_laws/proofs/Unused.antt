-- A user gives up a handle by a Close alone, and doesn't hold what an operation makes.
use Rattle.std.proofs.Common.{◌≡◌, ◌⊎◌, inl, inr, ℕ, ◌<◌, Bool, true, false, List, [], ◌∷◌, ◌++◌, length, map, Option}
use Rattle.std.proofs.Common.{None, Some, slice_get, refl, sym, ◌∙◌, ap, subst, arith, true≢false, length-append}
use Rattle.std.proofs.lemmas.List.{append-nil}
use Rattle.rent_buf.specs.Buffer.{Buffer}
use Rattle.rent_buf.specs.Parts.{Parts}
use Rattle.machine.specs.declared.request.Request.{Request}
use Rattle.machine.specs.declared.request.Told.{Told}
use Rattle.machine.specs.declared.ledger.Event.{Event}
use Rattle.machine.specs.declared.ledger.Event.TheVariants.{Give, Feed, FeedMessage, End, Look, Close, Submit, Poll, Drop, Cancel, Turn}
use Rattle.machine.specs.declared.ledger.Event.TheVariants.{Exec}
use Rattle.machine.specs.declared.ledger.Event.TheVariants.{NewCanceller, NewHandle, CancelAll}
use Rattle.machine.specs.declared.ledger.Refusal.{Refusal}
use Rattle.machine.specs.declared.ledger.Reply.TheVariants.{Released}
use Rattle.machine.specs.Lists.{passes}
use Rattle.machine.specs.Request.{call_of, sent_of}
use Rattle.machine.specs.Effect.{made_by}
use Rattle.machine.specs.Ledger.{Ledger, Operation, Owner, Place, InQueue, InFlight, InDone, Reaped, Gone, Queued, Req, Item, Op}
use Rattle.machine.specs.Ledger.{new_operation, user_holds, is_under_marked, group_under, members}
use Rattle.machine.specs.Queue.{with_op, take_all, is_unheld}
use Rattle.machine.specs.Turn.{made_owners, effect_of, exec_op, exec_step, complete_at}
use Rattle.machine.specs.Step.{new_owner, step, row, with_new_op, submit_if, group_of, with_mark, handed_over, poll_at, poll_step}
use Rattle.machine.specs.Step.{with_drop, drop_at, drop_step, as_user, with_user, close_if}
use Rattle.machine.specs.Refusal.{cause}
use Rattle.machine.specs.Closes.{AreKnown}
use Rattle.machine.proofs.Releasing.{released-beside}
use Rattle.machine.proofs.Numbers.{same-or-not, below-or-not}
use Rattle.machine.proofs.Amended.{length-amended}
use Rattle.machine.proofs.Appended.{get-append-within, get-append-end}
use Rattle.machine.proofs.Staying.{stays-take_all, stays-push, stays-push_each, stays-leave, stays-reap_each}
use Rattle.machine.proofs.Users.{user-with_user, user-with_user-other}
use Rattle.machine.proofs.Closing.{known-lists}
use Rattle.machine.proofs.Turning.{grows-effect}
use Rattle.machine.proofs.Stepping.{step-refused, step-row}

-- A handle is there, and its user doesn't hold it.
abbrev pub Unused : Ledger → ℕ → Type 0
Unused L h = (h < length L.owners) × (user_holds L h ≡ false)

-- The same owners.
unused-same : (L M : Ledger) (h : ℕ) → M.owners ≡ L.owners → Unused M h → Unused L h
unused-same L M h owners u =
    subst (λ os. (h < length os) × (user_holds (record L { owners = os }) h ≡ false)) owners u

-- Nor did its user hold it before an operation, and what that made, was handed over.
unused-handed : (L : Ledger) (made : Option ℕ) (h : ℕ) → Unused (handed_over L made) h → Unused L h
unused-handed L None h u = u
unused-handed L (Some k) h u =
    let count = length-amended (as_user true) L.owners k in
    let within : h < length L.owners = (let w = u.0 in omega (arith, w, count)) in
    elim (same-or-not h k) [
      | inl e ↦ absurd (true≢false
          (sym (user-with_user L k true (subst (λ j. j < length L.owners) e within)) ∙ ap (user_holds (with_user L k true)) (sym e) ∙ u.1))
      | inr e ↦ (within, sym (user-with_user-other L k h true e) ∙ u.1)
    ]

-- Nor before a poll, by the place of its operation.
unused-poll : (L : Ledger) (n task : ℕ) (o : Operation) (p : Place) (h : ℕ) → Unused (poll_at L n task o p).0 h → Unused L h
unused-poll L n task o InQueue h u = u
unused-poll L n task o InFlight h u = u
unused-poll L n task o (InDone outcome) h u = u
unused-poll L n task o (Reaped outcome) h u =
    let H : Ledger = handed_over L o.made in
    unused-handed L o.made h (unused-same H (poll_at L n task o (Reaped outcome)).0 h (stays-leave H n).owners u)
unused-poll L n task o Gone h u = u

-- Nor before a poll.
unused-poll_step : (L : Ledger) (n task : ℕ) (x : Option Operation) (h : ℕ) → Unused (poll_step L n task x).0 h → Unused L h
unused-poll_step L n task None h u = u
unused-poll_step L n task (Some o) h u = unused-poll L n task o o.place h u

-- A drop leaves the owners, by the place of its operation.
owners-drop : (L : Ledger) (n : ℕ) (p : Place) → (drop_at L n p).owners ≡ L.owners
owners-drop L n InQueue = (stays-push L (Queued.Cancel n)).owners
owners-drop L n InFlight = (stays-push L (Queued.Cancel n)).owners
owners-drop L n (InDone outcome) = (stays-push L (Queued.Cancel n)).owners
owners-drop L n (Reaped outcome) = (stays-leave L n).owners
owners-drop L n Gone = (stays-push L (Queued.Cancel n)).owners

-- A drop leaves the owners.
pub owners-drop_step : (L : Ledger) (n : ℕ) (x : Option Operation) → (drop_step L n x).0.owners ≡ L.owners
owners-drop_step L n None = refl
owners-drop_step L n (Some o) = owners-drop (with_op L n with_drop) n o.place

-- The push of a close leaves the owners.
pub owners-close_if : (b : Bool) (L : Ledger) (h : ℕ) → (close_if b L h).owners ≡ L.owners
owners-close_if true L h = (stays-push L (Queued.Close h)).owners
owners-close_if false L h = refl

-- So does a submission, under a marked group or not.
pub owners-submit_if : (b : Bool) (L : Ledger) (request : Request Buffer Parts) (group : Option ℕ) (linked : Bool) →
    (submit_if b L request group linked).0.owners ≡ L.owners
owners-submit_if true L request group linked = refl
owners-submit_if false L request group linked =
    (stays-push (with_new_op L (new_operation request group linked)) (Req (length L.ops))).owners

-- An Exec of an operation in flight makes a handle.
pub record Makes (L : Ledger) (e : Event) (h : ℕ) : Type 0 where
  pub place : ℕ
  pub n : ℕ
  pub told : Told
  pub operation : Operation
  pub event : e ≡ Exec place told
  pub item : slice_get L.flying place ≡ Some (Op n)
  pub there : slice_get L.ops n ≡ Some operation
  pub made : made_by (effect_of L operation.request told).outcome ≡ Some h

-- A handle whose owner isn't its user was so before one was made, or is that one.
unused-owners : (owners : List Owner) (made : Option ℕ) (h : ℕ) → h < length (owners ++ made_owners made) →
    passes (λ owner. owner.is_user) (slice_get (owners ++ made_owners made) h) ≡ false →
    ((h < length owners) × (passes (λ owner. owner.is_user) (slice_get owners h) ≡ false))
    ⊎ ((k : ℕ) × (made ≡ Some k) × (h ≡ length owners))
unused-owners owners None h within is =
    inl (subst (λ os. (h < length os) × (passes (λ owner. owner.is_user) (slice_get os h) ≡ false)) (append-nil owners) (within, is))
unused-owners owners (Some k) h within is = elim (below-or-not h (length owners)) [
  | inl lt ↦ inl (lt, sym (ap (passes (λ owner. owner.is_user)) (get-append-within owners (record { is_user = false }) h lt)) ∙ is)
  | inr past ↦ (
      let count = length-append owners (made_owners (Some k)) in
      inr (k, refl, omega (arith, count, within, past)))
]

-- A handle that its user doesn't hold after an operation was executed is so before, or was made by it.
unused-exec_op : (L : Ledger) (n : ℕ) (told : Told) (x : Option Operation) (h : ℕ) → AreKnown L → Unused (exec_op L n told x) h →
    Unused L h ⊎ ((o : Operation) × (x ≡ Some o) × (made_by (effect_of L o.request told).outcome ≡ Some h))
unused-exec_op L n told None h known u = inl u
unused-exec_op L n told (Some o) h known u =
    let grows = grows-effect L.world (call_of o.request) (sent_of o.request) told in
    elim (unused-owners L.owners (made_by (effect_of L o.request told).outcome) h u.0 u.1) [
      | inl v ↦ inl v
      | inr m ↦ inr (o, refl, m.1 ∙ ap Some (grows.last m.0 m.1 ∙ sym known.together ∙ sym m.2))
    ]

-- The same of an Exec.
unused-exec : (L : Ledger) (place : ℕ) (told : Told) (x : Option Item) (h : ℕ) → slice_get L.flying place ≡ x → AreKnown L →
    Unused (exec_step L place told x).0 h → Unused L h ⊎ Makes L (Exec place told) h
unused-exec L place told None h there known u = inl u
unused-exec L place told (Some (Op n)) h there known u =
    let C : Ledger = complete_at L place (Op n) in
    let E : Ledger = exec_op C n told (slice_get L.ops n) in
    elim (unused-exec_op C n told (slice_get L.ops n) h (known-lists L L.queue C.flying C.done known)
    (unused-same E (exec_step L place told (Some (Op n))).0 h (released-beside told E n).owners u)) [
      | inl v ↦ inl v
      | inr m ↦ inr (record {
        place = place;
        n = n;
        told = told;
        operation = m.0;
        event = refl;
        item = there;
        there = m.1;
        made = m.2;
      })
    ]
unused-exec L place told (Some (Item.Close k)) h there known u = inl u

-- A handle that its user doesn't hold after an event wasn't held by it before, or the event closes or makes it.
unused-row : (L : Ledger) (e : Event) (h : ℕ) → AreKnown L → Unused (row L e).0 h → Unused L h ⊎ (e ≡ Close h) ⊎ Makes L e h
unused-row L (Give kind) h known u = elim (below-or-not h (length L.owners)) [
  | inl lt ↦ inl (lt, sym (ap (passes (λ owner. owner.is_user)) (get-append-within L.owners new_owner h lt)) ∙ u.1)
  | inr past ↦ (
      let count = length-append L.owners (new_owner ∷ []) in
      let at : h ≡ length L.owners = (let w = u.0 in omega (arith, count, w, past)) in
      let f : true ≡ false = sym (ap (passes (λ owner. owner.is_user))
      (ap (slice_get (L.owners ++ new_owner ∷ [])) at ∙ get-append-end L.owners new_owner)) ∙ u.1 in
      let g : ⊥ = cc in absurd g)
]
unused-row L (Feed k bytes) h known u = inl u
unused-row L (FeedMessage k addr bytes) h known u = inl u
unused-row L (End k) h known u = inl u
unused-row L (Look k) h known u = inl u
unused-row L (Close k) h known u = elim (same-or-not h k) [
  | inl e ↦ inr (inl (ap Close (sym e)))
  | inr e ↦ (
      let U : Ledger = with_user L k false in
      let v : Unused U h = unused-same U (close_if (is_unheld U k) U k) h (owners-close_if (is_unheld U k) U k) u in
      let count = length-amended (as_user false) L.owners k in
      inl ((let w = v.0 in omega (arith, w, count)), sym (user-with_user-other L k h false e) ∙ v.1))
]
unused-row L (Submit request under linked) h known u =
    inl (unused-same L (row L (Submit request under linked)).0 h
    (owners-submit_if (is_under_marked L under) L request (group_under L under) linked) u)
unused-row L (Poll n task) h known u = inl (unused-poll_step L n task (slice_get L.ops n) h u)
unused-row L (Drop n) h known u = inl (unused-same L (row L (Drop n)).0 h (owners-drop_step L n (slice_get L.ops n)) u)
unused-row L (Cancel n) h known u = inl (unused-same L (row L (Cancel n)).0 h (stays-push L (Queued.Cancel n)).owners u)
unused-row L NewCanceller h known u = inl u
unused-row L (NewHandle c) h known u = inl u
unused-row L (CancelAll c) h known u =
    let g : ℕ = group_of L c in
    inl (unused-same L (row L (CancelAll c)).0 h (stays-push_each (with_mark L g) (map Queued.Cancel (members L g))).owners u)
unused-row L Turn h known u =
    inl (unused-same L (row L Turn).0 h
    ((stays-reap_each (record (take_all L) { done = [] }) (take_all L).done).owners ∙ (stays-take_all L).owners) u)
unused-row L (Exec place told) h known u = elim (unused-exec L place told (slice_get L.flying place) h refl known u) [
  | inl v ↦ inl v
  | inr m ↦ inr (inr m)
]

-- The same of a step: the event that closes it is released.
unused-cause : (L : Ledger) (e : Event) (h : ℕ) (c : Option Refusal) → cause L e ≡ c → AreKnown L → Unused (step L e).0 h →
    Unused L h ⊎ ((e ≡ Close h) × ((step L e).1 ≡ Released)) ⊎ ((cause L e ≡ None) × Makes L e h)
unused-cause L e h None is known u =
    let s = step-row L e is in
    elim (unused-row L e h known (subst (λ r. Unused r.0 h) s u)) [
      | inl v ↦ inl v
      | inr x ↦ elim x [
        | inl f ↦ inr (inl (f, ap (λ r. r.1) s ∙ ap (λ y. (row L y).1) f))
        | inr m ↦ inr (inr (is, m))
      ]
    ]
unused-cause L e h (Some refusal) is known u = inl (subst (λ r. Unused r.0 h) (step-refused L e refusal is) u)

-- A step.
pub unused-step : (L : Ledger) (e : Event) (h : ℕ) → AreKnown L → Unused (step L e).0 h →
    Unused L h ⊎ ((e ≡ Close h) × ((step L e).1 ≡ Released)) ⊎ ((cause L e ≡ None) × Makes L e h)
unused-step L e h known u = unused-cause L e h (cause L e) refl known u
