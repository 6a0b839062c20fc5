-- What each event counts of cancellers and cancel handles: one more exactly where its reply gives a number, and that is their count.
use Rattle.std.proofs.Common.{◌≡◌, ◌⊎◌, inl, inr, ℕ, suc, ◌+◌, cond, Bool, true, false, List, [], ◌∷◌, length, Option, None}
use Rattle.std.proofs.Common.{Some, refl, sym, ◌∙◌, ap, arith, length-append}
use Rattle.std.specs.Option.{is_some}
use Rattle.rent_buf.specs.Buffer.{Buffer}
use Rattle.rent_buf.specs.Parts.{Parts}
use Rattle.machine.specs.declared.request.Request.{Request}
use Rattle.machine.specs.declared.ledger.Event.{Event}
use Rattle.machine.specs.declared.ledger.Event.TheVariants.{Give, Feed, FeedMessage, End, Look, Close, Submit, Poll, Drop, Cancel, Turn}
use Rattle.machine.specs.declared.ledger.Event.TheVariants.{Exec}
use Rattle.machine.specs.declared.ledger.Event.TheVariants.{NewCanceller, NewHandle, CancelAll}
use Rattle.machine.specs.declared.ledger.Refusal.{Refusal}
use Rattle.machine.specs.declared.ledger.Reply.{Reply}
use Rattle.machine.specs.declared.ledger.Reply.TheVariants.{Canceller, CancelHandle}
use Rattle.machine.specs.Ledger.{Ledger, empty, is_under_marked, group_under}
use Rattle.machine.specs.Refusal.{cause}
use Rattle.machine.specs.Step.{step, row, answered, submit_if, group_of}
use Rattle.machine.specs.Run.{replies, ledger_before}
use Rattle.run_laws.specs.Groups.{creates_canceller, creates_handle, CancellersInOrder, HandlesInOrder}
use Rattle.machine.proofs.Amended.{length-amended}
use Rattle.machine.proofs.Grouping.{may_group, groups-row, groups-submit, groups-cancel_all}
use Rattle.run_laws.proofs.Numbers.{counted-after}
use Rattle.run_laws.proofs.Replies.{reply-at, reply-event}
use Rattle.run_laws.proofs.GroupReplies.{is_of_group, plain-row}

-- The number of a new canceller that a reply gives.
abbrev pub canceller_in : Reply → Option ℕ
canceller_in (Canceller c) = Some c
canceller_in _ = None

-- The number of a new cancel handle that a reply gives.
abbrev pub handle_in : Reply → Option ℕ
handle_in (CancelHandle handle) = Some handle
handle_in _ = None

-- A reply gives a number, which is what was counted before, and one more is counted; or it gives none, and as many are.
abbrev pub Counts : (Reply → Option ℕ) → ℕ → ℕ → Reply → Type 0
Counts number old new r = ((number r ≡ None) × (new ≡ old)) ⊎ ((number r ≡ Some old) × (new ≡ suc old))

-- What doesn't speak of cancellers gives neither number.
plain-canceller : (r : Reply) → is_of_group r ≡ false → canceller_in r ≡ None
plain-canceller (Canceller c) h = (let f : ⊥ = cc in absurd f)
plain-canceller r h = refl

-- The same of cancel handles.
plain-handle : (r : Reply) → is_of_group r ≡ false → handle_in r ≡ None
plain-handle (CancelHandle handle) h = (let f : ⊥ = cc in absurd f)
plain-handle r h = refl

-- The reply that gives the number of a new canceller.
pub canceller-is : (r : Reply) (c : ℕ) → canceller_in r ≡ Some c → r ≡ Canceller c
canceller-is (Canceller b) c h = (let q : b ≡ c = cc in ap Canceller q)
canceller-is r c h = (let f : ⊥ = cc in absurd f)

-- The reply that gives the number of a new cancel handle.
pub handle-is : (r : Reply) (handle : ℕ) → handle_in r ≡ Some handle → r ≡ CancelHandle handle
handle-is (CancelHandle b) handle h = (let q : b ≡ handle = cc in ap CancelHandle q)
handle-is r handle h = (let f : ⊥ = cc in absurd f)

-- An event counts cancellers and cancel handles.
pub record CountsBoth (L : Ledger) (s : Ledger × Reply) : Type 0 where
  pub cancellers : Counts canceller_in (length L.cancellers) (length s.0.cancellers) s.1
  pub handles : Counts handle_in (length L.cancel_handles) (length s.0.cancel_handles) s.1

-- An event that changes no groups counts none.
counts-plain : (L : Ledger) (e : Event) → may_group e ≡ false → CountsBoth L (row L e)
counts-plain L e plain =
    let s = groups-row L e plain in
    let r = plain-row L e plain in
    record {
      cancellers = inl (plain-canceller (row L e).1 r, ap (λ G. length G.cancellers) s.groups);
      handles = inl (plain-handle (row L e).1 r, ap (λ G. length G.cancel_handles) s.groups);
    }

-- Nor does a submission, under a marked group or not.
counts-submit : (b : Bool) (L : Ledger) (request : Request Buffer Parts) (group : Option ℕ) (linked : Bool) →
    CountsBoth L (submit_if b L request group linked)
counts-submit true L request group linked = record { cancellers = inl (refl, refl); handles = inl (refl, refl) }
counts-submit false L request group linked =
    let s = groups-submit L request group linked in record {
      cancellers = inl (refl, ap (λ G. length G.cancellers) s.0);
      handles = inl (refl, ap (λ G. length G.cancel_handles) s.0);
    }

-- By its row.
counts-row : (L : Ledger) (e : Event) → CountsBoth L (row L e)
counts-row L (Give kind) = counts-plain L (Give kind) refl
counts-row L (Feed k bytes) = counts-plain L (Feed k bytes) refl
counts-row L (FeedMessage k addr bytes) = counts-plain L (FeedMessage k addr bytes) refl
counts-row L (End k) = counts-plain L (End k) refl
counts-row L (Look k) = counts-plain L (Look k) refl
counts-row L (Close k) = counts-plain L (Close k) refl
counts-row L (Submit request under linked) = counts-submit (is_under_marked L under) L request (group_under L under) linked
counts-row L (Poll n task) = counts-plain L (Poll n task) refl
counts-row L (Drop n) = counts-plain L (Drop n) refl
counts-row L (Cancel n) = counts-plain L (Cancel n) refl
counts-row L NewCanceller = record {
  cancellers = inr (refl, (let e = length-append L.cancellers (length L.groups ∷ []) in omega (arith, e)));
  handles = inl (refl, refl);
}
counts-row L (NewHandle c) = record {
  cancellers = inl (refl, refl);
  handles = inr (refl, (let e = length-append L.cancel_handles (group_of L c ∷ []) in omega (arith, e)));
}
counts-row L (CancelAll c) =
    let s = groups-cancel_all L c (group_of L c) in record {
      cancellers = inl (refl, ap (λ G. length G.cancellers) s.0 ∙ length-amended _ L.cancellers c);
      handles = inl (refl, ap (λ G. length G.cancel_handles) s.0);
    }
counts-row L Turn = counts-plain L Turn refl
counts-row L (Exec place told) = counts-plain L (Exec place told) refl

-- With whatever cause.
counts-answered : (L : Ledger) (e : Event) (c : Option Refusal) → CountsBoth L (answered c L e)
counts-answered L e None = counts-row L e
counts-answered L e (Some refusal) = record { cancellers = inl (refl, refl); handles = inl (refl, refl) }

-- A step.
pub counts-step : (L : Ledger) (e : Event) → CountsBoth L (step L e)
unfolding step
counts-step L e = counts-answered L e (cause L e)

-- A reply that gives no number creates no canceller, and one that gives a number does.
creates-canceller : (r : Reply) (x : Option ℕ) → canceller_in r ≡ x → creates_canceller r ≡ is_some x
creates-canceller (Canceller c) x h = ap is_some h
creates-canceller r x h = ap is_some h

-- The same of cancel handles.
creates-handle : (r : Reply) (x : Option ℕ) → handle_in r ≡ x → creates_handle r ≡ is_some x
creates-handle (CancelHandle handle) x h = ap is_some h
creates-handle r x h = ap is_some h

-- What an event counts, as a sum.
counts-sum : (number : Reply → Option ℕ) (creates : Reply → Bool) (old new : ℕ) (r : Reply) →
    ((x : Option ℕ) → number r ≡ x → creates r ≡ is_some x) → Counts number old new r → new ≡ cond (creates r) 1 0 + old
counts-sum number creates old new r tests (inl s) =
    let z = ap {A = Bool} {B = ℕ} (λ b. cond b 1 0) (tests None s.0) in let q = s.1 in omega (arith, z, q)
counts-sum number creates old new r tests (inr s) =
    let z = ap {A = Bool} {B = ℕ} (λ b. cond b 1 0) (tests (Some old) s.0) in let q = s.1 in omega (arith, z, q)

-- A step counts cancellers.
cancellers-step : (L : Ledger) (e : Event) →
    length (step L e).0.cancellers ≡ cond (creates_canceller (step L e).1) 1 0 + length L.cancellers
cancellers-step L e =
    counts-sum canceller_in creates_canceller (length L.cancellers) (length (step L e).0.cancellers) (step L e).1
    (creates-canceller (step L e).1) (counts-step L e).cancellers

-- And cancel handles.
handles-step : (L : Ledger) (e : Event) →
    length (step L e).0.cancel_handles ≡ cond (creates_handle (step L e).1) 1 0 + length L.cancel_handles
handles-step L e =
    counts-sum handle_in creates_handle (length L.cancel_handles) (length (step L e).0.cancel_handles) (step L e).1
    (creates-handle (step L e).1) (counts-step L e).handles

-- The number that an event counts is what was counted before.
counts-number : (number : Reply → Option ℕ) (old new n : ℕ) (r : Reply) → Counts number old new r → number r ≡ Some n → n ≡ old
counts-number number old new n r (inl s) h = (let q : None ≡ Some n = sym s.0 ∙ h in let f : ⊥ = cc in absurd f)
counts-number number old new n r (inr s) h = (let q : old ≡ n = (let w = sym s.0 ∙ h in cc) in sym q)

-- Cancellers are numbered in order, from 0.
pub cancellers-in-order : (capacity : ℕ) (events : List Event) → CancellersInOrder (replies (empty capacity) events)
cancellers-in-order capacity events c i h =
    let L : Ledger = ledger_before capacity events i in
    let e = reply-event (empty capacity) events i (Canceller c) h in
    let now : (step L e.0).1 ≡ Canceller c = (let q = sym (reply-at (empty capacity) events i e.0 e.1) ∙ h in cc) in
    counts-number canceller_in (length L.cancellers) (length (step L e.0).0.cancellers) c (step L e.0).1 (counts-step L e.0).cancellers
    (ap canceller_in now)
    ∙ counted-after (λ M. length M.cancellers) creates_canceller cancellers-step (empty capacity) events i ∙ omega arith

-- So are cancel handles.
pub handles-in-order : (capacity : ℕ) (events : List Event) → HandlesInOrder (replies (empty capacity) events)
handles-in-order capacity events handle i h =
    let L : Ledger = ledger_before capacity events i in
    let e = reply-event (empty capacity) events i (CancelHandle handle) h in
    let now : (step L e.0).1 ≡ CancelHandle handle = (let q = sym (reply-at (empty capacity) events i e.0 e.1) ∙ h in cc) in
    counts-number handle_in (length L.cancel_handles) (length (step L e.0).0.cancel_handles) handle (step L e.0).1
    (counts-step L e.0).handles (ap handle_in now)
    ∙ counted-after (λ M. length M.cancel_handles) creates_handle handles-step (empty capacity) events i ∙ omega arith
