-- What each change of a ledger makes of its closes, by how many there are of a handle; and that its handles stay known.
use Rattle.std.proofs.Common.{◌≡◌, inl, inr, ℕ, ◌+◌, ◌<◌, Bool, true, false, List, [], ◌∷◌, length}
use Rattle.std.proofs.Common.{Option, None, Some, slice_get, refl, sym, ◌∙◌, ap, arith}
use Rattle.std.specs.Prelude.{if◌then◌else◌, ◌==◌}
use Rattle.std.proofs.lemmas.List.{length-append}
use Rattle.machine.specs.declared.world.HandleState.{HandleState}
use Rattle.machine.specs.Lists.{amended, has_number}
use Rattle.machine.specs.Request.{named}
use Rattle.machine.specs.Ledger.{Ledger, Operation, with_made, holds, Queued, Req, Cancel, Item, Op}
use Rattle.machine.specs.Queue.{with_op, take_one, leader_behind, take_behind, take_each, take_all, make_room, push, push_each}
use Rattle.machine.specs.Turn.{complete_at}
use Rattle.machine.specs.Step.{new_owner, give_step, with_handle, as_user, with_user, with_new_op}
use Rattle.machine.specs.Closes.{closes_queued, closes_listed, close_count, AreKnown}
use Rattle.machine.proofs.Amended.{length-amended, changed-cases, joined-cases, there-before}
use Rattle.machine.proofs.Taken.{queue-take_each, done-take_each}
use Rattle.machine.proofs.Occurring.{closes_queued-append, closes_listed-append, closes_listed-remove}
use Rattle.machine.proofs.Staying.{Stays, stays-at}

-- Closes that are taken fly, whatever the first entry follows.
closes-flown_behind : (leader : Option ℕ) (L : Ledger) (entries : List Queued) (h : ℕ) →
    closes_listed h (take_behind leader L entries).flying ≡ closes_listed h L.flying + closes_queued h entries
closes-flown_behind leader L [] h = omega arith
closes-flown_behind leader L (Req n ∷ entries) h =
    let r = closes-flown_behind (leader_behind L (Req n)) (take_one leader L (Req n)) entries h in
    let a = closes_listed-append h L.flying (Op n ∷ []) in
    omega arith
closes-flown_behind leader L (Cancel n ∷ entries) h = closes-flown_behind None (take_one leader L (Cancel n)) entries h
closes-flown_behind leader L (Queued.Close k ∷ entries) h =
    let r = closes-flown_behind None (take_one leader L (Queued.Close k)) entries h in
    let a = closes_listed-append h L.flying (Item.Close k ∷ []) in
    omega arith

-- Closes that are taken fly.
pub closes-flown : (L : Ledger) (entries : List Queued) (h : ℕ) →
    closes_listed h (take_each L entries).flying ≡ closes_listed h L.flying + closes_queued h entries
closes-flown L entries h = closes-flown_behind None L entries h

-- Taking leaves how many closes there are.
pub count-take_all : (L : Ledger) (h : ℕ) → close_count (take_all L) h ≡ close_count L h
count-take_all L h =
    let E : Ledger = record L { queue = [] } in
    let q : closes_queued h (take_all L).queue ≡ 0 = ap (closes_queued h) (queue-take_each E L.queue) in
    let f = closes-flown E L.queue h in
    let d : closes_listed h (take_all L).done ≡ closes_listed h L.done = ap (closes_listed h) (done-take_each E L.queue) in
    omega (arith, q, f, d)

-- Room that is made, or not.
count-room : (b : Bool) (L : Ledger) (h : ℕ) → close_count (if b then take_all L else L) h ≡ close_count L h
count-room true L h = count-take_all L h
count-room false L h = refl

-- Making room leaves how many closes there are.
pub count-make_room : (L : Ledger) (h : ℕ) → close_count (make_room L) h ≡ close_count L h
count-make_room L h = count-room (length L.queue == L.capacity) L h

-- A push adds the close that it pushes.
pub count-push : (L : Ledger) (entry : Queued) (h : ℕ) → close_count (push L entry) h ≡ close_count L h + closes_queued h (entry ∷ [])
count-push L entry h =
    let M : Ledger = make_room L in
    let r = count-make_room L h in
    let a = closes_queued-append h M.queue (entry ∷ []) in
    omega (arith, r, a)

-- Pushes add the closes that they push.
pub count-push_each : (L : Ledger) (entries : List Queued) (h : ℕ) →
    close_count (push_each L entries) h ≡ close_count L h + closes_queued h entries
count-push_each L [] h = omega arith
count-push_each L (entry ∷ entries) h =
    let r = count-push_each (push L entry) entries h in
    let p = count-push L entry h in
    let a = closes_queued-append h (entry ∷ []) entries in
    omega (arith, r, p, a)

-- What is completed is in flight no more, and done.
pub count-complete_at : (L : Ledger) (place : ℕ) (item : Item) (h : ℕ) → slice_get L.flying place ≡ Some item →
    close_count (complete_at L place item) h ≡ close_count L h
count-complete_at L place item h there =
    let r = closes_listed-remove h L.flying place item there in
    let a = closes_listed-append h L.done (item ∷ []) in
    omega (arith, r, a)

-- What is named in a turn is done no more.
pub count-first : (L : Ledger) (item : Item) (items : List Item) (h : ℕ) → L.done ≡ item ∷ items →
    close_count (record L { done = items }) h + closes_listed h (item ∷ []) ≡ close_count L h
count-first L item items h first =
    let d = ap (closes_listed h) first in
    let a = closes_listed-append h (item ∷ []) items in
    omega (arith, d, a)

-- Handles that are known stay known, where owners and handles stay as many, and what stays of each operation stays.
pub known-stays : {L M : Ledger} → Stays L M → AreKnown L → AreKnown M
known-stays {L} {M} s k = record {
  known = λ n h p there names. (
      let o = stays-at s n p there in
      let below = k.known n h o.0 o.1 (ap (λ z. has_number h (with_made z.made (named z.request))) (sym o.2) ∙ names) in
      let e = ap length s.owners in
      omega (arith, below, e));
  above = λ n h m p there names made. (
      let o = stays-at s n p there in
      k.above n h m o.0 o.1 (ap (λ z. has_number h (named z.request)) (sym o.2) ∙ names) (ap (λ z. z.made) (sym o.2) ∙ made));
  together = ap length s.owners ∙ k.together ∙ sym (ap length s.world);
}

-- A change of lists alone.
pub known-lists : (L : Ledger) (queue : List Queued) (flying done : List Item) → AreKnown L →
    AreKnown (record L { queue = queue; flying = flying; done = done })
known-lists L queue flying done k = record { known = k.known; above = k.above; together = k.together }

-- Other handles, as many.
pub known-world : (L : Ledger) (world : List HandleState) → length world ≡ length L.world → AreKnown L →
    AreKnown (record L { world = world })
known-world L world count k = record { known = k.known; above = k.above; together = k.together ∙ sym count }

-- One handle changed.
pub known-with_handle : (L : Ledger) (h : ℕ) (change : HandleState → HandleState) → AreKnown L → AreKnown (with_handle L h change)
known-with_handle L h change k = known-world L (amended L.world h change) (length-amended change L.world h) k

-- A new handle.
pub known-give : (L : Ledger) (handle : HandleState) → AreKnown L → AreKnown (give_step L handle)
known-give L handle k =
    let o = length-append L.owners (new_owner ∷ []) in
    let w = length-append L.world (handle ∷ []) in
    let t = k.together in
    record {
      known = λ n h p there names. (let b = k.known n h p there names in omega (arith, b, o));
      above = k.above;
      together = omega (arith, o, w, t);
    }

-- A handle that its user holds, or doesn't.
pub known-with_user : (L : Ledger) (h : ℕ) (is_user : Bool) → AreKnown L → AreKnown (with_user L h is_user)
known-with_user L h is_user k =
    let e = length-amended (as_user is_user) L.owners h in
    let t = k.together in
    record {
      known = λ n j p there names. (let b = k.known n j p there names in omega (arith, b, e));
      above = k.above;
      together = omega (arith, e, t);
    }

-- A new operation that names known handles.
pub known-new_op : (L : Ledger) (o : Operation) →
    ((h : ℕ) → has_number h (named o.request) ≡ true → h < length L.owners) → o.made ≡ None → AreKnown L → AreKnown (with_new_op L o)
known-new_op L o names none k = record {
  known = λ n h p there is. elim (joined-cases L.ops o n) [
    | inl e ↦ names h (
        let q : o ≡ p = (let w = sym e.2 ∙ there in cc) in
        ap (λ m. has_number h (with_made m (named o.request))) (sym none) ∙ ap (λ z. has_number h (holds z)) q ∙ is)
    | inr e ↦ k.known n h p (sym e.1 ∙ there) is
  ];
  above = λ n h m p there names_it made. elim (joined-cases L.ops o n) [
    | inl e ↦ (
        let q : o ≡ p = (let w = sym e.2 ∙ there in cc) in
        let f : None ≡ Some m = sym none ∙ ap (λ z. z.made) q ∙ made in let g : ⊥ = cc in absurd g)
    | inr e ↦ k.above n h m p (sym e.1 ∙ there) names_it made
  ];
  together = k.together;
}

-- An operation changed that keeps its request and what it made.
pub known-op : (L : Ledger) (n : ℕ) (change : Operation → Operation) →
    ((o : Operation) → ((change o).request ≡ o.request) × ((change o).made ≡ o.made)) → AreKnown L → AreKnown (with_op L n change)
known-op L n change keeps k = record {
  known = λ m h p there is. elim (changed-cases change L.ops n m) [
    | inl e ↦ (
        let b = there-before change (slice_get L.ops n) p (sym e.1 ∙ there) in
        k.known n h b.0 b.1
        (ap (λ r. has_number h (with_made b.0.made (named r))) (sym (ap (λ z. z.request) b.2 ∙ (keeps b.0).0))
        ∙ ap (λ m. has_number h (with_made m (named p.request))) (sym (ap (λ z. z.made) b.2 ∙ (keeps b.0).1)) ∙ is))
    | inr e ↦ k.known m h p (sym e.1 ∙ there) is
  ];
  above = λ m h j p there is made. elim (changed-cases change L.ops n m) [
    | inl e ↦ (
        let b = there-before change (slice_get L.ops n) p (sym e.1 ∙ there) in
        k.above n h j b.0 b.1 (ap (λ r. has_number h (named r)) (sym (ap (λ z. z.request) b.2 ∙ (keeps b.0).0)) ∙ is)
        (sym (ap (λ z. z.made) b.2 ∙ (keeps b.0).1) ∙ made))
    | inr e ↦ k.above m h j p (sym e.1 ∙ there) is made
  ];
  together = k.together;
}
