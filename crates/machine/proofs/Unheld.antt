-- A handle that nobody holds stays so, and its close comes when its last holder leaves: by each change of a ledger.
use Rattle.std.proofs.Common.{◌≡◌, ◌≢◌, inl, inr, ℕ, ◌≤◌, ◌<◌, Bool, true, false, List, [], ◌∷◌, length, map}
use Rattle.std.proofs.Common.{Option, None, Some, slice_get, refl, sym, ◌∙◌, ap, subst, arith}
use Rattle.machine.specs.Lists.{has_number}
use Rattle.machine.specs.Ledger.{Ledger, Operation, Queued, Item, Op, is_holding}
use Rattle.machine.specs.Queue.{with_op, take_all, make_room, push, is_unheld, became_unheld, with_gone, leave}
use Rattle.machine.specs.Turn.{with_reap, reap_if, reap_op, reap_one, reap_each}
use Rattle.machine.specs.Step.{with_new_op, as_user, with_user, close_if, close_step}
use Rattle.machine.specs.Closes.{closes_queued, close_count}
use Rattle.machine.proofs.Numbers.{same-or-not}
use Rattle.machine.proofs.Amended.{length-amended}
use Rattle.machine.proofs.Appended.{get-append-end}
use Rattle.machine.proofs.Occurring.{same-cases}
use Rattle.machine.proofs.Staying.{stays-take_all, stays-make_room, stays-push_each}
use Rattle.machine.proofs.Holders.{SameHolders, unheld-same, AreLive, holders-push, holders-push_closes, unheld-at}
use Rattle.machine.proofs.Users.{unheld-gone, unheld-left}
use Rattle.machine.proofs.Holders.{holders-own, holders-op, HoldsSame, holders-take_all, holders-make_room}
use Rattle.machine.proofs.Users.{user-with_user-other}
use Rattle.machine.proofs.Holders.{held-by_op}
use Rattle.machine.proofs.Users.{unheld-new_op, unheld-stays}
use Rattle.machine.proofs.Leaving.{has-first, has-other, became-is, is-became}
use Rattle.machine.proofs.Closing.{count-take_all, count-make_room, count-push, count-push_each}
use Rattle.machine.proofs.Turning.{reap-holds, live-gone, Reapable, reapable-one}

-- From a ledger to another one of as many handles, a handle that nobody held is held by nobody and has as many closes, and one whose
-- holders became none has a close.
pub record Closing (L M : Ledger) : Type 0 where
  pub count : length M.owners ≡ length L.owners
  pub stays : (h : ℕ) → is_unheld L h ≡ true → is_unheld M h ≡ true
  pub closes : (h : ℕ) → is_unheld L h ≡ true → close_count M h ≡ close_count L h
  pub comes : (h : ℕ) → h < length L.owners → is_unheld L h ≡ false → is_unheld M h ≡ true → 1 ≤ close_count M h

-- Where each handle has the same holders, and as many closes.
pub closing-same : (L M : Ledger) → length M.owners ≡ length L.owners → SameHolders L M →
    ((h : ℕ) → close_count M h ≡ close_count L h) → Closing L M
closing-same L M count holders closes = record {
  count = count;
  stays = λ h is. unheld-same holders h ∙ is;
  closes = λ h is. closes h;
  comes = λ h within held is. (let f : true ≡ false = sym is ∙ unheld-same holders h ∙ held in let g : ⊥ = cc in absurd g);
}

-- Two such changes, one after the other.
pub closing-then : {L K M : Ledger} → Closing L K → Closing K M → Closing L M
closing-then {L} {K} {M} a b = record {
  count = b.count ∙ a.count;
  stays = λ h is. b.stays h (a.stays h is);
  closes = λ h is. b.closes h (a.stays h is) ∙ a.closes h is;
  comes = λ h within held is. by h within held is (is_unheld K h) refl;
}
  where
    by : (h : ℕ) → h < length L.owners → is_unheld L h ≡ false → is_unheld M h ≡ true → (x : Bool) → is_unheld K h ≡ x → 1 ≤ close_count M h
    by h within held is true e =
        (let one = a.comes h within held e in let as_many = b.closes h e in omega (arith, one, as_many))
    by h within held is false e = b.comes h (let c = a.count in omega (arith, c, within)) e is

-- A change of an operation after which it holds the same.
pub closing-op : (L : Ledger) (n : ℕ) (change : Operation → Operation) →
    ((o : Operation) → slice_get L.ops n ≡ Some o → HoldsSame o (change o)) → Closing L (with_op L n change)
closing-op L n change keeps = closing-same L (with_op L n change) refl (holders-op L n change keeps) (λ h. refl)

-- The queue taken.
pub closing-take_all : (L : Ledger) → AreLive L.ops L.queue → Closing L (take_all L)
closing-take_all L live =
    closing-same L (take_all L) (ap length (stays-take_all L).owners) (holders-take_all L live) (λ h. count-take_all L h)

-- Room made.
pub closing-make_room : (L : Ledger) → AreLive L.ops L.queue → Closing L (make_room L)
closing-make_room L live =
    closing-same L (make_room L) (ap length (stays-make_room L).owners) (holders-make_room L live) (λ h. count-make_room L h)

-- A new operation on handles that somebody holds.
pub closing-new_op : (L : Ledger) (o : Operation) → ((h : ℕ) → is_holding h o ≡ true → is_unheld L h ≡ false) → Closing L (with_new_op L o)
closing-new_op L o names = record {
  count = refl;
  stays = λ h is. unheld-stays L o names h is;
  closes = λ h is. refl;
  comes = λ h within held is. absurd (new h held is (is_holding h o) refl);
}
  where
    new : (h : ℕ) → is_unheld L h ≡ false → is_unheld (with_new_op L o) h ≡ true → (b : Bool) → is_holding h o ≡ b → ⊥
    new h held is true e =
        (let f : true ≡ false = sym is ∙ held-by_op (with_new_op L o) h (length L.ops) o (get-append-end L.ops o) e in cc)
    new h held is false e = (let f : true ≡ false = sym is ∙ unheld-new_op L o h e ∙ held in cc)

-- A push of what isn't a close.
pub closing-push : (L : Ledger) (entry : Queued) → ((h : ℕ) → closes_queued h (entry ∷ []) ≡ 0) → AreLive L.ops L.queue →
    Closing L (push L entry)
closing-push L entry none live =
    closing-same L (push L entry) (ap length (stays-push_each L (entry ∷ [])).owners) (holders-push L entry live)
    (λ h. (let p = count-push L entry h in let z = none h in omega (arith, p, z)))

-- How often the close of a handle is among the closes of handles: once at least where the handle is among these.
closes-some : (h : ℕ) (handles : List ℕ) → has_number h handles ≡ true → 1 ≤ closes_queued h (map Queued.Close handles)
closes-some h [] is = (let f : ⊥ = cc in absurd f)
closes-some h (k ∷ handles) is = elim (same-cases h k) [
  | inl e ↦ (let one = e.1 in omega arith)
  | inr e ↦ (let r = closes-some h handles (sym (has-other h k handles e.0) ∙ is) in omega arith)
]

-- And never where it isn't.
closes-none : (h : ℕ) (handles : List ℕ) → has_number h handles ≡ false → closes_queued h (map Queued.Close handles) ≡ 0
closes-none h [] is = refl
closes-none h (k ∷ handles) is = elim (same-cases h k) [
  | inl e ↦ (let q : true ≡ false = sym (subst (λ y. has_number h (y ∷ handles) ≡ true) e.0 (has-first h handles)) ∙ is in
      let f : ⊥ = cc in absurd f)
  | inr e ↦ (let r = closes-none h handles (sym (has-other h k handles e.0) ∙ is) in let no = e.1 in omega arith)
]

-- An operation that leaves.
pub closing-leave : (L : Ledger) (n : ℕ) → AreLive (with_gone L n).ops L.queue → Closing L (leave L n)
closing-leave L n live =
    let G : Ledger = with_gone L n in
    let handles : List ℕ = became_unheld L G in
    let holders = holders-push_closes G handles live in
    record {
      count = ap length (stays-push_each G (map Queued.Close handles)).owners;
      stays = λ h is. unheld-same holders h ∙ unheld-gone L n h is;
      closes = λ h is. (
          let p = count-push_each G (map Queued.Close handles) h in
          let z = closes-none h handles (not-became h is (has_number h handles) refl) in
          omega (arith, p, z));
      comes = λ h within held is. (
          let p = count-push_each G (map Queued.Close handles) h in
          let s = closes-some h handles
          (is-became L G h (record { held = held; unheld = sym (unheld-same holders h) ∙ is; there = within })) in
          omega (arith, p, s));
    }
  where
    not-became : (h : ℕ) → is_unheld L h ≡ true → (b : Bool) → has_number h (became_unheld L (with_gone L n)) ≡ b → b ≡ false
    not-became h is true e =
        (let f : true ≡ false = sym is ∙ (became-is L (with_gone L n) h e).held in let g : ⊥ = cc in absurd g)
    not-became h is false e = refl

-- The close of a handle that is pushed, or isn't.
closing-if : (b : Bool) (L U : Ledger) (h : ℕ) → is_unheld U h ≡ b → is_unheld L h ≡ false → AreLive U.ops U.queue →
    length U.owners ≡ length L.owners → ((k : ℕ) → is_unheld L k ≡ true → is_unheld U k ≡ true) →
    ((k : ℕ) → close_count U k ≡ close_count L k) → ((k : ℕ) → k ≢ h → is_unheld U k ≡ is_unheld L k) → Closing L (close_if b U h)
closing-if true L U h is held live count stays closes others =
    let holders = holders-push U (Queued.Close h) live in
    let owners = ap length (stays-push_each U (Queued.Close h ∷ [])).owners in
    record {
      count = owners ∙ count;
      stays = λ k nobody. unheld-same holders k ∙ stays k nobody;
      closes = λ k nobody. elim (same-cases k h) [
        | inl e ↦ (let f : true ≡ false = sym nobody ∙ ap (is_unheld L) e.0 ∙ held in let g : ⊥ = cc in absurd g)
        | inr e ↦ (let p = count-push U (Queued.Close h) k in let c = closes k in let no = e.1 in omega (arith, p, c, no))
      ];
      comes = λ k within somebody nobody. elim (same-cases k h) [
        | inl e ↦ (let p = count-push U (Queued.Close h) k in let one = e.1 in omega (arith, p, one))
        | inr e ↦ (let f : true ≡ false = sym nobody ∙ unheld-same holders k ∙ others k e.0 ∙ somebody in let g : ⊥ = cc in absurd g)
      ];
    }
closing-if false L U h is held live count stays closes others = record {
  count = count;
  stays = stays;
  closes = λ k nobody. closes k;
  comes = λ k within somebody nobody. elim (same-or-not k h) [
    | inl e ↦ (let f : true ≡ false = sym nobody ∙ ap (is_unheld U) e ∙ is in let g : ⊥ = cc in absurd g)
    | inr e ↦ (let f : true ≡ false = sym nobody ∙ others k e ∙ somebody in let g : ⊥ = cc in absurd g)
  ];
}

-- A handle whose user closes it.
pub closing-close : (L : Ledger) (h : ℕ) → is_unheld L h ≡ false → AreLive L.ops L.queue → Closing L (close_step L h)
closing-close L h held live =
    let U : Ledger = with_user L h false in
    closing-if (is_unheld U h) L U h refl held live (length-amended (as_user false) L.owners h) (λ k is. unheld-left L h k is) (λ k. refl)
    (λ k other. unheld-at L U k (user-with_user-other L h k false other) refl)

-- The completion of an operation that was dropped, or wasn't.
closing-reap_if : (dropped : Bool) (L : Ledger) (n : ℕ) (items : List Item) → Reapable L (Op n ∷ items) → Closing L (reap_if dropped L n)
closing-reap_if true L n items r = closing-leave L n (live-gone L.ops L.queue n (λ i asks. r.apart.apart i 0 n asks refl) r.live)
closing-reap_if false L n items r =
    closing-op L n with_reap (λ o there. reap-holds o)

-- The completion of an operation that was looked up.
closing-reap_op : (L : Ledger) (n : ℕ) (x : Option Operation) (items : List Item) → Reapable L (Op n ∷ items) → Closing L (reap_op L n x)
closing-reap_op L n None items r = closing-same L L refl (holders-own L) (λ h. refl)
closing-reap_op L n (Some o) items r = closing-reap_if o.dropped L n items r

-- One completion reaped.
pub closing-reap_one : (L : Ledger) (item : Item) (items : List Item) → Reapable L (item ∷ items) → Closing L (reap_one L item)
closing-reap_one L (Op n) items r = closing-reap_op L n (slice_get L.ops n) items r
closing-reap_one L (Item.Close h) items r = closing-same L L refl (holders-own L) (λ h. refl)

-- Completions reaped, in order.
pub closing-reap_each : (L : Ledger) (items : List Item) → Reapable L items → Closing L (reap_each L items)
closing-reap_each L [] r = closing-same L L refl (holders-own L) (λ h. refl)
closing-reap_each L (item ∷ items) r =
    closing-then (closing-reap_one L item items r) (closing-reap_each (reap_one L item) items (reapable-one L item items r))
