-- Each change of a ledger keeps its closes once: of each handle one at most, and only where nobody holds it.
use Rattle.std.proofs.Common.{◌≡◌, ◌≢◌, inl, inr, ℕ, suc, ◌+◌, ◌≤◌, ◌<◌, Bool, true, false, List, [], ◌∷◌, length}
use Rattle.std.proofs.Common.{map, Some, slice_get, refl, sym, ◌∙◌, ap, arith}
use Rattle.std.proofs.lemmas.List.{length-append}
use Rattle.machine.specs.declared.world.HandleState.{HandleState}
use Rattle.machine.specs.Lists.{has_number, passes}
use Rattle.machine.specs.Ledger.{Ledger, Operation, Queued, Item, is_holding, user_holds}
use Rattle.machine.specs.Queue.{with_op, take_all, make_room, push, push_each, is_unheld, became_unheld}
use Rattle.machine.specs.Queue.{with_gone, leave}
use Rattle.machine.specs.Turn.{complete_at}
use Rattle.machine.specs.Step.{new_owner, give_step, as_user, with_user, close_if, close_step, with_new_op}
use Rattle.machine.specs.Closes.{closes_queued, close_count, ClosesOnce}
use Rattle.machine.proofs.Numbers.{below-or-not, same-or-not}
use Rattle.machine.proofs.Amended.{length-amended}
use Rattle.machine.proofs.Appended.{get-append-within}
use Rattle.machine.proofs.Occurring.{same, same-cases}
use Rattle.machine.proofs.Staying.{stays-take_all, stays-make_room, stays-push}
use Rattle.machine.proofs.Holders.{SameHolders, unheld-same, unheld-at, AreLive, live-push_close, holders-take_all, holders-make_room}
use Rattle.machine.proofs.Holders.{holders-push}
use Rattle.machine.proofs.Holders.{holders-op, held-by_user, HoldsSame}
use Rattle.machine.proofs.Users.{unheld-gone, unheld-stays, unheld-left, user-with_user-other}
use Rattle.machine.proofs.Leaving.{Ascends, ascends-not, has-first, has-later, became-ascends, became-is}
use Rattle.machine.proofs.Closing.{count-take_all, count-make_room, count-push, count-complete_at, count-first}

-- Closes stay once where there are no more of them, as many handles, and what nobody held nobody holds.
pub once-fewer : (L M : Ledger) → ((h : ℕ) → close_count M h ≤ close_count L h) →
    ((h : ℕ) → 1 ≤ close_count M h → is_unheld L h ≡ true → is_unheld M h ≡ true) → length L.owners ≤ length M.owners →
    ClosesOnce L → ClosesOnce M
once-fewer L M fewer unheld more c = record {
  once = λ h. (let a = c.once h in let b = fewer h in omega arith);
  unheld = λ h one. unheld h one (c.unheld h (let b = fewer h in omega arith));
  there = λ h one. (let t = c.there h (let b = fewer h in omega arith) in omega arith);
}

-- Closes stay once where there are as many of each, and each handle has the same holders.
pub once-same : (L M : Ledger) → ((h : ℕ) → close_count M h ≡ close_count L h) → SameHolders L M → length L.owners ≤ length M.owners →
    ClosesOnce L → ClosesOnce M
once-same L M same holders more c =
    once-fewer L M (λ h. (let e = same h in omega arith)) (λ h one is. unheld-same holders h ∙ is) more c

-- The close of a handle may be pushed: it isn't in the lists, nobody holds the handle, and it is there.
pub record MayClose (L : Ledger) (h : ℕ) : Type 0 where
  pub none : close_count L h ≡ 0
  pub unheld : is_unheld L h ≡ true
  pub there : h < length L.owners

-- A handle that somebody holds has no close.
pub held-unclosed : (L : Ledger) (h : ℕ) → is_unheld L h ≡ false → ClosesOnce L → close_count L h ≡ 0
held-unclosed L h held c = elim (below-or-not 0 (close_count L h)) [
  | inl some ↦ absurd (let f : false ≡ true = sym held ∙ c.unheld h (omega arith) in let g : ⊥ = cc in g)
  | inr none ↦ omega arith
]

-- A push of what isn't a close.
pub once-push : (L : Ledger) (entry : Queued) → ((h : ℕ) → closes_queued h (entry ∷ []) ≡ 0) → AreLive L.ops L.queue → ClosesOnce L →
    ClosesOnce (push L entry)
once-push L entry none live c =
    once-same L (push L entry) (λ h. (let p = count-push L entry h in let z = none h in omega (arith, p, z)))
    (holders-push L entry live) (let e = ap length (stays-push L entry).owners in omega (arith, e)) c

-- The count of a close that is pushed.
count-close : (L : Ledger) (k h : ℕ) → close_count (push L (Queued.Close k)) h ≡ close_count L h + same h k
count-close L k h = let p = count-push L (Queued.Close k) h in omega (arith, p)

-- A push of the close of a handle that may be closed.
pub once-push_close : (L : Ledger) (k : ℕ) → MayClose L k → AreLive L.ops L.queue → ClosesOnce L → ClosesOnce (push L (Queued.Close k))
once-push_close L k may live c =
    let M : Ledger = push L (Queued.Close k) in
    let holders = holders-push L (Queued.Close k) live in
    let owners = ap length (stays-push L (Queued.Close k)).owners in
    let none = may.none in
    record {
      once = λ h. elim (same-cases h k) [
        | inl e ↦ (let p = count-close L k h in let z : close_count L h ≡ 0 = ap (close_count L) e.0 ∙ none in let one = e.1 in
            omega (arith, p, z, one))
        | inr e ↦ (let p = count-close L k h in let o = c.once h in let no = e.1 in omega (arith, p, o, no))
      ];
      unheld = λ h some. elim (same-cases h k) [
        | inl e ↦ unheld-same holders h ∙ ap (is_unheld L) e.0 ∙ may.unheld
        | inr e ↦ unheld-same holders h ∙ c.unheld h (let p = count-close L k h in let no = e.1 in omega (arith, p, no, some))
      ];
      there = λ h some. elim (same-cases h k) [
        | inl e ↦ (let t = may.there in let q = e.0 in omega (arith, t, q, owners))
        | inr e ↦ (let t = c.there h (let p = count-close L k h in let no = e.1 in omega (arith, p, no, some)) in omega (arith, t, owners))
      ];
    }

-- Pushes of the closes of handles that rise and may be closed.
pub once-push_closes : (L : Ledger) (j : ℕ) (handles : List ℕ) → Ascends j handles →
    ((h : ℕ) → has_number h handles ≡ true → MayClose L h) → AreLive L.ops L.queue → ClosesOnce L →
    ClosesOnce (push_each L (map Queued.Close handles))
once-push_closes L j [] rises may live c = c
once-push_closes L j (k ∷ handles) rises may live c =
    let M : Ledger = push L (Queued.Close k) in
    once-push_closes M (suc k) handles rises.1 later (live-push_close L k live) (once-push_close L k (may k (has-first k handles)) live c)
  where
    later : (h : ℕ) → has_number h handles ≡ true → MayClose (push L (Queued.Close k)) h
    later h is =
        let m = may h (has-later h k handles is) in
        let other : h ≢ k = λ e. (
        let f : false ≡ true = sym (ascends-not h (suc k) handles (omega (arith, e)) rises.1) ∙ is in let g : ⊥ = cc in g) in
        let owners = ap length (stays-push L (Queued.Close k)).owners in
        record {
          none = elim (same-cases h k) [
            | inl e ↦ absurd (other e.0)
            | inr e ↦ (let p = count-close L k h in let z = m.none in let no = e.1 in omega (arith, p, z, no))
          ];
          unheld = unheld-same (holders-push L (Queued.Close k) live) h ∙ m.unheld;
          there = (let t = m.there in omega (arith, t, owners));
        }

-- An operation that is gone.
pub once-gone : (L : Ledger) (n : ℕ) → ClosesOnce L → ClosesOnce (with_gone L n)
once-gone L n c = once-fewer L (with_gone L n) (λ h. omega arith) (λ h one is. unheld-gone L n h is) (omega arith) c

-- An operation that leaves: each close that it pushes is of a handle that it held.
pub once-leave : (L : Ledger) (n : ℕ) → AreLive (with_gone L n).ops L.queue → ClosesOnce L → ClosesOnce (leave L n)
once-leave L n live c =
    once-push_closes (with_gone L n) 0 (became_unheld L (with_gone L n)) (became-ascends L (with_gone L n))
    (λ h is. (
    let b = became-is L (with_gone L n) h is in
    record { none = held-unclosed L h b.held c; unheld = b.unheld; there = b.there }))
    live (once-gone L n c)

-- A change of an operation that keeps what it holds.
pub once-op : (L : Ledger) (n : ℕ) (change : Operation → Operation) →
    ((o : Operation) → slice_get L.ops n ≡ Some o → HoldsSame o (change o)) → ClosesOnce L → ClosesOnce (with_op L n change)
once-op L n change keeps c = once-same L (with_op L n change) (λ h. refl) (holders-op L n change keeps) (omega arith) c

-- A new operation that names handles that somebody holds.
pub once-new_op : (L : Ledger) (o : Operation) → ((h : ℕ) → is_holding h o ≡ true → is_unheld L h ≡ false) → ClosesOnce L →
    ClosesOnce (with_new_op L o)
once-new_op L o names c =
    once-fewer L (with_new_op L o) (λ h. omega arith) (λ h one is. unheld-stays L o names h is) (omega arith) c

-- Other handles.
pub once-world : (L : Ledger) (world : List HandleState) → ClosesOnce L → ClosesOnce (record L { world = world })
once-world L world c = record { once = c.once; unheld = c.unheld; there = c.there }

-- A new handle: a close is one of a handle that was there before.
pub once-give : (L : Ledger) (handle : HandleState) → ClosesOnce L → ClosesOnce (give_step L handle)
once-give L handle c =
    let o = length-append L.owners (new_owner ∷ []) in
    record {
      once = c.once;
      unheld = λ h some. (
          let within = c.there h some in
          unheld-at L (give_step L handle) h
          (ap (passes (λ owner. owner.is_user)) (get-append-within L.owners new_owner h within)) refl ∙ c.unheld h some);
      there = λ h some. (let t = c.there h some in omega (arith, t, o));
    }

-- A user that no longer holds a handle.
pub once-left : (L : Ledger) (h : ℕ) → ClosesOnce L → ClosesOnce (with_user L h false)
once-left L h c =
    let e = length-amended (as_user false) L.owners h in
    once-fewer L (with_user L h false) (λ k. omega arith) (λ k one is. unheld-left L h k is) (omega (arith, e)) c

-- A user that comes to hold a handle that somebody holds.
pub once-user : (L : Ledger) (h : ℕ) → is_unheld L h ≡ false → ClosesOnce L → ClosesOnce (with_user L h true)
once-user L h held c =
    let e = length-amended (as_user true) L.owners h in
    once-fewer L (with_user L h true) (λ k. omega arith)
    (λ k one is. elim (same-or-not k h) [
      | inl same ↦ (let f : true ≡ false = sym is ∙ ap (is_unheld L) same ∙ held in let g : ⊥ = cc in absurd g)
      | inr other ↦ unheld-at L (with_user L h true) k (user-with_user-other L h k true other) refl ∙ is
    ])
    (omega (arith, e)) c

-- A close that is pushed where nobody holds a handle.
once-close_if : (b : Bool) (L : Ledger) (h : ℕ) → (b ≡ true → MayClose L h) → AreLive L.ops L.queue → ClosesOnce L →
    ClosesOnce (close_if b L h)
once-close_if true L h may live c = once-push_close L h (may refl) live c
once-close_if false L h may live c = c

-- The user of a handle closes it.
pub once-close : (L : Ledger) (h : ℕ) → user_holds L h ≡ true → h < length L.owners → AreLive L.ops L.queue → ClosesOnce L →
    ClosesOnce (close_step L h)
once-close L h holds within live c =
    let U : Ledger = with_user L h false in
    let e = length-amended (as_user false) L.owners h in
    once-close_if (is_unheld U h) U h
    (λ is. record { none = held-unclosed L h (held-by_user L h holds) c; unheld = is; there = omega (arith, e, within) })
    live (once-left L h c)

-- What is in flight is completed.
pub once-complete_at : (L : Ledger) (place : ℕ) (item : Item) → slice_get L.flying place ≡ Some item → ClosesOnce L →
    ClosesOnce (complete_at L place item)
once-complete_at L place item there c =
    once-same L (complete_at L place item) (λ h. count-complete_at L place item h there) (record { users = λ h. refl; ops = λ h. refl })
    (omega arith) c

-- The first of what is done is named.
pub once-first : (L : Ledger) (item : Item) (items : List Item) → L.done ≡ item ∷ items → ClosesOnce L →
    ClosesOnce (record L { done = items })
once-first L item items first c =
    once-fewer L (record L { done = items }) (λ h. (let f = count-first L item items h first in omega (arith, f))) (λ h one is. is)
    (omega arith) c

-- The queue is taken.
pub once-take_all : (L : Ledger) → AreLive L.ops L.queue → ClosesOnce L → ClosesOnce (take_all L)
once-take_all L live c =
    once-same L (take_all L) (λ h. count-take_all L h) (holders-take_all L live)
    (let e = ap length (stays-take_all L).owners in omega (arith, e)) c

-- Room is made.
pub once-make_room : (L : Ledger) → AreLive L.ops L.queue → ClosesOnce L → ClosesOnce (make_room L)
once-make_room L live c =
    once-same L (make_room L) (λ h. count-make_room L h) (holders-make_room L live)
    (let e = ap length (stays-make_room L).owners in omega (arith, e)) c
