-- Who holds a handle, after each change of a ledger.
use Rattle.std.proofs.Common.{◌≡◌, inl, inr, ℕ, zero, suc, ◌+◌, Bool, true, false, not, ◌&&◌, List, [], ◌∷◌, ◌++◌, length, map}
use Rattle.std.proofs.Common.{Option, None, Some, slice_get, refl, sym, ◌∙◌, ap, arith}
use Rattle.std.specs.Prelude.{if◌then◌else◌, ◌==◌}
use Rattle.machine.specs.Lists.{amended, is_empty, has_number}
use Rattle.machine.specs.Request.{named}
use Rattle.machine.specs.Ledger.{Ledger, Operation, Place, InQueue, InFlight, InDone, Reaped, Gone, Queued, Req, Cancel, is_live}
use Rattle.machine.specs.Ledger.{user_holds, User, ByOp, with_made, holds, is_holding, holding_ops, holders}
use Rattle.machine.specs.Queue.{with_op, at_place, canceled_at, with_take, with_cancel, take_one, leader_behind, take_behind, take_each}
use Rattle.machine.specs.Queue.{take_all, make_room, push}
use Rattle.machine.specs.Queue.{push_each, is_unheld, with_gone}
use Rattle.machine.specs.Step.{with_new_op}
use Rattle.machine.proofs.Numbers.{and-left, and-right, not-passes}
use Rattle.machine.proofs.Amended.{changed-cases, joined-cases, there-before}
use Rattle.machine.proofs.Taken.{queue-take_each}
use Rattle.machine.proofs.Where.{empty-is, empty-length, where-kept, where-joined, where-none, none-where}

-- Two operations hold the same: they have one request, they made the same handle, or none, and both are gone, or neither is.
pub record HoldsSame (o p : Operation) : Type 0 where
  pub request : p.request ≡ o.request
  pub made : p.made ≡ o.made
  pub live : is_live p ≡ is_live o

-- Each handle has the same holders in two ledgers.
pub record SameHolders (L M : Ledger) : Type 0 where
  pub users : (h : ℕ) → user_holds M h ≡ user_holds L h
  pub ops : (h : ℕ) → holding_ops M h ≡ holding_ops L h

-- A ledger's own holders.
pub holders-own : (L : Ledger) → SameHolders L L
holders-own L = record { users = λ h. refl; ops = λ h. refl }

-- Holders that are the same twice are the same.
pub holders-then : {L M K : Ledger} → SameHolders L M → SameHolders M K → SameHolders L K
holders-then a b = record { users = λ h. b.users h ∙ a.users h; ops = λ h. b.ops h ∙ a.ops h }

-- The holders of a handle.
pub holders-same : {L M : Ledger} → SameHolders L M → (h : ℕ) → holders M h ≡ holders L h
holders-same {L} {M} s h =
    ap (λ (b : Bool). (if b then User ∷ [] else []) ++ map ByOp (holding_ops M h)) (s.users h)
    ∙ ap (λ (ns : List ℕ). (if user_holds L h then User ∷ [] else []) ++ map ByOp ns) (s.ops h)

-- Nobody holds a handle exactly where nobody did in a ledger where its user holds it, or doesn't, as here, and the same operations do.
pub unheld-at : (L M : Ledger) (h : ℕ) → user_holds M h ≡ user_holds L h → holding_ops M h ≡ holding_ops L h →
    is_unheld M h ≡ is_unheld L h
unheld-at L M h users ops =
    ap (λ (b : Bool). is_empty ((if b then User ∷ [] else []) ++ map ByOp (holding_ops M h))) users
    ∙ ap (λ (ns : List ℕ). is_empty ((if user_holds L h then User ∷ [] else []) ++ map ByOp ns)) ops

-- Nobody holds a handle exactly where nobody did.
pub unheld-same : {L M : Ledger} → SameHolders L M → (h : ℕ) → is_unheld M h ≡ is_unheld L h
unheld-same s h = ap is_empty (holders-same s h)

-- Nobody holds a handle exactly where its user doesn't, and no operation does.
unheld-by : (b : Bool) (ns : List ℕ) → is_empty ((if b then User ∷ [] else []) ++ map ByOp ns) ≡ (not b && is_empty ns)
unheld-by true ns = refl
unheld-by false [] = refl
unheld-by false (n ∷ ns) = refl

-- Nobody holds a handle exactly where its user doesn't, and no operation does.
pub unheld-both : (L : Ledger) (h : ℕ) → is_unheld L h ≡ (not (user_holds L h) && is_empty (holding_ops L h))
unheld-both L h = unheld-by (user_holds L h) (holding_ops L h)

-- The same, by how many operations hold it.
pub unheld-count : (L : Ledger) (h : ℕ) → is_unheld L h ≡ (not (user_holds L h) && (length (holding_ops L h) == 0))
unheld-count L h = unheld-both L h ∙ ap (λ b. not (user_holds L h) && b) (empty-length (holding_ops L h))

-- Nobody holds a handle: its user doesn't, and no operation does.
pub record Unheld (L : Ledger) (h : ℕ) : Type 0 where
  pub user : user_holds L h ≡ false
  pub ops : (n : ℕ) (o : Operation) → slice_get L.ops n ≡ Some o → is_holding h o ≡ false

-- What the test of it says.
pub unheld-is : (L : Ledger) (h : ℕ) → is_unheld L h ≡ true → Unheld L h
unheld-is L h is =
    let both = sym (unheld-both L h) ∙ is in record {
      user = not-passes (user_holds L h) (and-left (not (user_holds L h)) (is_empty (holding_ops L h)) both);
      ops =
          where-none (is_holding h) L.ops 0
          (empty-is (holding_ops L h) (and-right (not (user_holds L h)) (is_empty (holding_ops L h)) both));
    }

-- The test passes where it is so.
pub is-unheld : (L : Ledger) (h : ℕ) → Unheld L h → is_unheld L h ≡ true
is-unheld L h u =
    unheld-both L h
    ∙ ap (λ b. not b && is_empty (holding_ops L h)) u.user
    ∙ ap is_empty (none-where (is_holding h) L.ops 0 u.ops)

-- An operation that holds a handle keeps it held.
pub held-by_op : (L : Ledger) (h n : ℕ) (o : Operation) → slice_get L.ops n ≡ Some o → is_holding h o ≡ true → is_unheld L h ≡ false
held-by_op L h n o there holds = by (is_unheld L h) refl
  where
    by : (b : Bool) → is_unheld L h ≡ b → b ≡ false
    by true e = (let f : false ≡ true = sym ((unheld-is L h e).ops n o there) ∙ holds in let g : ⊥ = cc in absurd g)
    by false e = refl

-- A user that holds a handle keeps it held.
pub held-by_user : (L : Ledger) (h : ℕ) → user_holds L h ≡ true → is_unheld L h ≡ false
held-by_user L h holds = unheld-both L h ∙ ap (λ b. not b && is_empty (holding_ops L h)) holds

-- What holds the same holds a handle exactly where the other does.
pub holding-same : (h : ℕ) {o p : Operation} → HoldsSame o p → is_holding h p ≡ is_holding h o
holding-same h {o} {p} s =
    ap (λ b. b && has_number h (holds p)) s.live
    ∙ ap (λ m. is_live o && has_number h (with_made m (named p.request))) s.made
    ∙ ap (λ r. is_live o && has_number h (with_made o.made (named r))) s.request

-- A change of an operation after which it holds the same.
pub holders-op : (L : Ledger) (n : ℕ) (change : Operation → Operation) →
    ((o : Operation) → slice_get L.ops n ≡ Some o → HoldsSame o (change o)) → SameHolders L (with_op L n change)
holders-op L n change keeps = record {
  users = λ h. refl;
  ops = λ h. where-kept (is_holding h) change L.ops n 0 (λ o there. holding-same h (keeps o there));
}

-- Each request among entries is one of an operation that isn't gone.
pub record AreLive (ops : List Operation) (entries : List Queued) : Type 0 where
  pub live : (place n : ℕ) (o : Operation) → slice_get entries place ≡ Some (Req n) → slice_get ops n ≡ Some o → is_live o ≡ true

-- No entries.
pub live-none : (ops : List Operation) (entries : List Queued) → entries ≡ [] → AreLive ops entries
live-none ops entries none = record {
  live = λ place n o is there. (let q : slice_get [] place ≡ Some (Req n) = sym (ap (λ es. slice_get es place) none) ∙ is in
      let f : ⊥ = cc in absurd f);
}

-- A cancel asks for no operation.
pub live-cancel : (ops : List Operation) (n : ℕ) → AreLive ops (Cancel n ∷ [])
live-cancel ops n = record { live = λ place m o is there. one place m is }
  where
    one : (place m : ℕ) → slice_get (Cancel n ∷ []) place ≡ Some (Req m) → {b : Bool} → b ≡ true
    one zero m is = (let f : ⊥ = cc in absurd f)
    one (suc place) m is = (let f : ⊥ = cc in absurd f)

-- Nor does a close.
pub live-close : (ops : List Operation) (h : ℕ) → AreLive ops (Queued.Close h ∷ [])
live-close ops h = record { live = λ place m o is there. one place m is }
  where
    one : (place m : ℕ) → slice_get (Queued.Close h ∷ []) place ≡ Some (Req m) → {b : Bool} → b ≡ true
    one zero m is = (let f : ⊥ = cc in absurd f)
    one (suc place) m is = (let f : ⊥ = cc in absurd f)

-- The first of some entries, and the rest.
live-first : (ops : List Operation) (entry : Queued) (entries : List Queued) → AreLive ops (entry ∷ entries) → AreLive ops (entry ∷ [])
live-first ops entry entries h = record { live = λ place n o is there. one place n o is there }
  where
    one : (place n : ℕ) (o : Operation) → slice_get (entry ∷ []) place ≡ Some (Req n) → slice_get ops n ≡ Some o → is_live o ≡ true
    one zero n o is there = h.live 0 n o is there
    one (suc place) n o is there = (let f : ⊥ = cc in absurd f)

-- A change that leaves what isn't gone so.
pub live-changed : (ops : List Operation) (entries : List Queued) (m : ℕ) (change : Operation → Operation) →
    ((o : Operation) → is_live o ≡ true → is_live (change o) ≡ true) → AreLive ops entries → AreLive (amended ops m change) entries
live-changed ops entries m change keeps h = record {
  live = λ place n o is there. elim (changed-cases change ops m n) [
    | inl e ↦ (
        let b = there-before change (slice_get ops m) o (sym e.1 ∙ there) in
        ap is_live b.2 ∙ keeps b.0 (h.live place n b.0 is (ap (slice_get ops) e.0 ∙ b.1)))
    | inr e ↦ h.live place n o is (sym e.1 ∙ there)
  ];
}

-- One entry more.
pub live-append : (ops : List Operation) (entries : List Queued) (entry : Queued) → AreLive ops entries → AreLive ops (entry ∷ []) →
    AreLive ops (entries ++ entry ∷ [])
live-append ops entries entry h one = record {
  live = λ place n o is there. elim (joined-cases entries entry place) [
    | inl e ↦ one.live 0 n o (sym e.2 ∙ is) there
    | inr e ↦ h.live place n o (sym e.1 ∙ is) there
  ];
}

-- A cancel that is taken leaves what an operation holds.
canceled-holds : (p : Place) (o : Operation) → HoldsSame o (canceled_at p o)
canceled-holds InQueue o = record { request = refl; made = refl; live = refl }
canceled-holds InFlight o = record { request = refl; made = refl; live = refl }
canceled-holds (InDone outcome) o = record { request = refl; made = refl; live = refl }
canceled-holds (Reaped outcome) o = record { request = refl; made = refl; live = refl }
canceled-holds Gone o = record { request = refl; made = refl; live = refl }

-- One entry taken.
pub holders-take_one : (leader : Option ℕ) (L : Ledger) (entry : Queued) → AreLive L.ops (entry ∷ []) →
    SameHolders L (take_one leader L entry)
holders-take_one leader L (Req n) h = record {
  users = λ k. refl;
  ops = (holders-op L n (with_take leader) (λ o there. record { request = refl; made = refl; live = sym (h.live 0 n o refl there) })).ops;
}
holders-take_one leader L (Cancel n) h = holders-op L n with_cancel (λ o there. canceled-holds o.place o)
holders-take_one leader L (Queued.Close k) h = record { users = λ k. refl; ops = λ k. refl }

-- One entry taken leaves the requests of the rest those of operations that aren't gone.
pub live-take_one : (leader : Option ℕ) (L : Ledger) (entry : Queued) (entries : List Queued) → AreLive L.ops (entry ∷ entries) →
    AreLive (take_one leader L entry).ops entries
live-take_one leader L (Req n) entries h =
    live-changed L.ops entries n (with_take leader) (λ o is. refl) (record { live = λ place. h.live (suc place) })
live-take_one leader L (Cancel n) entries h =
    live-changed L.ops entries n with_cancel (λ o is. (canceled-holds o.place o).live ∙ is) (record { live = λ place. h.live (suc place) })
live-take_one leader L (Queued.Close k) entries h = record { live = λ place. h.live (suc place) }

-- Entries taken, whatever the first of them follows.
holders-take_behind : (leader : Option ℕ) (L : Ledger) (entries : List Queued) → AreLive L.ops entries →
    SameHolders L (take_behind leader L entries)
holders-take_behind leader L [] h = holders-own L
holders-take_behind leader L (entry ∷ entries) h =
    holders-then (holders-take_one leader L entry (live-first L.ops entry entries h))
    (holders-take_behind (leader_behind L entry) (take_one leader L entry) entries (live-take_one leader L entry entries h))

-- Entries taken.
pub holders-take_each : (L : Ledger) (entries : List Queued) → AreLive L.ops entries → SameHolders L (take_each L entries)
holders-take_each L entries h = holders-take_behind None L entries h

-- The queue taken.
pub holders-take_all : (L : Ledger) → AreLive L.ops L.queue → SameHolders L (take_all L)
holders-take_all L h = let s = holders-take_each (record L { queue = [] }) L.queue h in record { users = s.users; ops = s.ops }

-- Room that is made, or not.
holders-room : (b : Bool) (L : Ledger) → AreLive L.ops L.queue → SameHolders L (if b then take_all L else L)
holders-room true L h = holders-take_all L h
holders-room false L h = holders-own L

-- Room made.
pub holders-make_room : (L : Ledger) → AreLive L.ops L.queue → SameHolders L (make_room L)
holders-make_room L h = holders-room (length L.queue == L.capacity) L h

-- An entry pushed.
pub holders-push : (L : Ledger) (entry : Queued) → AreLive L.ops L.queue → SameHolders L (push L entry)
holders-push L entry h = let s = holders-make_room L h in record { users = s.users; ops = s.ops }

-- The queue after room was made.
live-room : (b : Bool) (L : Ledger) → AreLive L.ops L.queue → AreLive (if b then take_all L else L).ops (if b then take_all L else L).queue
live-room true L h = live-none (take_all L).ops (take_all L).queue (queue-take_each (record L { queue = [] }) L.queue)
live-room false L h = h

-- The queue after room was made.
pub live-make_room : (L : Ledger) → AreLive L.ops L.queue → AreLive (make_room L).ops (make_room L).queue
live-make_room L h = live-room (length L.queue == L.capacity) L h

-- The queue after the close of a handle was pushed.
pub live-push_close : (L : Ledger) (k : ℕ) → AreLive L.ops L.queue → AreLive (push L (Queued.Close k)).ops (push L (Queued.Close k)).queue
live-push_close L k h =
    let M : Ledger = make_room L in live-append M.ops M.queue (Queued.Close k) (live-make_room L h) (live-close M.ops k)

-- The queue after a cancel was pushed.
pub live-push_cancel : (L : Ledger) (n : ℕ) → AreLive L.ops L.queue → AreLive (push L (Cancel n)).ops (push L (Cancel n)).queue
live-push_cancel L n h =
    let M : Ledger = make_room L in live-append M.ops M.queue (Cancel n) (live-make_room L h) (live-cancel M.ops n)

-- Closes pushed.
pub holders-push_closes : (L : Ledger) (handles : List ℕ) → AreLive L.ops L.queue → SameHolders L (push_each L (map Queued.Close handles))
holders-push_closes L [] h = holders-own L
holders-push_closes L (k ∷ handles) h =
    holders-then (holders-push L (Queued.Close k) h)
    (holders-push_closes (push L (Queued.Close k)) handles (live-push_close L k h))

-- An operation that didn't hold a handle, and is gone, leaves its holders as they are.
pub holding-gone-other : (L : Ledger) (n h : ℕ) → ((o : Operation) → slice_get L.ops n ≡ Some o → is_holding h o ≡ false) →
    holding_ops (with_gone L n) h ≡ holding_ops L h
holding-gone-other L n h other = where-kept (is_holding h) (at_place Gone) L.ops n 0 (λ o there. sym (other o there))

-- A new operation joins those that hold the handles that it names.
pub holding-new_op : (L : Ledger) (o : Operation) (h : ℕ) →
    holding_ops (with_new_op L o) h ≡ holding_ops L h ++ (if is_holding h o then length L.ops ∷ [] else [])
holding-new_op L o h =
    where-joined (is_holding h) L.ops o 0
    ∙ ap (λ n. holding_ops L h ++ (if is_holding h o then n ∷ [] else [])) (let e : 0 + length L.ops ≡ length L.ops = omega arith in e)
