-- Whose cancel is recorded: of an operation with a property alone, where each cancel in the queue is one of such an operation.
use Rattle.std.proofs.Common.{◌≡◌, ◌⊎◌, inl, inr, ℕ, zero, suc, Bool, true, false, List, [], ◌∷◌, ◌++◌, length, map, Option, Some, None}
use Rattle.std.proofs.Common.{slice_get, refl, sym, ◌∙◌, ap, subst, if◌then◌else◌, ◌==◌}
use Rattle.machine.specs.Lists.{amended}
use Rattle.machine.specs.declared.request.Told.{Told}
use Rattle.machine.specs.Ledger.{Ledger, Operation, Gone, Queued, Req, Cancel, Item, Op}
use Rattle.machine.specs.Queue.{with_op, at_place, with_take, with_cancel, take_one, leader_behind, take_behind, take_all, make_room}
use Rattle.machine.specs.Queue.{append, push, push_each}
use Rattle.machine.specs.Queue.{became_unheld, with_gone, leave}
use Rattle.machine.specs.Turn.{with_reap, reap_if, reap_op, reap_one, reap_each, reap_all, with_break, released}
use Rattle.machine.proofs.Taken.{queue-take_each}
use Rattle.machine.proofs.Amended.{changed-cases, joined-cases, there-before}
use Rattle.machine.proofs.Taking.{Listed}
use Rattle.machine.proofs.Listed.{joined}
use Rattle.machine.proofs.Releasing.{with_waits, released-ops, released-beside}

-- Each cancel among these entries is one of an operation with this property.
abbrev pub CancelsOf : (ℕ → Type 0) → List Queued → Type 0
CancelsOf P entries = (n place : ℕ) → slice_get entries place ≡ Some (Cancel n) → P n

-- Each of these operations whose cancel was taken has this property.
abbrev pub TakenOf : (ℕ → Type 0) → List Operation → Type 0
TakenOf P ops = (n : ℕ) (o : Operation) → slice_get ops n ≡ Some o → o.canceled ≡ true → P n

-- Both hold of a ledger.
pub record Asked (P : ℕ → Type 0) (L : Ledger) : Type 0 where
  pub waiting : CancelsOf P L.queue
  pub taken : TakenOf P L.ops

module _ (P : ℕ → Type 0) where
  -- A property that another one follows from.
  pub asked-more : (Q : ℕ → Type 0) (L : Ledger) → ((n : ℕ) → P n → Q n) → Asked P L → Asked Q L
  asked-more Q L more h =
      record { waiting = λ n place there. more n (h.waiting n place there); taken = λ n o there is. more n (h.taken n o there is) }

  -- A change of one operation records no cancel, or one of an operation with the property.
  pub taken-changed : (ops : List Operation) (m : ℕ) (change : Operation → Operation) →
      ((o : Operation) → (change o).canceled ≡ true → (o.canceled ≡ true) ⊎ P m) → TakenOf P ops → TakenOf P (amended ops m change)
  taken-changed ops m change keeps h n o there is = elim (changed-cases change ops m n) [
    | inl e ↦ (
        let b = there-before change (slice_get ops m) o (sym e.1 ∙ there) in
        elim (keeps b.0 (ap (λ z. z.canceled) (sym b.2) ∙ is)) [
          | inl was ↦ subst P (sym e.0) (h m b.0 b.1 was)
          | inr p ↦ subst P (sym e.0) p
        ])
    | inr e ↦ h n o (sym e.1 ∙ there) is
  ]

  -- One entry taken.
  taken-one : (leader : Option ℕ) (L : Ledger) (entry : Queued) → CancelsOf P (entry ∷ []) → TakenOf P L.ops →
      TakenOf P (take_one leader L entry).ops
  taken-one leader L (Req m) of h = taken-changed L.ops m (with_take leader) (λ o is. inl is) h
  taken-one leader L (Cancel m) of h = taken-changed L.ops m with_cancel (λ o is. inr (of m 0 refl)) h
  taken-one leader L (Queued.Close k) of h = h

  -- The first of some entries, and the rest.
  first-of : (entry : Queued) (entries : List Queued) → CancelsOf P (entry ∷ entries) → CancelsOf P (entry ∷ [])
  first-of entry entries h n zero there = h n zero there
  first-of entry entries h n (suc place) there = (let e : ⊥ = cc in absurd e)

  -- Entries taken, in order, whatever the first of them follows.
  taken-each : (leader : Option ℕ) (L : Ledger) (entries : List Queued) → CancelsOf P entries → TakenOf P L.ops →
      TakenOf P (take_behind leader L entries).ops
  taken-each leader L [] of h = h
  taken-each leader L (entry ∷ entries) of h =
      taken-each (leader_behind L entry) (take_one leader L entry) entries (λ n place. of n (suc place))
      (taken-one leader L entry (first-of entry entries of) h)

  -- The queue taken.
  pub asked-take_all : (L : Ledger) → Asked P L → Asked P (take_all L)
  asked-take_all L h = record {
    waiting =
        λ n place there. (let e : slice_get [] place ≡ Some (Cancel n) = sym
        (ap (λ q. slice_get q place) (queue-take_each (record L { queue = [] }) L.queue)) ∙ there in let f : ⊥ = cc in absurd f);
    taken = taken-each None (record L { queue = [] }) L.queue h.waiting h.taken;
  }

  -- Making room, or not, keeps what was asked for.
  asked-room : (b : Bool) (L : Ledger) → Asked P L → Asked P (if b then take_all L else L)
  asked-room true L h = asked-take_all L h
  asked-room false L h = h

  -- Room made.
  pub asked-make_room : (L : Ledger) → Asked P L → Asked P (make_room L)
  asked-make_room L h = asked-room (length L.queue == L.capacity) L h

  -- One entry more.
  cancels-append : (entries : List Queued) (entry : Queued) → CancelsOf P entries → CancelsOf P (entry ∷ []) →
      CancelsOf P (entries ++ entry ∷ [])
  cancels-append entries entry h one n place there = elim (joined-cases entries entry place) [
    | inl e ↦ one n 0 (sym e.2 ∙ there)
    | inr e ↦ h n place (sym e.1 ∙ there)
  ]

  -- The close of a handle is pushed.
  pub asked-push_close : (L : Ledger) (k : ℕ) → Asked P L → Asked P (push L (Queued.Close k))
  asked-push_close L k h =
      let room = asked-make_room L h in
      record { waiting = cancels-append (make_room L).queue (Queued.Close k) room.waiting one; taken = room.taken }
    where
      one : CancelsOf P (Queued.Close k ∷ [])
      one n zero there = (let e : ⊥ = cc in absurd e)
      one n (suc place) there = (let e : ⊥ = cc in absurd e)

  -- Closes are pushed.
  pub asked-push_closes : (L : Ledger) (handles : List ℕ) → Asked P L → Asked P (push_each L (map Queued.Close handles))
  asked-push_closes L [] h = h
  asked-push_closes L (k ∷ handles) h = asked-push_closes (push L (Queued.Close k)) handles (asked-push_close L k h)

  -- A cancel of an operation with the property joins the queue.
  pub asked-appended : (M : Ledger) (m : ℕ) → P m → Asked P M → Asked P (append M (Cancel m))
  asked-appended M m p h = record { waiting = cancels-append M.queue (Cancel m) h.waiting (one m p); taken = h.taken }
    where
      one : (m : ℕ) → P m → CancelsOf P (Cancel m ∷ [])
      one m p n zero there = (let e : m ≡ n = cc in subst P e p)
      one m p n (suc place) there = (let e : ⊥ = cc in absurd e)

  -- A new operation and its request join.
  pub asked-joined : (M : Ledger) (o : Operation) → o.canceled ≡ false → Asked P M → Asked P (joined M o)
  asked-joined M o fresh h = record {
    waiting = cancels-append M.queue (Req (length M.ops)) h.waiting one;
    taken = λ n q there is. elim (joined-cases M.ops o n) [
      | inl e ↦ (let same : o ≡ q = (let w = sym e.2 ∙ there in cc) in let f : true ≡ false = sym is ∙ ap (λ z. z.canceled) (sym same)
          ∙ fresh in let g : ⊥ = cc in absurd g)
      | inr e ↦ h.taken n q (sym e.1 ∙ there) is
    ];
  }
    where
      one : CancelsOf P (Req (length M.ops) ∷ [])
      one n zero there = (let e : ⊥ = cc in absurd e)
      one n (suc place) there = (let e : ⊥ = cc in absurd e)

  -- A change of one operation that records no cancel.
  pub asked-op : (L : Ledger) (n : ℕ) (change : Operation → Operation) → ((o : Operation) → (change o).canceled ≡ o.canceled) →
      Asked P L → Asked P (with_op L n change)
  asked-op L n change keeps h =
      record { waiting = h.waiting; taken = taken-changed L.ops n change (λ o is. inl (sym (keeps o) ∙ is)) h.taken }

  -- An operation that leaves.
  pub asked-leave : (L : Ledger) (n : ℕ) → Asked P L → Asked P (leave L n)
  asked-leave L n h =
      asked-push_closes (with_gone L n) (became_unheld L (with_gone L n)) (asked-op L n (at_place Gone) (λ o. refl) h)

  -- The completion of an operation that was dropped, or wasn't.
  asked-if : (dropped : Bool) (L : Ledger) (m : ℕ) → Asked P L → Asked P (reap_if dropped L m)
  asked-if true L m h = asked-leave L m h
  asked-if false L m h = asked-op L m with_reap (λ o. refl) h

  -- The same of an operation that was looked up.
  asked-reap_op : (L : Ledger) (m : ℕ) (x : Option Operation) → Asked P L → Asked P (reap_op L m x)
  asked-reap_op L m None h = h
  asked-reap_op L m (Some o) h = asked-if o.dropped L m h

  -- Completions reaped, in order.
  asked-each : (L : Ledger) (items : List Item) → Asked P L → Asked P (reap_each L items)
  asked-each L [] h = h
  asked-each L (Op m ∷ items) h = asked-each (reap_one L (Op m)) items (asked-reap_op L m (slice_get L.ops m) h)
  asked-each L (Item.Close k ∷ items) h = asked-each L items h

  -- All that was done reaped.
  pub asked-reap_all : (L : Ledger) → Asked P L → Asked P (reap_all L).0
  asked-reap_all L h = asked-each (record L { done = [] }) L.done (record { waiting = h.waiting; taken = h.taken })

  -- Those that wait for an operation that was executed are released.
  pub asked-released : (told : Told) (L : Ledger) (n : ℕ) → Listed L → Asked P L → Asked P (released told L n)
  asked-released told L n lists h = record {
    waiting = subst (CancelsOf P) (sym (released-beside told L n).queue) h.waiting;
    taken = λ k o there is. elim (released-ops told L n lists k) [
      | inl s ↦ (
          let b = there-before (with_waits s.waits_for) (slice_get L.ops k) o (sym s.is ∙ there) in
          h.taken k b.0 b.1 (ap (λ z. z.canceled) (sym b.2) ∙ is))
      | inr b ↦ (
          let q : with_break b.operation ≡ o = (let w = sym b.is ∙ there in cc) in
          h.taken k b.operation b.there (ap (λ z. z.canceled) q ∙ is))
    ];
  }
