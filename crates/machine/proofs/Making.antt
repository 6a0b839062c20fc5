-- Where the operations of a ledger come from, by each change of it that makes none and executes none.
use Rattle.std.proofs.Common.{◌≡◌, inl, inr, ℕ, Bool, true, false, List, [], ◌∷◌, map, Option}
use Rattle.std.proofs.Common.{None, Some, option_map, slice_get, refl, sym, ◌∙◌, ap, subst, true≢false}
use Rattle.machine.specs.Lists.{passes}
use Rattle.machine.specs.Ledger.{Ledger, Operation, Owner, Place, InQueue, InFlight, InDone, Reaped, Gone, Queued}
use Rattle.machine.specs.Ledger.{is_kept, is_live, user_holds}
use Rattle.machine.specs.Queue.{with_op, at_place, take_all, push, push_each, became_unheld, with_gone, leave}
use Rattle.machine.specs.Turn.{turn_step}
use Rattle.machine.specs.Step.{as_user, with_user}
use Rattle.machine.specs.Closes.{made_at}
use Rattle.machine.proofs.Numbers.{same-or-not}
use Rattle.machine.proofs.Amended.{get-amended, changed-cases, there-before}
use Rattle.machine.proofs.Staying.{stays-take_all, stays-push, stays-push_each, stays-reap_each}
use Rattle.machine.proofs.Users.{user-with_user-other}
use Rattle.machine.proofs.Taking.{taken_place, with_taking, Listed, take_all-ops, listed-take_all}
use Rattle.machine.proofs.Listed.{MayTake, make_room-ops, push_closes-ops, listed-push_cancel}
use Rattle.machine.proofs.Reaping.{ended_place, with_end, reap_all-ops, closed-take_all}
use Rattle.machine.proofs.Ending.{Unmarked, listed-gone}

-- An operation from another one: it has its request and what that made, and where it isn't gone the other isn't, and its place says the
-- same of what was made.
pub record From (o p : Operation) : Type 0 where
  pub request : p.request ≡ o.request
  pub made : p.made ≡ o.made
  pub live : is_live p ≡ true → is_live o ≡ true
  pub place : is_live p ≡ true → made_at p.place ≡ made_at o.place

-- An operation as it was.
from-same : (o : Operation) → From o o
from-same o = record { request = refl; made = refl; live = λ l. l; place = λ l. refl }

-- An operation in two such steps.
from-then : {o p q : Operation} → From o p → From p q → From o q
from-then a b = record {
  request = b.request ∙ a.request;
  made = b.made ∙ a.made;
  live = λ l. a.live (b.live l);
  place = λ l. b.place l ∙ a.place (b.live l);
}

-- Each operation of a ledger comes from that of its number in another one, and users hold no more.
pub record OpsFrom (L M : Ledger) : Type 0 where
  pub users : (h : ℕ) → user_holds M h ≡ true → user_holds L h ≡ true
  pub ops : (n : ℕ) (p : Operation) → slice_get M.ops n ≡ Some p → (o : Operation) × (slice_get L.ops n ≡ Some o) × From o p

-- Two such ledgers, one after the other.
pub ops_from-then : {L K M : Ledger} → OpsFrom L K → OpsFrom K M → OpsFrom L M
ops_from-then {L} {K} {M} a b = record {
  users = λ h is. a.users h (b.users h is);
  ops = λ n p there. (let q = b.ops n p there in let o = a.ops n q.0 q.1 in (o.0, o.1, from-then o.2 q.2));
}

-- The same operations and owners.
pub ops_from-same : (L : Ledger) → OpsFrom L L
ops_from-same L = record { users = λ h is. is; ops = λ n p there. (p, there, from-same p) }

-- One operation that is changed, by what it was.
pub ops_from-op_at : (L : Ledger) (n : ℕ) (change : Operation → Operation) →
    ((o : Operation) → slice_get L.ops n ≡ Some o → From o (change o)) → OpsFrom L (with_op L n change)
ops_from-op_at L n change comes = record {
  users = λ h is. is;
  ops = λ m p there. elim (changed-cases change L.ops n m) [
    | inl e ↦ (
        let b = there-before change (slice_get L.ops n) p (sym e.1 ∙ there) in
        (b.0, ap (slice_get L.ops) e.0 ∙ b.1, subst (From b.0) (sym b.2) (comes b.0 b.1)))
    | inr e ↦ (p, sym e.1 ∙ there, from-same p)
  ];
}

-- One operation that is changed.
pub ops_from-op : (L : Ledger) (n : ℕ) (change : Operation → Operation) → ((o : Operation) → From o (change o)) →
    OpsFrom L (with_op L n change)
ops_from-op L n change comes = ops_from-op_at L n change (λ o there. comes o)

-- An operation that is gone.
pub from-gone : (o : Operation) → From o (at_place Gone o)
from-gone o = record {
  request = refl;
  made = refl;
  live = λ l. absurd (true≢false (sym l));
  place = λ l. absurd (true≢false (sym l));
}

-- What is taken isn't gone by that, or was.
pub kept-taken : (p : Place) → is_kept (taken_place p) ≡ is_kept p
kept-taken InQueue = refl
kept-taken InFlight = refl
kept-taken (InDone outcome) = refl
kept-taken (Reaped outcome) = refl
kept-taken Gone = refl

-- The place of what is taken says the same of what was made.
made-taken : (p : Place) → made_at (taken_place p) ≡ made_at p
made-taken InQueue = refl
made-taken InFlight = refl
made-taken (InDone outcome) = refl
made-taken (Reaped outcome) = refl
made-taken Gone = refl

-- An operation that is taken.
from-taken : (canceled : Bool) (waits_for : Option ℕ) (o : Operation) → From o (with_taking canceled waits_for o)
from-taken canceled waits_for o =
    record { request = refl; made = refl; live = λ l. sym (kept-taken o.place) ∙ l; place = λ l. made-taken o.place }

-- What isn't gone once all that was done was reaped wasn't before, and its place says the same of what was made.
ended-from : (dropped : Bool) (p : Place) → is_kept (ended_place dropped p) ≡ true →
    (is_kept p ≡ true) × (made_at (ended_place dropped p) ≡ made_at p)
ended-from dropped InQueue l = (refl, refl)
ended-from dropped InFlight l = (refl, refl)
ended-from true (InDone outcome) l = absurd (true≢false (sym l))
ended-from false (InDone outcome) l = (refl, refl)
ended-from dropped (Reaped outcome) l = (refl, refl)
ended-from dropped Gone l = absurd (true≢false (sym l))

-- An operation that is reaped, where it was done.
from-ended : (o : Operation) → From o (with_end o)
from-ended o = record {
  request = refl;
  made = refl;
  live = λ l. (ended-from o.dropped o.place l).0;
  place = λ l. (ended-from o.dropped o.place l).1;
}

-- The same owners, and operations that stayed or were taken.
pub ops_from-took : (L M : Ledger) → M.owners ≡ L.owners → ((n : ℕ) → MayTake (slice_get L.ops n) (slice_get M.ops n)) → OpsFrom L M
ops_from-took L M owners took = record {
  users = λ h is. ap (λ os. passes (λ owner. owner.is_user) (slice_get os h)) (sym owners) ∙ is;
  ops = λ n p there. at n p (slice_get M.ops n) there (took n);
}
  where
    at : (n : ℕ) (p : Operation) (y : Option Operation) → y ≡ Some p → MayTake (slice_get L.ops n) y →
        (o : Operation) × (slice_get L.ops n ≡ Some o) × From o p
    at n p y there (inl e) = (p, sym e ∙ there, from-same p)
    at n p y there (inr t) =
        let b = there-before (with_taking t.canceled t.waits_for) (slice_get L.ops n) p (sym t.is ∙ there) in
        (b.0, b.1, subst (From b.0) (sym b.2) (from-taken t.canceled t.waits_for b.0))

-- An entry that is pushed.
pub ops_from-push : (L : Ledger) (entry : Queued) → Listed L → OpsFrom L (push L entry)
ops_from-push L entry lists = ops_from-took L (push L entry) (stays-push L entry).owners (λ n. make_room-ops L lists n)

-- Closes that are pushed.
pub ops_from-closes : (L : Ledger) (handles : List ℕ) → Listed L → OpsFrom L (push_each L (map Queued.Close handles))
ops_from-closes L handles lists =
    ops_from-took L (push_each L (map Queued.Close handles)) (stays-push_each L (map Queued.Close handles)).owners
    (λ n. push_closes-ops L handles lists n)

-- Cancels that are pushed.
pub ops_from-cancels : (L : Ledger) (numbers : List ℕ) → Listed L → OpsFrom L (push_each L (map Queued.Cancel numbers))
ops_from-cancels L [] lists = ops_from-same L
ops_from-cancels L (n ∷ numbers) lists =
    ops_from-then (ops_from-push L (Queued.Cancel n) lists)
    (ops_from-cancels (push L (Queued.Cancel n)) numbers (listed-push_cancel L n lists))

-- An operation that leaves.
pub ops_from-leave : (L : Ledger) (n : ℕ) (o : Operation) → Listed L → slice_get L.ops n ≡ Some o → Unmarked o.place → OpsFrom L (leave L n)
ops_from-leave L n o lists there none =
    let G : Ledger = with_gone L n in
    ops_from-then (ops_from-op L n (at_place Gone) from-gone)
    (ops_from-closes G (became_unheld L G) (listed-gone L n o lists there none))

-- A turn.
pub ops_from-turn : (L : Ledger) → Listed L → OpsFrom L (turn_step L).0
ops_from-turn L lists =
    let T : Ledger = take_all L in
    let owners = (stays-reap_each (record T { done = [] }) T.done).owners in
    ops_from-then (ops_from-took L T (stays-take_all L).owners (λ n. inr (take_all-ops L lists n))) (record {
      users = λ h is. ap (λ os. passes (λ owner. owner.is_user) (slice_get os h)) (sym owners) ∙ is;
      ops = λ n p there. (
          let b = there-before with_end (slice_get T.ops n) p
          (sym (reap_all-ops T (closed-take_all L) (listed-take_all L lists) n) ∙ there) in
          (b.0, b.1, subst (From b.0) (sym b.2) (from-ended b.0)));
    })

-- A user that closes a handle holds no more.
pub ops_from-left : (L : Ledger) (k : ℕ) → OpsFrom L (with_user L k false)
ops_from-left L k = record {
  users = λ h is. elim (same-or-not h k) [
    | inl e ↦ absurd (nobody (slice_get L.owners k)
        (ap (passes (λ owner. owner.is_user)) (sym (get-amended (as_user false) L.owners k)) ∙ ap (user_holds (with_user L k false)) (sym e)
        ∙ is))
    | inr e ↦ sym (user-with_user-other L k h false e) ∙ is
  ];
  ops = λ n p there. (p, there, from-same p);
}
  where
    nobody : (x : Option Owner) → passes (λ owner. owner.is_user) (option_map (as_user false) x) ≡ true → ⊥
    nobody None is = true≢false (sym is)
    nobody (Some o) is = true≢false (sym is)
