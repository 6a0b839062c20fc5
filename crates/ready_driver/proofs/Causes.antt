-- A readiness driver that stands for a ledger refuses what the machine refuses, and has its groups and their members.
use Rattle.std.proofs.Common.{◌≡◌, ℕ, Bool, true, false, not, ◌&&◌, ◌||◌, List, [], ◌∷◌, length, Option, Some, None, option_map, slice_get}
use Rattle.std.proofs.Common.{refl, sym, ◌∙◌, ap, if◌then◌else◌, ◌==◌}
use Rattle.std.specs.Prelude.{nat_le, is_some}
use Rattle.rent_buf.specs.Buffer.{Buffer}
use Rattle.rent_buf.specs.Parts.{Parts}
use Rattle.machine.specs.declared.request.Request.{Request}
use Rattle.machine.specs.declared.ledger.TheConstants.{MOST_LIVE}
use Rattle.machine.specs.declared.ledger.Event.{Event}
use Rattle.machine.specs.declared.ledger.Event.TheVariants.{Give, Feed, FeedMessage, End, Look, Close, Submit, Poll, Drop, Cancel}
use Rattle.machine.specs.declared.ledger.Event.TheVariants.{NewCanceller, NewHandle, CancelAll, Turn, Exec}
use Rattle.machine.specs.declared.ledger.Refusal.TheVariants.{NoOp, NoCanceller, NoHandle, Full, BadHandleEvent}
use Rattle.machine.specs.Lists.{numbers_where, passes}
use Rattle.machine.specs.Request.{named}
use Rattle.machine.specs.Ledger.{Ledger, Operation, Owner, Place, InQueue, InFlight, InDone, Reaped, Gone, empty, is_live, is_kept}
use Rattle.machine.specs.Ledger.{is_owned}
use Rattle.machine.specs.Ledger.{user_holds, is_marked, is_member, is_under_marked, group_under, members}
use Rattle.machine.specs.Queue.{take_all}
use Rattle.machine.specs.Refusal.{cause, refused_if, lacks_handle, has_no_canceller, has_bad_handle_event}
use Rattle.machine.proofs.Amended.{get-map}
use Rattle.machine.proofs.Taking.{Took, take_all-ops, taken_place, with_taking}
use Rattle.ready_driver.specs.Legacy.{LegacyOp, Legacy, seen, slot_in, slot_at, holds_at, is_under_at, members_at}
use Rattle.ready_driver.specs.LegacyStep.{misses_handle, has_no_room, legacy_cause}
use Rattle.ready_driver.specs.Readiness.{IsDriven, slot_by}
use Rattle.ready_driver.proofs.Lists.{numbers-like}
use Rattle.ready_driver.proofs.Asks.{CalmAt, Calm}
use Rattle.ready_driver.proofs.Settled.{Shown, Stands, shown}

-- What a ledger has alike with a driver.
abbrev bare : Ledger → Ledger
bare L =
    record (empty 0) { world = L.world; cancellers = L.cancellers; cancel_handles = L.cancel_handles; groups = L.groups }

-- A driver has it of the ledger that it shows.
pub sees : (D : Legacy) (L : Ledger) → Shown D L → seen D ≡ bare L
sees D L s =
    ap (λ w. record (seen D) { world = w }) s.world
    ∙ ap (λ c. record (seen D) { world = L.world; cancellers = c }) s.cancellers
    ∙ ap (λ h. record (seen D) { world = L.world; cancellers = L.cancellers; cancel_handles = h }) s.cancel_handles
    ∙ ap (λ g. record (seen D) { world = L.world; cancellers = L.cancellers; cancel_handles = L.cancel_handles; groups = g }) s.groups

-- A request is under a marked group by that alone.
bare-under : (L : Ledger) (under : Option ℕ) → is_under_marked (bare L) under ≡ is_under_marked L under
bare-under L None = refl
bare-under L (Some handle) = refl

-- So is its group.
bare-group : (L : Ledger) (under : Option ℕ) → group_under (bare L) under ≡ group_under L under
bare-group L None = refl
bare-group L (Some handle) = refl

-- A request is submitted under a marked group exactly where it is in the machine.
pub sees-under : (D : Legacy) (L : Ledger) (under : Option ℕ) → Shown D L → is_under_marked (seen D) under ≡ is_under_marked L under
sees-under D L under s = ap (λ S. is_under_marked S under) (sees D L s) ∙ bare-under L under

-- It is submitted under the machine's group.
pub sees-group : (D : Legacy) (L : Ledger) (under : Option ℕ) → Shown D L → group_under (seen D) under ≡ group_under L under
sees-group D L under s = ap (λ S. group_under S under) (sees D L s) ∙ bare-group L under

-- A canceller is there by that alone.
bare-canceller : (L : Ledger) (request : Request Buffer Parts) (under : Option ℕ) →
    has_no_canceller (bare L) (Submit request under false) ≡ has_no_canceller L (Submit request under false)
bare-canceller L request None = refl
bare-canceller L request (Some handle) = refl

-- The slot of a number is that of the operation once the queue is taken.
pub slot-taken : (D : Legacy) (L : Ledger) (n : ℕ) → Shown D L → slot_at D n ≡ slot_in (option_map shown (slice_get (take_all L).ops n))
slot-taken D L n s = ap (λ xs. slot_in (slice_get xs n)) s.slots ∙ ap slot_in (get-map shown (take_all L).ops n)

-- Taking doesn't change whether there is a slot, nor which.
pub slot-by-taken : (p : Place) (op : LegacyOp) → slot_by (taken_place p) op ≡ slot_by p op
slot-by-taken InQueue op = refl
slot-by-taken InFlight op = refl
slot-by-taken (InDone outcome) op = refl
slot-by-taken (Reaped outcome) op = refl
slot-by-taken Gone op = refl

-- There is a slot where the operation of a place isn't gone.
pub slot-live : {X : Type 0} (test : Option LegacyOp → X) (none some : X) (p : Place) (op : LegacyOp) → test None ≡ none →
    test (Some op) ≡ some → test (slot_by p op) ≡ (if is_kept p then some else none)
slot-live test none some InQueue op a b = b
slot-live test none some InFlight op a b = b
slot-live test none some (InDone outcome) op a b = b
slot-live test none some (Reaped outcome) op a b = b
slot-live test none some Gone op a b = a

-- A conjunction by its first test.
pub if-and : (a b : Bool) → (if a then b else false) ≡ (a && b)
if-and true b = refl
if-and false b = refl

-- A calm operation that isn't gone wasn't dropped.
calm-kept : (p : Place) (dropped : Bool) (made : Option ℕ) → CalmAt (taken_place p) dropped made → is_kept p ≡ (is_kept p && not dropped)
calm-kept InQueue dropped made c = ap not (sym c.0)
calm-kept InFlight dropped made c = ap not (sym c.0)
calm-kept (InDone outcome) dropped made c = absurd c
calm-kept (Reaped outcome) dropped made c = absurd c
calm-kept Gone dropped made c = refl

-- A test of a slot is one of the operation that was looked up, where it is so of each.
by-slot : {X : Type 0} (test : Option LegacyOp → X) (read : Operation → X) (x : Option Operation) (canceled : Bool) (waits : Option ℕ) →
    ((o : Operation) → x ≡ Some o → test (shown (with_taking canceled waits o)) ≡ read o) →
    option_map test (option_map shown (option_map (with_taking canceled waits) x)) ≡ option_map read x
by-slot test read None canceled waits h = refl
by-slot test read (Some o) canceled waits h = ap Some (h o refl)

-- A driver that stands for a ledger.
module _ (D : Legacy) (L : Ledger) (st : Stands D L) where
  -- What taking made of an operation.
  abbrev took : (k : ℕ) → Took (slice_get L.ops k) (slice_get (take_all L).ops k)
  took k = take_all-ops L st.settled.half.lists k

  -- A test of the slots is one of the operations.
  pub tests-alike : {X : Type 0} (test : Option LegacyOp → X) (read : Operation → X) →
      ((o : Operation) (canceled : Bool) (waits : Option ℕ) → Calm (with_taking canceled waits o) →
      test (shown (with_taking canceled waits o)) ≡ read o) → (k : ℕ) →
      option_map test (slice_get D.slots k) ≡ option_map read (slice_get L.ops k)
  tests-alike test read same k =
      ap (λ xs. option_map test (slice_get xs k)) st.shows.slots
      ∙ ap (option_map test) (get-map shown (take_all L).ops k ∙ ap (option_map shown) (took k).is)
      ∙ by-slot test read (slice_get L.ops k) (took k).canceled (took k).waits_for (λ o there. same o (took k).canceled (took k).waits_for
      (st.settled.half.calm k (with_taking (took k).canceled (took k).waits_for o)
      ((took k).is ∙ ap (option_map (with_taking (took k).canceled (took k).waits_for)) there)))

  -- There is a slot of each operation that isn't gone.
  live-slots : numbers_where is_some 0 D.slots ≡ numbers_where is_live 0 L.ops
  live-slots = numbers-like is_some is_live 0 D.slots L.ops (tests-alike is_some is_live (λ o canceled waits calm.
      ap is_some (slot-by-taken o.place _) ∙ slot-live is_some false true o.place _ refl refl ∙ if-same (is_kept o.place)))
    where
      if-same : (b : Bool) → (if b then true else false) ≡ b
      if-same true = refl
      if-same false = refl

  -- A test of what was looked up.
  passes-some : (x : Option (Option LegacyOp)) (y : Option Operation) → option_map is_some x ≡ option_map is_owned y →
      is_some (slot_in x) ≡ passes is_owned y
  passes-some None None same = refl
  passes-some None (Some o) same = (let e : ◌≡◌ {A = Option Bool} None (Some (is_owned o)) = same in let f : ⊥ = cc in absurd f)
  passes-some (Some s) None same = (let e : ◌≡◌ {A = Option Bool} (Some (is_some s)) None = same in let f : ⊥ = cc in absurd f)
  passes-some (Some s) (Some o) same =
      (let e : ◌≡◌ {A = Option Bool} (Some (is_some s)) (Some (is_owned o)) = same in let f : is_some s ≡ is_owned o = cc in f)

  -- There is a slot of a number exactly where the operation is its user's.
  slot-owned : (n : ℕ) → is_some (slot_at D n) ≡ passes is_owned (slice_get L.ops n)
  slot-owned n = passes-some (slice_get D.slots n) (slice_get L.ops n) (tests-alike is_some is_owned (λ o canceled waits calm.
      ap is_some (slot-by-taken o.place _) ∙ slot-live is_some false true o.place _ refl refl ∙ if-and (is_kept o.place) true
      ∙ and-true (is_kept o.place) ∙ calm-kept o.place o.dropped o.made calm) n)
    where
      and-true : (b : Bool) → (b && true) ≡ b
      and-true true = refl
      and-true false = refl

  -- The members of a group are the same.
  pub same-members : (g : ℕ) → members_at D g ≡ members L g
  same-members g =
      ap (λ S. if is_marked S g then [] else numbers_where (is_under_at g) 0 D.slots) (sees D L st.shows)
      ∙ ap (λ xs. if is_marked L g then [] else xs) (numbers-like (is_under_at g) (is_member g) 0 D.slots L.ops
      (tests-alike (is_under_at g) (is_member g) (λ o canceled waits calm.
      let under : Bool = passes (λ group. group == g) o.group in
      ap (is_under_at g) (slot-by-taken o.place _) ∙ slot-live (is_under_at g) false under o.place _ refl refl
      ∙ if-and (is_kept o.place) under ∙ and-swap (is_kept o.place) under
      ∙ ap (λ b. under && b) (calm-kept o.place o.dropped o.made calm))))
    where
      and-swap : (a b : Bool) → (a && b) ≡ (b && a)
      and-swap true true = refl
      and-swap true false = refl
      and-swap false true = refl
      and-swap false false = refl

  -- The user holds a handle, that was looked up.
  user-of : (x : Option Owner) → passes (λ is_user. is_user) (option_map (λ owner. owner.is_user) x) ≡ passes (λ owner. owner.is_user) x
  user-of None = refl
  user-of (Some owner) = refl

  -- The user holds the same handles.
  pub same-users : (h : ℕ) → holds_at D h ≡ user_holds L h
  same-users h =
      ap (λ users. passes (λ is_user. is_user) (slice_get users h)) st.shows.users
      ∙ ap (passes (λ is_user. is_user)) (get-map (λ owner. owner.is_user) L.owners h) ∙ user-of (slice_get L.owners h)

  -- It lacks the same handles.
  misses-lacks : (handles : List ℕ) → misses_handle D handles ≡ lacks_handle L handles
  misses-lacks [] = refl
  misses-lacks (h ∷ handles) =
      ap (λ b. not b || misses_handle D handles) (same-users h) ∙ ap (λ b. not (user_holds L h) || b) (misses-lacks handles)

  -- What arrives at a handle.
  arrives-cause : (e : Event) (h : ℕ) → has_bad_handle_event (bare L) e ≡ has_bad_handle_event L e →
      refused_if (misses_handle D (h ∷ [])) NoHandle (refused_if (has_bad_handle_event (seen D) e) BadHandleEvent None)
      ≡ refused_if (lacks_handle L (h ∷ [])) NoHandle (refused_if (has_bad_handle_event L e) BadHandleEvent None)
  arrives-cause e h same =
      ap (λ b. refused_if b NoHandle (refused_if (has_bad_handle_event (seen D) e) BadHandleEvent None)) (misses-lacks (h ∷ []))
      ∙ ap (λ b. refused_if (lacks_handle L (h ∷ [])) NoHandle (refused_if b BadHandleEvent None))
      (ap (λ S. has_bad_handle_event S e) (sees D L st.shows) ∙ same)

  -- A submission that isn't linked.
  submit-cause : (request : Request Buffer Parts) (under : Option ℕ) →
      legacy_cause D (Submit request under false) ≡ cause L (Submit request under false)
  submit-cause request under =
      let e : Event = Submit request under false in
      ap (λ b. refused_if b NoCanceller (refused_if (misses_handle D (named request)) NoHandle (refused_if (has_no_room D e) Full None)))
      (ap (λ S. has_no_canceller S e) (sees D L st.shows) ∙ bare-canceller L request under)
      ∙ ap (λ b. refused_if (has_no_canceller L e) NoCanceller (refused_if b NoHandle (refused_if (has_no_room D e) Full None)))
      (misses-lacks (named request))
      ∙ ap (λ b. refused_if (has_no_canceller L e) NoCanceller (refused_if (lacks_handle L (named request)) NoHandle
      (refused_if (not b && nat_le MOST_LIVE (length (numbers_where is_some 0 D.slots))) Full None))) (sees-under D L under st.shows)
      ∙ ap (λ xs. refused_if (has_no_canceller L e) NoCanceller (refused_if (lacks_handle L (named request)) NoHandle
      (refused_if (not (is_under_marked L under) && nat_le MOST_LIVE (length xs)) Full None))) live-slots

  -- It refuses what the machine refuses.
  pub same-cause : (e : Event) → IsDriven e → legacy_cause D e ≡ cause L e
  same-cause (Give kind) r = refl
  same-cause (Feed h bytes) r = arrives-cause (Feed h bytes) h refl
  same-cause (FeedMessage h addr bytes) r = arrives-cause (FeedMessage h addr bytes) h refl
  same-cause (End h) r = arrives-cause (End h) h refl
  same-cause (Look h) r = ap (λ b. refused_if b NoHandle None) (misses-lacks (h ∷ []))
  same-cause (Close h) r = ap (λ b. refused_if b NoHandle None) (misses-lacks (h ∷ []))
  same-cause (Submit request under true) r = absurd r
  same-cause (Submit request under false) r = submit-cause request under
  same-cause (Poll n task) r = ap (λ b. refused_if (not b) NoOp None) (slot-owned n)
  same-cause (Drop n) r = ap (λ b. refused_if (not b) NoOp None) (slot-owned n)
  same-cause (Cancel n) r = ap (λ b. refused_if (not b) NoOp None) (slot-owned n)
  same-cause NewCanceller r = refl
  same-cause (NewHandle c) r = ap (λ S. refused_if (has_no_canceller S (NewHandle c)) NoCanceller None) (sees D L st.shows)
  same-cause (CancelAll c) r = ap (λ S. refused_if (has_no_canceller S (CancelAll c)) NoCanceller None) (sees D L st.shows)
  same-cause Turn r = absurd r
  same-cause (Exec place told) r = absurd r
