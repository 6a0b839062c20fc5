-- Asking for the cancels of operations that are under a group, one after another.
use Rattle.std.proofs.Common.{◌≡◌, ℕ, ◌<◌, Bool, List, [], ◌∷◌, length, Option, Some, None}
use Rattle.std.proofs.Common.{option_map, slice_get, refl, sym, ◌∙◌, ap, subst}
use Rattle.std.specs.Prelude.{is_some, unwrap_or}
use Rattle.std.specs.FinMap.{get, len}
use Rattle.rent_buf.specs.Buffer.{Buffer}
use Rattle.cancel_core.specs.Group.{group_at}
use Rattle.machine.specs.declared.ledger.Event.TheVariants.{CancelAll}
use Rattle.machine.specs.declared.ledger.Refusal.TheVariants.{NoCanceller}
use Rattle.machine.specs.declared.ledger.Reply.TheVariants.{Cancels}
use Rattle.machine.specs.Lists.{amended, numbers_where}
use Rattle.machine.specs.Refusal.{refused_if}
use Rattle.machine.specs.Step.{group_of}
use Rattle.machine.proofs.Where.{where-kept}
use Rattle.driver_core.specs.declared.members.places.Place.{Place}
use Rattle.driver_core.specs.Groups.{AreInSlots}
use Rattle.driver_core.specs.Members.{Membership, key_at, cancels}
use Rattle.driver_core.specs.Op.{KeepsTokens}
use Rattle.driver_core.specs.Ops.{Ops}
use Rattle.driver_core.specs.Slot.{number_at}
use Rattle.ready_driver.specs.HandlesStand.{HandlesStand}
use Rattle.ready_driver.specs.Io.{IoView}
use Rattle.ready_driver.specs.Legacy.{LegacyOp, Legacy, seen, members_at, is_on}
use Rattle.ready_driver.specs.LegacyCalls.{Asking, asks_in, asks_each, asking_in}
use Rattle.ready_driver.specs.LegacyStands.{GroupsStand, LegacyStands, LegacyAnswers}
use Rattle.ready_driver.specs.LegacyState.{LegacyState, ops_in}
use Rattle.ready_driver.specs.LegacyStep.{with_ask, ask_each, cancel_group, legacy_row}
use Rattle.ready_driver.specs.Named.{AreNaming}
use Rattle.ready_driver.specs.Polling.{OpsStand}
use Rattle.ready_driver.proofs.Driven.{slots-like, answers-row, canceller-there}
use Rattle.ready_driver.proofs.Events.{len-canceled, asked-live, asked-on}
use Rattle.ready_driver.proofs.Grouped.{groups-canceled}
use Rattle.ready_driver.proofs.Naming.{naming-canceled}
use Rattle.ready_driver.proofs.Standing.{standing-like}

-- Operations are those of a driver with other slots, of which what is left makes what all make of its own.
pub record AsksSlots {B : Type 0} (buffer : B → Buffer) (ops : Ops B) (D : Legacy) (left all : List ℕ) : Type 0 where
  pub slots : List (Option LegacyOp)
  pub stands : OpsStand buffer ops (record D { slots = slots })
  pub same : ask_each slots left ≡ ask_each D.slots all

-- The operation of a number that has a key is in the slot there.
pub keyed-slot : {B : Type 0} (m : Membership) (old new : Ops B) (n key : ℕ) → AreInSlots m old.slots.values → KeepsTokens old new →
    key_at m n ≡ Some key → number_at new.slots.values key ≡ Some n
keyed-slot {B} m old new n key are keeps at = by (get m.places n) refl at
  where
    by : (x : Option Place) → get m.places n ≡ x → option_map (λ place. place.key) x ≡ Some key → number_at new.slots.values key ≡ Some n
    by None there is = (let f : ⊥ = cc in absurd f)
    by (Some place) there is =
        let e : place.key ≡ key = cc in
        subst (λ k. number_at new.slots.values k ≡ Some n) e
        ((keeps (record { number = n; key = place.key })).0 (are n place there))

-- Asking for cancels leaves the count of operations.
pub asks-naming : {I B : Type 0} (m : Membership) (a : Asking I B) (numbers : List ℕ) (given : ℕ) →
    AreNaming a.handling.table a.slots given →
    AreNaming (asks_each m a numbers).handling.table (asks_each m a numbers).slots given
asks-naming m a [] given are = are
asks-naming {I} {B} m a (n ∷ numbers) given are =
    asks-naming m (asks_in a n (key_at m n)) numbers given (by (key_at m n))
  where
    by : (x : Option ℕ) → AreNaming (asks_in a n x).handling.table (asks_in a n x).slots given
    by None = are
    by (Some key) = naming-canceled a.handling.table a.slots given key are

-- It leaves the object and the holders of handles, and how many slots are live.
pub record AsksLeave {I B : Type 0} (old new : Asking I B) : Type 0 where
  pub io : new.handling.io ≡ old.handling.io
  pub table : new.handling.table ≡ old.handling.table
  pub live : len new.slots ≡ len old.slots

-- What asks for the cancel of each of some numbers leaves these.
pub asks-leave : {I B : Type 0} (m : Membership) (a : Asking I B) (numbers : List ℕ) → AsksLeave a (asks_each m a numbers)
asks-leave m a [] = record { io = refl; table = refl; live = refl }
asks-leave {I} {B} m a (n ∷ numbers) =
    let one = by (key_at m n) in
    let rest = asks-leave m (asks_in a n (key_at m n)) numbers in
    record { io = rest.io ∙ one.io; table = rest.table ∙ one.table; live = rest.live ∙ one.live }
  where
    by : (x : Option ℕ) → AsksLeave a (asks_in a n x)
    by None = record { io = refl; table = refl; live = refl }
    by (Some key) = record { io = refl; table = refl; live = len-canceled a.slots key }

-- A test that doesn't see whether cancels are asked for passes for the same operations.
each-unseen : (test : Option LegacyOp → Bool) → ((slot : Option LegacyOp) → test (option_map with_ask slot) ≡ test slot) →
    (slots : List (Option LegacyOp)) (numbers : List ℕ) → numbers_where test 0 (ask_each slots numbers) ≡ numbers_where test 0 slots
each-unseen test unseen slots [] = refl
each-unseen test unseen slots (n ∷ numbers) =
    each-unseen test unseen (amended slots n (option_map with_ask)) numbers
    ∙ where-kept test (option_map with_ask) slots n 0 (λ x there. unseen x)

-- A group of a driver that is one as plain data is canceled.
pub stands-cancels : {I B : Type 0} (view : I → IoView) (buffer : B → Buffer) (d : LegacyState I B) (D : Legacy) →
    LegacyStands view buffer d D → (group : ℕ) (numbers : List ℕ) (new : LegacyState I B) → group < length d.members.groups →
    numbers ≡ (group_at d.members.groups group).members →
    OpsStand buffer (ops_in new) (record D { slots = ask_each D.slots numbers }) → AsksLeave (asking_in d) (asking_in new) →
    new.members ≡ cancels d.members group → (k : ℕ) → slice_get D.cancellers k ≡ Some group →
    LegacyAnswers view buffer D (CancelAll k) (Cancels numbers) new
stands-cancels view buffer d D old group numbers new within is ops leaves members k there =
    let E : Legacy = cancel_group D k group in
    let named_are : numbers ≡ members_at D group = is ∙ old.groups.members group in
    let same : group_of (seen D) k ≡ group = ap (λ x. unwrap_or x 0) there in
    let row : legacy_row D (CancelAll k) ≡ (E, Cancels (members_at D group)) =
    ap (λ g. (cancel_group D k g, Cancels (members_at D g))) same in
    let mine : OpsStand buffer (ops_in new) (record D { slots = ask_each D.slots (members_at D group) }) =
    subst (λ ns. OpsStand buffer (ops_in new) (record D { slots = ask_each D.slots ns })) named_are ops in
    answers-row view buffer D (CancelAll k) (Cancels numbers) new
    (ap (λ b. refused_if b NoCanceller None) (canceller-there view buffer d D old k group there))
    (ap (λ p. p.1) row ∙ ap Cancels (sym named_are))
    (subst (LegacyStands view buffer new) (sym (ap (λ p. p.0) row)) (record {
      parts = record {
        operations = record {
          given = mine.given;
          slots = slots-like buffer new.slots.values (record D { slots = ask_each D.slots (members_at D group) }) E refl mine.slots;
        };
        handles = ap (λ i. (view i).world) leaves.io ∙ old.parts.handles;
      };
      live = leaves.live ∙ old.live ∙ ap length (sym (each-unseen is_some asked-live D.slots (members_at D group)));
      handles = subst (λ t. HandlesStand t (view new.handling.io).keys E) (sym leaves.table)
          (subst (λ i. HandlesStand d.handling.table (view i).keys E) (sym leaves.io)
          (standing-like d.handling.table (view d.handling.io).keys D E old.handles refl
          (λ h. ap length (each-unseen (is_on h) (asked-on h) D.slots (members_at D group))) refl));
      groups = subst (λ m. GroupsStand m E) (sym members) (groups-canceled d.members D k group within old.groups);
      few = old.few;
    }))
