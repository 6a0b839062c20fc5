-- What the calls on operations do to a readiness driver that is one as plain data.
use Rattle.std.proofs.Common.{◌≡◌, ℕ, ◌+◌, ◌<◌, ◌&&◌, ◌||◌, Bool, true, false, not, List, [], ◌∷◌, length, Option, Some, None}
use Rattle.std.proofs.Common.{option_map, slice_get, IfSome, refl, sym, ◌∙◌, ap, subst, arith}
use Rattle.std.specs.Prelude.{is_some, nat_le, IsTrue}
use Rattle.std.specs.Ordering.{nat_cmp}
use Rattle.std.specs.FinMap.{FinMap, get, insert, remove, len}
use Rattle.std.proofs.lemmas.Bool.Decides.{nat_tests}
use Rattle.std.proofs.lemmas.List.{length-append}
use Rattle.rent_buf.specs.Buffer.{Buffer}
use Rattle.rent_buf.specs.Parts.{Parts}
use Rattle.handle_core.specs.Table.{Table}
use Rattle.op_slots.specs.declared.slab.TheConstants.{MAX_LIVE}
use Rattle.machine.specs.declared.ledger.TheConstants.{MOST_LIVE}
use Rattle.machine.specs.declared.ledger.Event.TheVariants.{Submit, Drop, Cancel}
use Rattle.machine.specs.declared.ledger.Refusal.{Refusal}
use Rattle.machine.specs.declared.ledger.Refusal.TheVariants.{NoOp, NoCanceller, NoHandle, Full}
use Rattle.machine.specs.declared.ledger.Reply.TheVariants.{Submitted as Given, CanceledAtOnce, Asked, Dropped}
use Rattle.machine.specs.declared.request.Request.{Request}
use Rattle.machine.specs.Lists.{passes}
use Rattle.machine.specs.Ledger.{is_marked, is_under_marked, group_under}
use Rattle.machine.specs.Refusal.{refused_if}
use Rattle.machine.specs.Request.{named, plain_request, held_of}
use Rattle.machine.proofs.Numbers.{and-left, and-right}
use Rattle.machine.proofs.Requests.{named-mapped}
use Rattle.machine.proofs.Where.{where-kept, where-left, where-joined}
use Rattle.driver_core.specs.declared.slot.Slot.{Slot}
use Rattle.driver_core.specs.Answers.{IsUnder}
use Rattle.driver_core.specs.Groups.{is_under_canceled, joins_if}
use Rattle.driver_core.specs.Holds.{named_in, without_ops, unheld_by}
use Rattle.driver_core.specs.Members.{Membership, ArePlaced, leaves}
use Rattle.driver_core.specs.Slot.{number_at, is_flying}
use Rattle.driver_core.proofs.Maps.{len-put, len-gone, len-new}
use Rattle.driver_core.proofs.Numbers.{Owner, owner}
use Rattle.ready_driver.specs.HandlesStand.{HandlesStand}
use Rattle.ready_driver.specs.Io.{IoView}
use Rattle.ready_driver.specs.Legacy.{LegacyOp, Legacy, seen, slot_at, live_at, holds_at, is_on}
use Rattle.ready_driver.specs.LegacyStands.{GroupsStand, LegacyStands, LegacyAnswers}
use Rattle.ready_driver.specs.LegacyState.{LegacyState, ops_in, holds_all}
use Rattle.ready_driver.specs.LegacyStep.{with_ask, freed, new_op, submit_at, misses_handle, legacy_cause, legacy_row}
use Rattle.ready_driver.specs.Named.{canceled_if, canceled_in, canceled_slots}
use Rattle.ready_driver.specs.Polling.{SlotFor, OpsStand, asked_at, joined_at}
use Rattle.ready_driver.specs.Registry.{Handling, is_users, without_keys, LetsGo}
use Rattle.driver_core.proofs.Grouping.{under-group, under-known}
use Rattle.ready_driver.proofs.Driven.{answers-row}
use Rattle.ready_driver.proofs.Grouped.{groups-asked, groups-freed, groups-joined, stands-marked}
use Rattle.ready_driver.proofs.Parting.{slot-there, standing-left}
use Rattle.ready_driver.proofs.Standing.{standing-like}

-- So many slots are live once the cancel of an operation is asked for.
pub len-canceled : {B : Type 0} (slots : FinMap nat_cmp (Slot B)) (key : ℕ) → len (canceled_slots slots key) ≡ len slots
len-canceled {B} slots key = by (get slots key) refl
  where
    flies : (b : Bool) (s t : Slot B) → get slots key ≡ Some s → len (canceled_if b slots key t) ≡ len slots
    flies true s t there = len-put slots key _ s there
    flies false s t there = refl

    by : (x : Option (Slot B)) → get slots key ≡ x → len (canceled_in slots key x) ≡ len slots
    by None there = refl
    by (Some s) there = flies (is_flying s.life) s s there

-- An operation is there, whether its cancel is asked for or not.
pub asked-live : (slot : Option LegacyOp) → is_some (option_map with_ask slot) ≡ is_some slot
asked-live None = refl
asked-live (Some op) = refl

-- It names the same handles.
pub asked-on : (h : ℕ) (slot : Option LegacyOp) → is_on h (option_map with_ask slot) ≡ is_on h slot
asked-on h None = refl
asked-on h (Some op) = refl

-- The group of the cancel handle that an event names is marked exactly where the one that a call submits under is canceled.
under-marked : (m : Membership) (D : Legacy) (under handle : Option ℕ) → GroupsStand m D → IsUnder (seen D) under handle →
    IfSome under (λ g. g < length m.groups) → is_under_marked (seen D) handle ≡ is_under_canceled m under
under-marked m D None handle stand is within = ap (λ g. passes (is_marked (seen D)) g) (ap (group_under (seen D)) is)
under-marked m D (Some g) handle stand is within = ap (λ x. passes (is_marked (seen D)) x) is ∙ stands-marked m D stand g within

-- The user holds each of handles that it holds all of.
misses-none : (table : Table) (D : Legacy) (handles : List ℕ) → ((h : ℕ) → is_users table h ≡ holds_at D h) →
    holds_all table handles ≡ true → misses_handle D handles ≡ false
misses-none table D [] users all = refl
misses-none table D (h ∷ handles) users all =
    ap (λ b. not b || misses_handle D handles) (sym (users h) ∙ and-left (is_users table h) (holds_all table handles) all)
    ∙ misses-none table D handles users (and-right (is_users table h) (holds_all table handles) all)

-- What a submission is refused with, by what it is tested for.
abbrev submit_cause : Bool → Bool → Bool → Bool → Option Refusal
submit_cause canceller handle marked full =
    refused_if canceller NoCanceller (refused_if handle NoHandle (refused_if (not marked && full) Full None))

-- A driver that is one as plain data.
module _ {I B : Type 0} (view : I → IoView) (buffer : B → Buffer) (d : LegacyState I B) (D : Legacy) (old : LegacyStands view buffer d D)
  where
    -- An operation in a slot.
    module _ (key n : ℕ) (holds : number_at d.slots.values key ≡ Some n) where
      -- Its slot.
      abbrev pub mine : Owner d.slots.values key n
      mine = owner d.slots.values key n holds

      -- It is that of an operation of the driver as plain data.
      abbrev pub fits : SlotFor buffer D mine.slot
      fits = old.parts.operations.slots.holds key mine.slot mine.there

      -- Which has its number.
      pub driven : slot_at D n ≡ Some fits.op
      driven = ap (slot_at D) (sym mine.serial) ∙ fits.there

      -- And is in its list.
      pub in-list : slice_get D.slots n ≡ Some (Some fits.op)
      in-list = slot-there (slice_get D.slots n) fits.op driven

      -- An event on it isn't refused.
      op-cause : refused_if (not (is_some (slot_at D n))) NoOp None ≡ None
      op-cause = ap (λ x. refused_if (not (is_some x)) NoOp None) driven

      -- It names the handles that its request does.
      pub names-are : named_in (get d.slots.values key) ≡ named fits.op.request
      names-are = ap named_in mine.there ∙ sym (named-mapped _ _ mine.slot.request) ∙ ap named fits.request

      -- Its cancel is asked for.
      pub stands-asked : (new : LegacyState I B) → OpsStand buffer (ops_in new) (asked_at D n) →
          new.slots.values ≡ canceled_slots d.slots.values key → new.handling.io ≡ d.handling.io →
          new.handling.table ≡ d.handling.table → new.members ≡ d.members →
          LegacyAnswers view buffer D (Cancel n) Asked new
      stands-asked new ops slots io table members =
          answers-row view buffer D (Cancel n) Asked new op-cause refl (record {
            parts = record { operations = ops; handles = ap (λ i. (view i).world) io ∙ old.parts.handles };
            live = ap len slots ∙ len-canceled d.slots.values key ∙ old.live
                ∙ ap length (sym (where-kept is_some (option_map with_ask) D.slots n 0 (λ x there. asked-live x)));
            handles = subst (λ t. HandlesStand t (view new.handling.io).keys (asked_at D n)) (sym table)
                (subst (λ i. HandlesStand d.handling.table (view i).keys (asked_at D n)) (sym io)
                (standing-like d.handling.table (view d.handling.io).keys D (asked_at D n) old.handles refl
                (λ h. ap length (where-kept (is_on h) (option_map with_ask) D.slots n 0 (λ x there. asked-on h x))) refl));
            groups = subst (λ m. GroupsStand m (asked_at D n)) (sym members) (groups-asked d.members D n old.groups);
            few = old.few;
          })

      -- So many are live once it is gone.
      pub live-freed : (new : FinMap nat_cmp (Slot B)) → new ≡ remove d.slots.values key → len new ≡ length (live_at (freed D n))
      live-freed new is =
          let a = ap len is ∙ len-gone d.slots.values key mine.slot mine.there in
          let b = where-left is_some (λ slot. None) D.slots n 0 (Some fits.op) in-list refl refl in
          let c = old.live in
          omega (arith, a, b, c)

      -- It is dropped.
      pub stands-dropped : (new : LegacyState I B) → OpsStand buffer (ops_in new) (freed D n) →
          new.slots.values ≡ remove d.slots.values key → (view new.handling.io).world ≡ (view d.handling.io).world →
          HandlesStand new.handling.table (view new.handling.io).keys (freed D n) → ArePlaced d.members →
          new.members ≡ leaves d.members n → LegacyAnswers view buffer D (Drop n) Dropped new
      stands-dropped new ops slots world handles placed members =
          answers-row view buffer D (Drop n) Dropped new op-cause refl (record {
            parts = record { operations = ops; handles = world ∙ old.parts.handles };
            live = live-freed new.slots.values slots;
            handles = handles;
            groups = subst (λ m. GroupsStand m (freed D n)) (sym members) (groups-freed d.members placed n D old.groups);
            few = old.few;
          })

    -- A submission.
    module _ (request : Request B Parts) (under handle : Option ℕ) (user : holds_all d.handling.table (named request) ≡ true)
        (known : IfSome under (λ g. g < length d.members.groups)) (is : IsUnder (seen D) under handle) where
      -- The request with its buffer as a value.
      abbrev r : Request Buffer Parts
      r = plain_request buffer request

      -- The user holds each handle that it names.
      user-there : misses_handle D (named r) ≡ false
      user-there = misses-none d.handling.table D (named r) old.handles.users
          (ap (holds_all d.handling.table) (named-mapped _ _ request) ∙ user)

      -- It is refused only as Full.
      cause-by : (marked full : Bool) → is_under_marked (seen D) handle ≡ marked → nat_le MOST_LIVE (length (live_at D)) ≡ full →
          legacy_cause D (Submit r handle false) ≡ submit_cause false false marked full
      cause-by marked full m f =
          ap (λ b. submit_cause b (misses_handle D (named r)) (is_under_marked (seen D) handle) (nat_le MOST_LIVE (length (live_at D))))
          (under-known (seen D) r under handle false is)
          ∙ ap (λ b. submit_cause false b (is_under_marked (seen D) handle) (nat_le MOST_LIVE (length (live_at D)))) user-there
          ∙ ap (λ b. submit_cause false false b (nat_le MOST_LIVE (length (live_at D)))) m ∙ ap (submit_cause false false marked) f

      -- Under a canceled group the request comes back.
      pub stands-canceled : is_under_canceled d.members under ≡ true →
          LegacyAnswers view buffer D (Submit r handle false) (CanceledAtOnce (held_of r)) d
      stands-canceled canceled =
          let marked = under-marked d.members D under handle old.groups is known ∙ canceled in
          let row : legacy_row D (Submit r handle false) ≡ (D, CanceledAtOnce (held_of r)) =
          ap (λ b. submit_at b D r (group_under (seen D) handle)) marked in
          answers-row view buffer D (Submit r handle false) (CanceledAtOnce (held_of r)) d
          (cause-by true (nat_le MOST_LIVE (length (live_at D))) marked refl) (ap (λ p. p.1) row)
          (subst (LegacyStands view buffer d) (sym (ap (λ p. p.0) row)) old)

      -- Else it is a new operation.
      pub stands-submits : (new : LegacyState I B) (number key : ℕ) (slot : Slot B) → is_under_canceled d.members under ≡ false →
          len d.slots.values < MAX_LIVE → number ≡ length D.slots → OpsStand buffer (ops_in new) (joined_at D r under) →
          get d.slots.values key ≡ None → new.slots.values ≡ insert d.slots.values key slot →
          (view new.handling.io).world ≡ (view d.handling.io).world →
          HandlesStand new.handling.table (view new.handling.io).keys (joined_at D r under) →
          new.members ≡ joins_if d.members under number key →
          LegacyAnswers view buffer D (Submit r handle false) (Given number) new
      stands-submits new number key slot uncanceled few numbered ops free slots world handles members =
          let marked = under-marked d.members D under handle old.groups is known ∙ uncanceled in
          let row : legacy_row D (Submit r handle false) ≡ (joined_at D r under, Given (length D.slots)) =
          ap (λ b. submit_at b D r (group_under (seen D) handle)) marked
          ∙ ap (submit_at false D r) (under-group (seen D) under handle is) in
          let live = old.live in
          answers-row view buffer D (Submit r handle false) (Given number) new
          (cause-by false false marked (grind (arith, nat_tests)))
          (ap (λ p. p.1) row ∙ ap Given (sym numbered))
          (subst (LegacyStands view buffer new) (sym (ap (λ p. p.0) row)) (record {
            parts = record { operations = ops; handles = world ∙ old.parts.handles };
            live =
                (let a = ap len slots ∙ len-new d.slots.values key slot free in
                let b = ap length (where-joined is_some D.slots (Some (new_op r under)) 0)
                ∙ length-append (live_at D) ((0 + length D.slots) ∷ []) in
                omega (arith, a, b, live));
            handles = handles;
            groups = subst (λ m. GroupsStand m (joined_at D r under))
                (sym (members ∙ ap (λ k. joins_if d.members under k key) numbered))
                (groups-joined d.members D r old.groups under key known uncanceled);
            few = old.few;
          }))

-- An operation of a driver left the handles that it named, and is gone.
pub left-handles : {I : Type 0} (view : I → IoView) (tells memory : Bool) (mid new : Handling I) (E : Legacy) (n : ℕ) (op : LegacyOp)
    (names : List ℕ) → IsTrue memory → HandlesStand mid.table (view mid.io).keys E → slot_at E n ≡ Some op → names ≡ named op.request →
    LetsGo view tells memory mid (without_ops mid.table names) (unheld_by mid.table names) new →
    HandlesStand new.table (view new.io).keys (freed E n)
left-handles view tells memory mid new E n op names in_memory st there is lets =
    subst (λ t. HandlesStand t (view new.io).keys (freed E n)) (sym (lets.holders ∙ ap (without_ops mid.table) is))
    (subst (λ ks. HandlesStand (without_ops mid.table (named op.request)) ks (freed E n))
    (sym (lets.object.keys_are in_memory ∙ ap (λ hs. without_keys (view mid.io).keys (unheld_by mid.table hs)) is))
    (standing-left mid.table (view mid.io).keys E st n op there))
