-- What calls do to a readiness driver that is one as plain data.
use Rattle.std.proofs.Common.{◌≡◌, ℕ, ◌≤◌, Bool, false, List, [], ◌∷◌, ◌++◌, length, Option, Some, None}
use Rattle.std.proofs.Common.{slice_get, refl, sym, ◌∙◌, ap, subst, arith}
use Rattle.std.specs.Prelude.{is_some, nat_le, Result, Ok, Err, IfOk, OnOk}
use Rattle.std.specs.Ordering.{nat_cmp}
use Rattle.std.specs.FinMap.{FinMap, len}
use Rattle.std.proofs.lemmas.Bool.Decides.{nat_tests}
use Rattle.std.proofs.lemmas.List.{length-map}
use Rattle.std.proofs.lemmas.Option.{slice_get_within}
use Rattle.rent_buf.specs.Buffer.{Buffer}
use Rattle.handle_core.specs.Table.{Table}
use Rattle.machine.specs.declared.world.TheConstants.{MOST_HANDLES}
use Rattle.machine.specs.declared.ledger.Event.{Event}
use Rattle.machine.specs.declared.ledger.Event.TheVariants.{NewHandle}
use Rattle.machine.specs.declared.ledger.Refusal.TheVariants.{NoCanceller}
use Rattle.machine.specs.declared.ledger.Reply.{Reply}
use Rattle.machine.specs.declared.ledger.Reply.TheVariants.{CancelHandle}
use Rattle.machine.specs.Lists.{numbers_where, passes}
use Rattle.machine.specs.Refusal.{refused_if}
use Rattle.machine.specs.Step.{group_of}
use Rattle.driver_core.specs.declared.slot.Slot.{Slot}
use Rattle.driver_core.specs.Members.{Membership, with_fresh}
use Rattle.driver_core.specs.Ops.{Ops}
use Rattle.ready_driver.specs.HandlesStand.{HandlesStand}
use Rattle.ready_driver.specs.Io.{IoView}
use Rattle.ready_driver.specs.Legacy.{Legacy, seen, slot_in, is_on}
use Rattle.ready_driver.specs.LegacyStands.{GroupsStand, LegacyStands, LegacyAnswers, CancellerFor, HandleFor}
use Rattle.ready_driver.specs.declared.non_block.Report.{Report}
use Rattle.ready_driver.specs.LegacyState.{LegacyState}
use Rattle.ready_driver.specs.LegacyStep.{legacy_cause, legacy_row, legacy_answered, legacy_step}
use Rattle.ready_driver.specs.Registry.{Handling}
use Rattle.ready_driver.specs.Polling.{SlotsStand}
use Rattle.ready_driver.proofs.Grouped.{groups-fresh}

-- A driver as contracts see it, by what its parts are.
abbrev pub by_parts : {I B : Type 0} → Handling I → Ops B → Membership → List ℕ → List Report → LegacyState I B
by_parts handling ops members asked untreated = record {
  handling = handling;
  slots = ops.slots;
  given = ops.given;
  members = members;
  asked = asked;
  untreated = untreated;
}

-- Slots are those of a driver with the same operations.
pub slots-like : {B : Type 0} (buffer : B → Buffer) (slots : FinMap nat_cmp (Slot B)) (D E : Legacy) → E.slots ≡ D.slots →
    SlotsStand buffer slots D → SlotsStand buffer slots E
slots-like buffer slots D E same stand = record {
  holds = λ k s at. (
      let f = stand.holds k s at in
      record {
        op = f.op;
        there = ap (λ xs. slot_in (slice_get xs s.serial)) same ∙ f.there;
        request = f.request;
        life = f.life;
      });
  one = stand.one;
  each = λ n op at. stand.each n op (sym (ap (λ xs. slot_in (slice_get xs n)) same) ∙ at);
}

-- A table and keys are those of a driver with the same operations and users, and as many handles.
pub handles-like : (table : Table) (keys : List (Option ℕ)) (D E : Legacy) → E.slots ≡ D.slots → E.users ≡ D.users →
    length E.world ≡ length D.world → HandlesStand table keys D → HandlesStand table keys E
handles-like table keys D E slots users world stand = record {
  users = λ h. stand.users h ∙ sym (ap (λ us. passes (λ is_user. is_user) (slice_get us h)) users);
  operations = λ h. stand.operations h ∙ sym (ap (λ xs. length (numbers_where (is_on h) 0 xs)) slots);
  keyed = stand.keyed;
  counted = ap length users ∙ stand.counted ∙ sym world;
  sized = stand.sized ∙ sym world;
}

-- An event that isn't refused is answered by its rule.
pub answers-row : {I B : Type 0} (view : I → IoView) (buffer : B → Buffer) (D : Legacy) (event : Event) (reply : Reply)
    (new : LegacyState I B) → legacy_cause D event ≡ None → (legacy_row D event).1 ≡ reply →
    LegacyStands view buffer new (legacy_row D event).0 → LegacyAnswers view buffer D event reply new
answers-row view buffer D event reply new none is stands =
    let step : legacy_step D event ≡ legacy_row D event = ap (λ x. legacy_answered x D event) none in
    record {
      reply_is = ap (λ p. p.1) step ∙ is;
      stands = subst (LegacyStands view buffer new) (sym (ap (λ p. p.0) step)) stands;
    }

-- A driver that is one as plain data.
module _ {I B : Type 0} (view : I → IoView) (buffer : B → Buffer) (d : LegacyState I B) (D : Legacy) (old : LegacyStands view buffer d D)
  where
    -- Its operations stay, and what else there is, is that of another driver.
    pub stands-like : (new : LegacyState I B) (E : Legacy) → E.slots ≡ D.slots → new.slots.values ≡ d.slots.values → new.given ≡ d.given →
        (view new.handling.io).world ≡ E.world → HandlesStand new.handling.table (view new.handling.io).keys E →
        GroupsStand new.members E → length E.world ≤ MOST_HANDLES → LegacyStands view buffer new E
    stands-like new E slots same given world handles groups few = record {
      parts = record {
        operations = record {
          given = given ∙ old.parts.operations.given ∙ sym (ap length slots);
          slots = slots-like buffer new.slots.values D E slots
              (subst (λ m. SlotsStand buffer m D) (sym same) old.parts.operations.slots);
        };
        handles = world;
      };
      live = ap len same ∙ old.live ∙ sym (ap (λ xs. length (numbers_where is_some 0 xs)) slots);
      handles = handles;
      groups = groups;
      few = few;
    }

    -- It has other groups, cancellers and cancel handles.
    pub stands-regrouped : (m : Membership) (cancellers cancel_handles : List ℕ) (groups : List Bool) →
        GroupsStand m (record D { cancellers = cancellers; cancel_handles = cancel_handles; groups = groups }) →
        LegacyStands view buffer (record d { members = m })
        (record D { cancellers = cancellers; cancel_handles = cancel_handles; groups = groups })
    stands-regrouped m cancellers cancel_handles groups are =
        let E : Legacy = record D { cancellers = cancellers; cancel_handles = cancel_handles; groups = groups } in
        stands-like (record d { members = m }) E refl refl refl old.parts.handles
        (handles-like d.handling.table (view d.handling.io).keys D E refl refl refl old.handles) are old.few

    -- How many groups there are.
    pub count-groups : length d.members.groups ≡ length D.groups
    count-groups = sym (length-map d.members.groups (λ g. g.canceled)) ∙ ap length old.groups.marks

    -- A new canceller.
    pub makes-canceller : (c : ℕ) → c ≡ length d.members.groups →
        CancellerFor view buffer D c (record d { members = with_fresh d.members })
    makes-canceller c is = record {
      answers = record {
        reply_is = refl;
        stands = stands-regrouped (with_fresh d.members) (D.cancellers ++ length D.groups ∷ []) D.cancel_handles (D.groups ++ false ∷ [])
            (groups-fresh d.members D (D.cancellers ++ length D.groups ∷ []) old.groups);
      };
      fresh = is ∙ count-groups;
    }

    -- A canceller that there is.
    pub canceller-there : (k g : ℕ) → slice_get D.cancellers k ≡ Some g → nat_le (length D.cancellers) k ≡ false
    canceller-there k g there = (let w = slice_get_within D.cancellers k g there in grind (arith, nat_tests))

    -- A new cancel handle.
    pub makes-handle : (g : ℕ) → HandleFor view buffer D g d
    makes-handle g = λ k there.
        let E : Legacy = record D { cancel_handles = D.cancel_handles ++ group_of (seen D) k ∷ [] } in
        answers-row view buffer D (NewHandle k) (CancelHandle (length D.cancel_handles)) d
        (ap (λ b. refused_if b NoCanceller None) (canceller-there k g there)) refl
        (stands-regrouped d.members D.cancellers (D.cancel_handles ++ group_of (seen D) k ∷ []) D.groups
        (record { marks = old.groups.marks; members = old.groups.members }))

-- What a new canceller answers.
pub canceller-made : {I B E : Type 0} (view : I → IoView) (buffer : B → Buffer) (memory : Type 0) (result : Result ℕ E)
    (d : LegacyState I B) (m : Membership) → IfOk result (λ c. c ≡ length d.members.groups) → OnOk result (m ≡ with_fresh d.members) →
    IfOk result (λ c. memory → (D : Legacy) → LegacyStands view buffer d D →
    CancellerFor view buffer D c (record d { members = m }))
canceller-made view buffer memory (Ok c) d m number made = λ is D old.
    subst (λ x. CancellerFor view buffer D c (record d { members = x })) (sym made) (makes-canceller view buffer d D old c number)
canceller-made view buffer memory (Err e) d m number made = tt

-- A driver has other handles, but for which it is as it was.
pub stands-handling : {I B : Type 0} (view : I → IoView) (buffer : B → Buffer) (d : LegacyState I B) (D : Legacy) →
    LegacyStands view buffer d D → (new : Handling I) → (view new.io).world ≡ (view d.handling.io).world →
    HandlesStand new.table (view new.io).keys D → LegacyStands view buffer (record d { handling = new }) D
stands-handling view buffer d D old new world handles =
    stands-like view buffer d D old (record d { handling = new }) D refl refl refl (world ∙ old.parts.handles) handles
    (record { marks = old.groups.marks; members = old.groups.members }) old.few
