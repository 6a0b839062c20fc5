-- What the driver's calls leave of handles, operations and counts, over every object.
use Rattle.std.proofs.Common.{ℕ, ◌≡◌, ◌≢◌, ◌∙◌, ◌<◌, ap, sym, subst, arith, Bool, true, List}
use Rattle.std.proofs.Common.{Option, Some, None, Ok, Err, inl, inr}
use Rattle.std.specs.Prelude.{nat_lt, option_map, unwrap_or}
use Rattle.std.specs.FinMap as map
use Rattle.rent_buf.specs.Buf.{built}
use Rattle.rent_buf.specs.Buffer.{Buffer}
use Rattle.rent_buf.specs.Parts.{Parts}
use Rattle.rent_buf.specs.declared.plain.Buf.{Buf}
use Rattle.handle_core.specs.Table.{Table, by_user, holders_at, nobody, without_user}
use Rattle.machine.specs.declared.request.Request.{Request}
use Rattle.machine.specs.Request.{named, plain_request}
use Rattle.machine.proofs.Numbers.{same-or-not}
use Rattle.driver_core.specs.Holds.{settled, with_ops, without_ops}
use Rattle.driver_core.specs.Op.{AddsToken, Holds, number_of}
use Rattle.driver_core.specs.Operations.{new_slot}
use Rattle.driver_core.specs.Ops.{Ops}
use Rattle.driver_core.specs.Requests.{request_in as asked_in}
use Rattle.driver_core.specs.Slot.{flies_in, number_at, serial_of}
use Rattle.driver_core.specs.declared.op.Op.{Op}
use Rattle.driver_core.specs.declared.op.SubmitError.{SubmitError}
use Rattle.driver_core.specs.declared.operations.calls.CallAnswer.{CallAnswer}
use Rattle.driver_core.specs.declared.slot.Slot.{Slot}
use Rattle.driver_core.proofs.Holds.{settled-other, user-joined, user-left}
use Rattle.driver_core.proofs.Maps.{put-other, put-same}
use Rattle.ready_driver.specs.Calling.{Called}
use Rattle.ready_driver.specs.Io.{CallsFor, IoView, IsLater}
use Rattle.ready_driver.specs.LegacyPolls.{HandsOver}
use Rattle.ready_driver.specs.LegacyState.{LegacyState, ops_in}
use Rattle.ready_driver.specs.Registry.{Handling, LetsGo, is_users}
use Rattle.ready_driver.proofs.Still.{later-then}
use Rattle.op_driver.specs.Legacy.{LegacySubmits}
use Rattle.relay_net.specs.Flow.{IfAsked, IsPending}
use Rattle.relay_net.specs.Keeping.{KeepsUsers, Stays}

-- What a driver's object says of its calls.
abbrev pub Lawful : {I : Type 0} → (I → IoView) → Bool → Bool → Called I → Type 0
Lawful {I} view tells memory called = (old : I) (request : Request Buffer Parts) (new : I) (now : Request Buffer Parts)
    (answer : CallAnswer)
    → called old request new now answer → CallsFor tells memory (view old) request (view new) now answer

-- What is later than what is later is so itself, by a name that a tactic can cite.
pub later_then : (old mid new : IoView) → IsLater old mid → IsLater mid new → IsLater old new
later_then = later-then

-- The user holds what it held, where the holders are the same.
pub same_users : (old new : Table) → new.holders ≡ old.holders → KeepsUsers old new
same_users old new same h held = ap (λ m. nat_lt 0 (unwrap_or (map.get m h) nobody).user) same ∙ held

-- So it does behind one call after another.
pub users_then : (old mid new : Table) → KeepsUsers old mid → KeepsUsers mid new → KeepsUsers old new
users_then old mid new first second h held = second h (first h held)

-- An operation that joined, or left, leaves what the user holds.
pub joined_users : (table : Table) (handles : List ℕ) → KeepsUsers table (with_ops table handles)
joined_users table handles h held = ap (nat_lt 0) (user-joined table handles h) ∙ held

-- So does an operation that lets handles go.
pub left_users : (table : Table) (handles : List ℕ) → KeepsUsers table (without_ops table handles)
left_users table handles h held = ap (nat_lt 0) (user-left table handles h) ∙ held

-- So does a handle that the user gets.
pub given_users : (old new : Table) (h : ℕ) → new.holders ≡ map.insert old.holders h by_user → KeepsUsers old new
given_users old new h same g held = elim (same-or-not g h) [
  | inl e ↦ ap (λ m. nat_lt 0 (unwrap_or (map.get m g) nobody).user) same
      ∙ (ap (λ k. nat_lt 0 (unwrap_or (map.get (map.insert old.holders h by_user) k) nobody).user) e
      ∙ ap (λ o. nat_lt 0 (unwrap_or o nobody).user) (put-same old.holders h by_user))
  | inr e ↦ ap (λ m. nat_lt 0 (unwrap_or (map.get m g) nobody).user) same
      ∙ (ap (λ o. nat_lt 0 (unwrap_or o nobody).user) (put-other old.holders h by_user g e) ∙ held)
]

-- The user holds every other handle that it held, once it dropped a hold of one.
pub released_users : (table : Table) (h g : ℕ) → g ≢ h → is_users table g ≡ true
    → is_users (settled table h (without_user (holders_at table h))) g ≡ true
released_users table h g other held =
    ap (λ x. nat_lt 0 x.user) (settled-other table h (without_user (holders_at table h)) g other) ∙ held

-- The request in the slot that was looked up, as plain data.
abbrev pub plain_in : Option (Slot Buf) → Option (Request Buffer Parts)
plain_in slot = option_map (plain_request built) (asked_in slot)

-- An operation whose slot is as it was is pending still.
pub pending_kept : (old new : Ops Buf) (op : Op) (P : Request Buffer Parts → Type 0)
    → map.get new.slots.values op.key ≡ map.get old.slots.values op.key → IsPending old op P → IsPending new op P
pending_kept old new op P same pending = record {
  holds = ap serial_of same ∙ pending.holds;
  flies = ap flies_in same ∙ pending.flies;
  asks = subst (λ slot. IfAsked (plain_in slot) P) (sym same) pending.asks;
}

-- A new operation has another key than those that were held.
new_key : (old new : Ops Buf) (op other : Op) → AddsToken old new op → Holds old other → number_of other < old.given
    → other.key ≢ op.key
new_key old new op other adds held below same =
    let twice : Some (number_of other) ≡ Some (number_of op) =
    sym (adds.kept other held) ∙ (ap (number_at new.slots.values) same ∙ adds.this) in
    let e : number_of other ≡ number_of op = cc in
    let number = adds.number in
    omega (arith, below, e, number)

module _ {I : Type 0} (view : I → IoView) (tells memory : Bool) where
  -- A submission leaves all but its own operation.
  pub submitted_stays : (old new : LegacyState I Buf) (request : Request Buf Parts) (op : Op)
      → LegacySubmits view tells memory old new request (Ok op) → AddsToken (ops_in old) (ops_in new) op
      → ((other : Op) → Holds (ops_in old) other → number_of other < old.given) → Stays view tells old new
  submitted_stays old new request op joins adds numbers = record {
    later = subst (λ h. IsLater (view old.handling.io) (view h.io)) (sym joins.handling) joins.ready.object.later;
    users = subst (λ h. KeepsUsers old.handling.table h.table) (sym joins.handling)
        (subst (λ t. KeepsUsers old.handling.table (with_ops t (named request))) (sym joins.ready.table)
        (joined_users old.handling.table (named request)));
    ops = λ other held asked. ap (λ m. map.get m other.key) joins.slots
        ∙ put-other old.slots.values op.key (new_slot (ops_in old) request) other.key
        (new_key (ops_in old) (ops_in new) op other adds held (numbers other held));
    world = λ t. ap (λ h. (view h.io).world) joins.handling ∙ joins.ready.object.world t;
  }

  -- Its operation is pending.
  pub submitted_pends : (old new : LegacyState I Buf) (request : Request Buf Parts) (op : Op) (P : Request Buffer Parts → Type 0)
      → LegacySubmits view tells memory old new request (Ok op) → AddsToken (ops_in old) (ops_in new) op → P (plain_request built request)
      → IsPending (ops_in new) op P
  submitted_pends old new request op P joins adds is =
      let there = ap (λ m. map.get m op.key) joins.slots ∙ put-same old.slots.values op.key (new_slot (ops_in old) request) in
      record {
        holds = adds.this;
        flies = ap flies_in there;
        asks = subst (λ slot. IfAsked (plain_in slot) P) (sym there) is;
      }

  -- A submission that was refused leaves all.
  pub refused_stays : (old new : LegacyState I Buf) (request : Request Buf Parts) (refused : SubmitError Buf)
      → LegacySubmits view tells memory old new request (Err refused) → Stays view tells old new
  refused_stays old new request refused refuses = record {
    later = refuses.handles.made.object.later;
    users = same_users old.handling.table new.handling.table (ap (λ t. t.holders) refuses.handles.made.table);
    ops = λ other held asked. ap (λ m. map.get m other.key) refuses.same.slots;
    world = λ t. refuses.handles.made.object.world t;
  }

  -- What an operation made becomes its user's.
  pub handed_users : (old new : Handling I) (made : Option ℕ) → HandsOver view tells memory old made new → KeepsUsers old.table new.table
  handed_users old new None hands = same_users old.table new.table (ap (λ h. h.table.holders) hands)
  handed_users old new (Some h) hands = given_users old.table new.table h hands.1.table

  -- Handles that an operation let go of are the user's still.
  pub lets_users : (old new : Handling I) (handles gone : List ℕ) → LetsGo view tells memory old (without_ops old.table handles) gone new
      → KeepsUsers old.table new.table
  lets_users old new handles gone lets =
      subst (λ t. KeepsUsers old.table t) (sym lets.holders) (left_users old.table handles)
