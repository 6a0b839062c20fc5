-- What a poll of an operation that is in flight leaves, over every object.
use Rattle.std.proofs.Common.{ℕ, ◌≡◌, ◌≢◌, ◌∙◌, ap, sym, refl, subst, Bool, IsTrue, true, false, Option, Some, None, Ok, Err, inl, inr}
use Rattle.std.specs.Prelude.{Result, option_map}
use Rattle.std.specs.FinMap as map
use Rattle.rent_buf.specs.Buf.{built}
use Rattle.rent_buf.specs.Buffer.{Buffer}
use Rattle.rent_buf.specs.Parts.{Parts}
use Rattle.rent_buf.specs.declared.plain.Buf.{Buf}
use Rattle.rent_buf.specs.declared.fault.OutOfMemory.{OutOfMemory as NoMemory}
use Rattle.op_slots.specs.declared.lifecycle.Lifecycle.{Lifecycle}
use Rattle.op_slots.specs.declared.lifecycle.Lifecycle.TheVariants.{Submitted, Waiting, Ignored, Completed}
use Rattle.machine.specs.declared.request.Outcome.{Outcome}
use Rattle.machine.specs.declared.request.Request.{Request}
use Rattle.machine.specs.Effect.{made_by}
use Rattle.machine.specs.Request.{named, plain_request}
use Rattle.driver_core.specs.Holds.{unheld_by, without_ops}
use Rattle.driver_core.specs.Op.{KeepsTokens}
use Rattle.driver_core.specs.Ops.{Ops}
use Rattle.driver_core.specs.Requests.{request_in as asked_in}
use Rattle.driver_core.specs.Slot.{flies_in, is_flying, serial_of}
use Rattle.driver_core.specs.declared.op.Done.{Done as Ended}
use Rattle.driver_core.specs.declared.op.Op.{Op}
use Rattle.driver_core.specs.declared.op.PollOp.{PollOp}
use Rattle.driver_core.specs.declared.op.PollOp.TheVariants.{Pending, Ready}
use Rattle.driver_core.specs.declared.operations.calls.CallAnswer.TheVariants.{Done, WouldBlock, OutOfMemory}
use Rattle.driver_core.specs.declared.slot.Slot.{Slot}
use Rattle.ready_driver.specs.Awaits.{is_met_at, slot_awaits, unless}
use Rattle.ready_driver.specs.Calling.{Called, CallsOnce, MakesCall, request_in}
use Rattle.ready_driver.specs.Io.{IoView, IsLater, IsMade}
use Rattle.ready_driver.specs.LegacyPolls.{HandsOver, outcome_for}
use Rattle.ready_driver.specs.LegacyState.{LegacyState, ops_in}
use Rattle.ready_driver.specs.Named.{IsCompleted}
use Rattle.ready_driver.specs.Registry.{Handling, LetsGo}
use Rattle.ready_driver.proofs.Still.{later-same}
use Rattle.op_driver.specs.Legacy.{LegacyPolls}
use Rattle.relay_net.specs.Flow.{IfAsked, IsPending, asked_at}
use Rattle.relay_net.specs.Keeping.{KeepsOps, KeepsUsers, world_of}
use Rattle.relay_net.proofs.Calls.{Lawful, handed_users, lets_users, plain_in, same_users, users_then}

-- The two ways to look up a request agree.
pub same_asked : (slot : Option (Slot Buf)) → request_in slot ≡ asked_in slot
same_asked None = refl
same_asked (Some slot) = refl

-- What is in flight isn't completed.
flying_ends : (slot : Option (Slot Buf)) (outcome : Outcome) → flies_in slot ≡ true → IsCompleted slot outcome → ⊥
flying_ends None outcome flies ends = ends
flying_ends (Some slot) outcome flies ends =
    let e : ◌≡◌ {A = Bool} false true = sym (ap is_flying ends) ∙ flies in absurd cc

-- What is there and isn't completed is in flight.
open_flies : (slot : Option (Slot Buf)) (number : ℕ) → serial_of slot ≡ Some number → ((outcome : Outcome) → IsCompleted slot outcome → ⊥)
    → flies_in slot ≡ true
open_flies None number there never = absurd cc
open_flies (Some slot) number there never = by-life slot.life refl
  where
    by-life : (life : Lifecycle Outcome) → slot.life ≡ life → is_flying slot.life ≡ true
    by-life Submitted is = ap is_flying is
    by-life (Waiting task) is = ap is_flying is
    by-life Ignored is = ap is_flying is
    by-life (Completed outcome) is = absurd (never outcome is)

-- Another operation than this one has another key, where both are held.
pub other_key : (ops : Ops Buf) (op other : Op) (P Q : Request Buffer Parts → Type 0) → IfAsked (asked_at ops op) P
    → IfAsked (asked_at ops other) Q → ((request : Request Buffer Parts) → P request → Q request → ⊥) → other.key ≢ op.key
other_key ops op other P Q is else apart same =
    by-request (plain_in (map.get ops.slots.values op.key)) is
    (subst (λ k. IfAsked (plain_in (map.get ops.slots.values k)) Q) same else)
  where
    by-request : (asked : Option (Request Buffer Parts)) → IfAsked asked P → IfAsked asked Q → ⊥
    by-request None one two = one
    by-request (Some request) one two = apart request one two

module _ {I : Type 0} (view : I → IoView) (tells memory : Bool) (files : I → ℕ → Bool) (called : Called I)
    (law : Lawful view tells memory called) where
  -- A poll that returned no operation moved nothing, and left the request as it was.
  pub record Waits (old new : LegacyState I Buf) (op : Op) : Type 0 where
    pub later : IsLater (view old.handling.io) (view new.handling.io)
    pub users : KeepsUsers old.handling.table new.handling.table
    pub world : IsTrue tells → world_of view new ≡ world_of view old
    pub asked : asked_at (ops_in new) op ≡ asked_at (ops_in old) op
    pub holders : new.handling.table.holders ≡ old.handling.table.holders
    pub keys : IsTrue memory → (view new.handling.io).keys ≡ (view old.handling.io).keys
    pub made : (view new.handling.io).made ≡ (view old.handling.io).made

  record Unmoved (slot new : Option (Slot Buf)) (before after : I) : Type 0 where
    later : IsLater (view before) (view after)
    world : IsTrue tells → (view after).world ≡ (view before).world
    asked : plain_in new ≡ plain_in slot
    keys : IsTrue memory → (view after).keys ≡ (view before).keys
    made : (view after).made ≡ (view before).made

  unmoved_none : (slot new : Option (Slot Buf)) (before after : I) → after ≡ before → new ≡ slot → Unmoved slot new before after
  unmoved_none slot new before after object same = record {
    later = subst (λ io. IsLater (view before) (view io)) (sym object) (later-same (view before));
    world = λ t. ap (λ io. (view io).world) object;
    asked = ap plain_in same;
    keys = λ m. ap (λ io. (view io).keys) object;
    made = ap (λ io. (view io).made) object;
  }

  unmoved_pending : (b : Bool) (slot new : Option (Slot Buf)) (before after : I) (back : Op)
      → CallsOnce b built called slot before new after (Ok (Pending back)) → Unmoved slot new before after
  unmoved_pending false slot new before after back calls = unmoved_none slot new before after calls.object calls.slot_is
  unmoved_pending true slot new before after back calls =
      let does = (law before (plain_request built calls.made.request) after (plain_request built calls.now) WouldBlock
      calls.made.calls).0 in
      record {
        later = does.later;
        world = does.world;
        asked = ap (option_map (plain_request built)) (sym (same_asked new) ∙ calls.stays)
            ∙ (ap Some does.same ∙ sym (ap (option_map (plain_request built)) (sym (same_asked slot) ∙ calls.made.asked)));
        keys = does.keys;
        made = does.made;
      }

  unmoved_starved : (b : Bool) (slot new : Option (Slot Buf)) (before after : I) (error : NoMemory × Op)
      → CallsOnce b built called slot before new after (Err error) → Unmoved slot new before after
  unmoved_starved false slot new before after error calls = unmoved_none slot new before after calls.object calls.slot_is
  unmoved_starved true slot new before after error (inl none) = unmoved_none slot new before after none.object none.slot_is
  unmoved_starved true slot new before after error (inr calls) =
      let does = (law before (plain_request built calls.made.request) after (plain_request built calls.now) OutOfMemory
      calls.made.calls).0 in
      record {
        later = does.later;
        world = does.world;
        asked = ap (option_map (plain_request built)) (sym (same_asked new) ∙ calls.stays)
            ∙ (ap Some does.same ∙ sym (ap (option_map (plain_request built)) (sym (same_asked slot) ∙ calls.made.asked)));
        keys = does.keys;
        made = does.made;
      }

  pub pending_waits : (old new : LegacyState I Buf) (op back : Op) (task : ℕ)
      → LegacyPolls files built called view tells memory old new op task (Ok (Pending back)) → Waits old new op
  pending_waits old new op back task polls =
      let none = unmoved_pending (is_met_at old.handling.records (unless (files old.handling.io) (slot_awaits
      (map.get old.slots.values op.key))))
      (map.get old.slots.values op.key) (map.get new.slots.values op.key) old.handling.io new.handling.io back polls.ends.2 in
      record {
        later = none.later;
        users = same_users old.handling.table new.handling.table polls.ends.0.table;
        world = none.world;
        asked = none.asked;
        holders = polls.ends.0.table;
        keys = none.keys;
        made = none.made;
      }

  pub starved_waits : (old new : LegacyState I Buf) (op : Op) (error : NoMemory × Op) (task : ℕ)
      → LegacyPolls files built called view tells memory old new op task (Err error) → Waits old new op
  starved_waits old new op error task polls =
      let none = unmoved_starved (is_met_at old.handling.records (unless (files old.handling.io) (slot_awaits
      (map.get old.slots.values op.key))))
      (map.get old.slots.values op.key) (map.get new.slots.values op.key) old.handling.io new.handling.io error polls.ends.2 in
      record {
        later = none.later;
        users = same_users old.handling.table new.handling.table polls.ends.0.table;
        world = none.world;
        asked = none.asked;
        holders = polls.ends.0.table;
        keys = none.keys;
        made = none.made;
      }

  -- The operation of a poll that returned none is pending still.
  pub pending_pends : (old new : LegacyState I Buf) (op back : Op) (task : ℕ) (P : Request Buffer Parts → Type 0)
      → LegacyPolls files built called view tells memory old new op task (Ok (Pending back)) → KeepsTokens (ops_in old) (ops_in new)
      → IsPending (ops_in old) op P → IsPending (ops_in new) op P
  pending_pends old new op back task P polls keeps pending =
      let there = (keeps op).0 pending.holds in
      record {
        holds = there;
        flies = open_flies (map.get new.slots.values op.key) op.number there
            (λ outcome ends. flying_ends (map.get old.slots.values op.key) outcome pending.flies ((polls.slot.completed outcome).0 ends));
        asks = subst (λ asked. IfAsked asked P) (sym (pending_waits old new op back task polls).asked) pending.asks;
      }

  pub starved_pends : (old new : LegacyState I Buf) (op : Op) (error : NoMemory × Op) (task : ℕ) (P : Request Buffer Parts → Type 0)
      → LegacyPolls files built called view tells memory old new op task (Err error) → KeepsTokens (ops_in old) (ops_in new)
      → IsPending (ops_in old) op P → IsPending (ops_in new) op P
  starved_pends old new op error task P polls keeps pending =
      let there = (keeps op).0 pending.holds in
      record {
        holds = there;
        flies = open_flies (map.get new.slots.values op.key) op.number there
            (λ outcome ends. flying_ends (map.get old.slots.values op.key) outcome pending.flies ((polls.slot.completed outcome).0 ends));
        asks = subst (λ asked. IfAsked asked P) (sym (starved_waits old new op error task polls).asked) pending.asks;
      }

  -- A poll leaves every other operation.
  pub polled_others : (old new : LegacyState I Buf) (op : Op) (task : ℕ) (result : Result (PollOp Buf) (NoMemory × Op))
      (P Q : Request Buffer Parts → Type 0) → LegacyPolls files built called view tells memory old new op task result
      → IsPending (ops_in old) op P → ((request : Request Buffer Parts) → P request → Q request → ⊥) → KeepsOps Q (ops_in old) (ops_in new)
  polled_others old new op task (Ok (Pending back)) P Q polls pending apart other held else =
      polls.slot.others other.key (other_key (ops_in old) op other P Q pending.asks else apart)
  polled_others old new op task (Ok (Ready done)) P Q polls pending apart other held else =
      polls.slot.others other.key (other_key (ops_in old) op other P Q pending.asks else apart)
  polled_others old new op task (Err error) P Q polls pending apart other held else =
      polls.slot.others other.key (other_key (ops_in old) op other P Q pending.asks else apart)

  -- What the call of a poll that returned an operation did.
  pub record Ends (old new : LegacyState I Buf) (op : Op) (done : Ended Buf) : Type 0 where
    pub mid : Handling I
    pub call : Outcome
    pub request : Request Buffer Parts
    pub asked : asked_at (ops_in old) op ≡ Some request
    pub made : IsMade tells memory (view old.handling.io) request (view mid.io) (plain_request built done.request) call
    pub calls : called old.handling.io request mid.io (plain_request built done.request) (Done call)
    pub table : mid.table.holders ≡ old.handling.table.holders
    pub outcome : done.outcome ≡ outcome_for mid.table call
    pub handed : Handling I
    pub hands : HandsOver view tells memory mid (made_by done.outcome) handed
    pub lets : LetsGo view tells memory handed (without_ops handed.table (named done.request)) (unheld_by handed.table (named done.request))
        new.handling
    pub left_later : IsLater (view handed.io) (view new.handling.io)
    pub left_world : IsTrue tells → (view new.handling.io).world ≡ (view handed.io).world
    pub left_users : KeepsUsers handed.table new.handling.table
    pub users : KeepsUsers old.handling.table new.handling.table

  ready_call : (b : Bool) (slot new : Option (Slot Buf)) (before after : I) (done : Ended Buf) → flies_in slot ≡ true
      → CallsOnce b built called slot before new after (Ok (Ready done))
      → MakesCall built called slot before after (Done done.outcome) done.request
  ready_call false slot new before after done flies calls = absurd calls
  ready_call true slot new before after done flies (inl none) = absurd (flying_ends slot done.outcome flies none.1)
  ready_call true slot new before after done flies (inr made) = made

  pub ready_ends : (old new : LegacyState I Buf) (op : Op) (done : Ended Buf) (task : ℕ) (P : Request Buffer Parts → Type 0)
      → LegacyPolls files built called view tells memory old new op task (Ok (Ready done)) → IsPending (ops_in old) op P
      → Ends old new op done
  ready_ends old new op done task P polls pending =
      let ends = polls.ends in
      let made = ready_call (is_met_at old.handling.records (unless (files old.handling.io) (slot_awaits
      (map.get old.slots.values op.key))))
      (map.get old.slots.values op.key) (map.get new.slots.values op.key) old.handling.io ends.mid.io (record done { outcome = ends.call })
      pending.flies ends.calls in
      record {
        mid = ends.mid;
        call = ends.call;
        request = plain_request built made.request;
        asked = ap (option_map (plain_request built)) (sym (same_asked (map.get old.slots.values op.key)) ∙ made.asked);
        made = law old.handling.io (plain_request built made.request) ends.mid.io (plain_request built done.request) (Done ends.call)
            made.calls;
        calls = made.calls;
        table = ends.polls.table;
        outcome = ends.outcome;
        handed = ends.handed;
        hands = ends.hands;
        lets = ends.lets;
        left_later = ends.lets.object.later;
        left_world = ends.lets.object.world;
        left_users = lets_users view tells memory ends.handed new.handling (named done.request)
            (unheld_by ends.handed.table (named done.request)) ends.lets;
        users = users_then old.handling.table ends.mid.table new.handling.table
            (same_users old.handling.table ends.mid.table ends.polls.table)
            (users_then ends.mid.table ends.handed.table new.handling.table
            (handed_users view tells memory ends.mid ends.handed (made_by done.outcome) ends.hands)
            (lets_users view tells memory ends.handed new.handling (named done.request)
            (unheld_by ends.handed.table (named done.request)) ends.lets));
      }
