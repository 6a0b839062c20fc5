-- What arrives at handles in memory of a readiness driver that is one as plain data.
use Rattle.std.proofs.Common.{◌≡◌, ℕ, ◌≤◌, ◌||◌, Bool, true, false, not, List, Option, None, refl, sym, ◌∙◌, ap, subst}
use Rattle.std.specs.Prelude.{slice_get, Result, Ok, Err}
use Rattle.rent_buf.specs.Buffer.{Buffer}
use Rattle.machine.specs.declared.world.HandleState.{HandleState}
use Rattle.machine.specs.declared.world.WorldError.{WorldError}
use Rattle.machine.specs.declared.world.WorldError.TheVariants.{BadHandleEvent, OutOfMemory}
use Rattle.machine.specs.declared.ledger.Event.TheVariants.{Feed, FeedMessage, End}
use Rattle.machine.specs.declared.ledger.Reply.TheVariants.{Fed, Ended}
use Rattle.machine.specs.declared.ledger.Refusal.{Refusal}
use Rattle.machine.specs.declared.ledger.Refusal.TheVariants.{NoHandle, BadHandleEvent as NotTaken}
use Rattle.machine.specs.declared.world.TheConstants.{MOST_HANDLES}
use Rattle.machine.specs.Lists.{amended, passes}
use Rattle.machine.specs.Refusal.{refused_if}
use Rattle.machine.specs.World.{with_input, with_message, with_end, refuses_feed, refuses_message, refuses_end}
use Rattle.machine.specs.World.{WorldFeeds, WorldFeedsMessage, WorldEnds}
use Rattle.machine.proofs.Amended.{length-amended}
use Rattle.ready_driver.specs.Legacy.{Legacy, holds_at}
use Rattle.ready_driver.specs.LegacyHandles.{FeedsFor, FeedsMessageFor, EndsFor}
use Rattle.ready_driver.specs.LegacyStands.{LegacyStands}
use Rattle.ready_driver.specs.LegacyState.{LegacyState}
use Rattle.ready_driver.specs.MemIo.{Memory, memory_view}
use Rattle.ready_driver.specs.Registry.{Handling, is_users, with_world}
use Rattle.ready_driver.proofs.Driven.{answers-row, handles-like, stands-like}

-- What an event on one handle is refused with, by whether the user holds the handle, and whether the handle refuses it.
abbrev arrive_cause : Bool → Bool → Option Refusal
arrive_cause held bad = refused_if (not held || false) NoHandle (refused_if bad NotTaken None)

-- A driver over handles in memory that is one as plain data, and a handle that the user holds.
module _ {B : Type 0} (buffer : B → Buffer) (d : LegacyState Memory B) (D : Legacy) (old : LegacyStands memory_view buffer d D) (h : ℕ)
    (held : is_users d.handling.table h ≡ true) where
  -- The handles are the same.
  same : d.handling.io.world ≡ D.world
  same = old.parts.handles

  -- The event is refused only if the handle refuses it.
  cause-is : (refuses : HandleState → Bool) (b : Bool) → passes refuses (slice_get d.handling.io.world h) ≡ b →
      arrive_cause (holds_at D h) (passes refuses (slice_get D.world h)) ≡ refused_if b NotTaken None
  cause-is refuses b is =
      ap (λ x. arrive_cause x (passes refuses (slice_get D.world h))) (sym (old.handles.users h) ∙ held)
      ∙ ap (λ x. refused_if x NotTaken None) (ap (λ w. passes refuses (slice_get w h)) (sym same) ∙ is)

  -- The handle changed, and nothing else.
  stands-world : (change : HandleState → HandleState) (new : Handling Memory) → new ≡ with_world d.handling new.io →
      new.io.world ≡ amended d.handling.io.world h change →
      LegacyStands memory_view buffer (record d { handling = new }) (record D { world = amended D.world h change })
  stands-world change new rest is =
      let E : Legacy = record D { world = amended D.world h change } in
      subst (λ x. LegacyStands memory_view buffer (record d { handling = x }) E) (sym rest)
      (stands-like memory_view buffer d D old (record d { handling = with_world d.handling new.io }) E refl refl refl
      (is ∙ ap (λ w. amended w h change) same)
      (handles-like d.handling.table d.handling.io.keys D E refl refl (length-amended change D.world h) old.handles)
      (record { marks = old.groups.marks; members = old.groups.members })
      (subst (λ n. n ≤ MOST_HANDLES) (sym (length-amended change D.world h)) old.few))

  -- No handle changed.
  stands-same : (new : Handling Memory) → new ≡ with_world d.handling new.io → new.io.world ≡ d.handling.io.world →
      LegacyStands memory_view buffer (record d { handling = new }) D
  stands-same new rest is =
      subst (λ x. LegacyStands memory_view buffer (record d { handling = x }) D) (sym rest)
      (stands-like memory_view buffer d D old (record d { handling = with_world d.handling new.io }) D refl refl refl (is ∙ same)
      old.handles (record { marks = old.groups.marks; members = old.groups.members }) old.few)

  -- Bytes arrive.
  pub stands-feeds : (bytes : List ℕ) (new : Handling Memory) (result : Result Unit WorldError) →
      WorldFeeds bytes d.handling.io.world h new.io.world result → new ≡ with_world d.handling new.io →
      FeedsFor buffer D h bytes (record d { handling = new }) result
  stands-feeds bytes new (Ok done) feeds rest =
      answers-row memory_view buffer D (Feed h bytes) Fed (record d { handling = new }) (cause-is refuses_feed false feeds.0) refl
      (stands-world (with_input bytes) new rest feeds.1)
  stands-feeds bytes new (Err BadHandleEvent) feeds rest = (cause-is refuses_feed true feeds.0, stands-same new rest feeds.1)
  stands-feeds bytes new (Err OutOfMemory) feeds rest = (cause-is refuses_feed false feeds.0, stands-same new rest feeds.1)

  -- A message arrives.
  pub stands-feeds-message : (addr : ℕ) (bytes : List ℕ) (new : Handling Memory) (result : Result Unit WorldError) →
      WorldFeedsMessage addr bytes d.handling.io.world h new.io.world result → new ≡ with_world d.handling new.io →
      FeedsMessageFor buffer D h addr bytes (record d { handling = new }) result
  stands-feeds-message addr bytes new (Ok done) feeds rest =
      answers-row memory_view buffer D (FeedMessage h addr bytes) Fed (record d { handling = new })
      (cause-is refuses_message false feeds.0) refl (stands-world (with_message addr bytes) new rest feeds.1)
  stands-feeds-message addr bytes new (Err BadHandleEvent) feeds rest =
      (cause-is refuses_message true feeds.0, stands-same new rest feeds.1)
  stands-feeds-message addr bytes new (Err OutOfMemory) feeds rest =
      (cause-is refuses_message false feeds.0, stands-same new rest feeds.1)

  -- The end of what arrives.
  pub stands-ends : (new : Handling Memory) (result : Result Unit WorldError) →
      WorldEnds d.handling.io.world h new.io.world result → new ≡ with_world d.handling new.io →
      EndsFor buffer D h (record d { handling = new }) result
  stands-ends new (Ok done) ends rest =
      answers-row memory_view buffer D (End h) Ended (record d { handling = new }) (cause-is refuses_end false ends.0) refl
      (stands-world with_end new rest ends.1)
  stands-ends new (Err BadHandleEvent) ends rest = (cause-is refuses_end true ends.0, stands-same new rest ends.1)
  stands-ends new (Err OutOfMemory) ends rest = absurd ends
