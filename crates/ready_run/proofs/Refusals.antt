-- Which events a session refuses, by what a driver as plain data refuses them with.
use Rattle.std.proofs.Common.{◌≡◌, ◌<◌, ◌≤◌, ◌∙◌, ℕ, Bool, true, false, not, ◌||◌, ◌&&◌, List, [], ◌∷◌, length, Option, None, Some, refl}
use Rattle.std.proofs.Common.{sym, ap, slice_get, arith}
use Rattle.std.proofs.lemmas.Bool.Decides.{nat_tests}
use Rattle.std.specs.Prelude.{is_some, nat_le}
use Rattle.handle_core.specs.Table.{Table}
use Rattle.op_slots.specs.declared.lifecycle.Lifecycle.{Lifecycle}
use Rattle.op_slots.specs.declared.lifecycle.Lifecycle.TheVariants.{Submitted, Waiting, Ignored, Completed}
use Rattle.machine.specs.declared.request.Outcome.{Outcome}
use Rattle.machine.specs.Lists.{passes}
use Rattle.machine.specs.Refusal.{refused_if}
use Rattle.machine.specs.World.{refuses_feed, refuses_message, refuses_end}
use Rattle.machine.specs.declared.ledger.Event.TheVariants.{Feed, FeedMessage, End, Look, Close, Poll, Drop, Cancel, NewHandle, CancelAll}
use Rattle.machine.specs.declared.ledger.Refusal.TheVariants.{NoOp, NoCanceller, NoHandle, BadHandleEvent}
use Rattle.driver_core.specs.declared.op.Op.{Op}
use Rattle.driver_core.specs.Op.{number_of}
use Rattle.driver_core.specs.Slot.{is_owned_life}
use Rattle.driver_core.specs.Tokens.{token_at, by_number}
use Rattle.driver_core.proofs.Numbers.{Owner, owner, slot-number}
use Rattle.ready_driver.specs.Legacy.{LegacyOp, Legacy, slot_at, holds_at}
use Rattle.ready_driver.specs.LegacyState.{holds_all}
use Rattle.ready_driver.specs.LegacyStep.{legacy_cause, misses_handle}
use Rattle.ready_driver.specs.Polling.{LifeFor}
use Rattle.ready_driver.specs.Registry.{is_users}
use Rattle.ready_run.specs.declared.inner.Inner.{Inner}
use Rattle.ready_run.specs.ReadySession.{SessionStands, is_live}

-- A number that is past a count.
pub below-test : (n k : ℕ) → k < n → nat_le n k ≡ false
below-test n k h = grind (arith, nat_tests)

-- A number that isn't.
pub past-test : (n k : ℕ) → n ≤ k → nat_le n k ≡ true
past-test n k h = grind (arith, nat_tests)

-- A feed of a handle that the user doesn't hold is refused.
pub cause-feed : (D : Legacy) (h : ℕ) (bytes : List ℕ) → holds_at D h ≡ false → legacy_cause D (Feed h bytes) ≡ Some NoHandle
cause-feed D h bytes absent = ap (λ held. refused_if (not held || false) NoHandle
    (refused_if (passes refuses_feed (slice_get D.world h)) BadHandleEvent None)) absent

-- So is a message for one.
pub cause-message : (D : Legacy) (h addr : ℕ) (bytes : List ℕ) → holds_at D h ≡ false →
    legacy_cause D (FeedMessage h addr bytes) ≡ Some NoHandle
cause-message D h addr bytes absent = ap (λ held. refused_if (not held || false) NoHandle
    (refused_if (passes refuses_message (slice_get D.world h)) BadHandleEvent None)) absent

-- So is an end of one.
pub cause-end : (D : Legacy) (h : ℕ) → holds_at D h ≡ false → legacy_cause D (End h) ≡ Some NoHandle
cause-end D h absent = ap (λ held. refused_if (not held || false) NoHandle
    (refused_if (passes refuses_end (slice_get D.world h)) BadHandleEvent None)) absent

-- So is a look at one.
pub cause-look : (D : Legacy) (h : ℕ) → holds_at D h ≡ false → legacy_cause D (Look h) ≡ Some NoHandle
cause-look D h absent = ap (λ held. refused_if (not held || false) NoHandle None) absent

-- So is a close of one.
pub cause-close : (D : Legacy) (h : ℕ) → holds_at D h ≡ false → legacy_cause D (Close h) ≡ Some NoHandle
cause-close D h absent = ap (λ held. refused_if (not held || false) NoHandle None) absent

-- Where each of two holds, both do.
pub not-and : (a b : Bool) → (not a || not b) ≡ not (a && b)
not-and true b = refl
not-and false b = refl

-- The user lacks one of some handles where the table doesn't hold all of them.
pub misses-holds_all : (table : Table) (D : Legacy) → ((h : ℕ) → is_users table h ≡ holds_at D h) → (handles : List ℕ) →
    misses_handle D handles ≡ not (holds_all table handles)
misses-holds_all table D same [] = refl
misses-holds_all table D same (h ∷ handles) =
    ap (λ b. not b || misses_handle D handles) (sym (same h))
    ∙ ap (λ b. not (is_users table h) || b) (misses-holds_all table D same handles)
    ∙ not-and (is_users table h) (holds_all table handles)

-- A poll of an operation that is gone is refused.
pub cause-poll : (D : Legacy) (n task : ℕ) → is_live D n ≡ false → legacy_cause D (Poll n task) ≡ Some NoOp
cause-poll D n task gone = ap (λ live. refused_if (not live) NoOp None) gone

-- So is a drop of one.
pub cause-drop : (D : Legacy) (n : ℕ) → is_live D n ≡ false → legacy_cause D (Drop n) ≡ Some NoOp
cause-drop D n gone = ap (λ live. refused_if (not live) NoOp None) gone

-- So is a cancel of one.
pub cause-cancel : (D : Legacy) (n : ℕ) → is_live D n ≡ false → legacy_cause D (Cancel n) ≡ Some NoOp
cause-cancel D n gone = ap (λ live. refused_if (not live) NoOp None) gone

-- The slot of an operation that isn't gone is its user's.
life-owned : (asked : Bool) (life : Lifecycle Outcome) → LifeFor asked life → is_owned_life life ≡ true
life-owned true life is = ap is_owned_life is
life-owned false Submitted is = refl
life-owned false (Waiting task) is = refl
life-owned false Ignored is = absurd is
life-owned false (Completed outcome) is = absurd is

-- An operation whose token isn't kept is gone.
pub no_token-gone : (session : Inner) (D : Legacy) (n : ℕ) → SessionStands session D → token_at (by_number session.tokens) n ≡ None →
    is_live D n ≡ false
no_token-gone session D n stands none = by (slot_at D n) refl
  where
    by : (found : Option LegacyOp) → slot_at D n ≡ found → is_some found ≡ false
    by None is = refl
    by (Some op) is =
        let slots = stands.driver.parts.operations.slots in
        let own = slots.each n op is in
        let for = slots.holds own.key own.slot own.there in
        let token : Op = record { number = n; key = own.key } in
        let number = slot-number session.driver.slots.values own.key own.slot own.there (life-owned for.op.asked own.slot.life for.life)
        ∙ ap (λ k. Some k) own.serial in
        let there : token_at (by_number session.tokens) n ≡ Some token = (stands.tokens n token).1 (number, refl) in
        absurd (let both : ◌≡◌ {A = Option Op} None (Some token) = sym none ∙ there in cc)

-- An operation whose token is kept isn't.
pub token-live : (session : Inner) (D : Legacy) (n : ℕ) (op : Op) → SessionStands session D →
    token_at (by_number session.tokens) n ≡ Some op → is_live D n ≡ true
token-live session D n op stands there =
    let held = (stands.tokens n op).0 there in
    let own : Owner session.driver.slots.values op.key (number_of op) = owner session.driver.slots.values op.key (number_of op) held.0 in
    let slot = stands.driver.parts.operations.slots.holds op.key own.slot own.there in
    ap (λ k. is_live D k) (sym (own.serial ∙ held.1)) ∙ ap is_some slot.there

-- A cancel handle of a canceller that was never created is refused.
pub cause-new_handle : (D : Legacy) (c : ℕ) → length D.cancellers ≤ c → legacy_cause D (NewHandle c) ≡ Some NoCanceller
cause-new_handle D c past = ap (λ b. refused_if b NoCanceller None) (past-test (length D.cancellers) c past)

-- So is a cancel of its group.
pub cause-cancel_all : (D : Legacy) (c : ℕ) → length D.cancellers ≤ c → legacy_cause D (CancelAll c) ≡ Some NoCanceller
cause-cancel_all D c past = ap (λ b. refused_if b NoCanceller None) (past-test (length D.cancellers) c past)

-- A cancel handle of one that was created isn't.
pub unrefused-new_handle : (D : Legacy) (c : ℕ) → c < length D.cancellers → legacy_cause D (NewHandle c) ≡ None
unrefused-new_handle D c within = ap (λ b. refused_if b NoCanceller None) (below-test (length D.cancellers) c within)

-- Nor is a cancel of its group.
pub unrefused-cancel_all : (D : Legacy) (c : ℕ) → c < length D.cancellers → legacy_cause D (CancelAll c) ≡ None
unrefused-cancel_all D c within = ap (λ b. refused_if b NoCanceller None) (below-test (length D.cancellers) c within)

-- A look at a handle that the user holds isn't.
pub unrefused-look : (D : Legacy) (h : ℕ) → holds_at D h ≡ true → legacy_cause D (Look h) ≡ None
unrefused-look D h held = ap (λ holds. refused_if (not holds || false) NoHandle None) held

-- Nor is a poll of an operation that isn't gone.
pub unrefused-poll : (D : Legacy) (n task : ℕ) → is_live D n ≡ true → legacy_cause D (Poll n task) ≡ None
unrefused-poll D n task live = ap (λ is. refused_if (not is) NoOp None) live

-- Nor is its cancel.
pub unrefused-cancel : (D : Legacy) (n : ℕ) → is_live D n ≡ true → legacy_cause D (Cancel n) ≡ None
unrefused-cancel D n live = ap (λ is. refused_if (not is) NoOp None) live
