-- Which events a session refuses, by the causes that the machine names.
use Rattle.std.proofs.Common.{◌≡◌, ◌<◌, ◌≤◌, ℕ, Bool, true, false, not, ◌||◌, List}
use Rattle.std.proofs.Common.{[], ◌∷◌, length, Option, None, Some, refl, sym, ◌∙◌, ap}
use Rattle.std.specs.Prelude.{slice_get}
use Rattle.rent_buf.specs.Buf.{built}
use Rattle.rent_buf.specs.declared.plain.Buf.{Buf}
use Rattle.machine.specs.Lists.{passes}
use Rattle.ring_core.specs.Ring.{RingView}
use Rattle.machine.specs.Ledger.{Ledger, Operation, Place, InQueue, InFlight, InDone, Reaped}
use Rattle.machine.specs.Ledger.{Gone, is_live, is_owned, user_holds}
use Rattle.machine.specs.Refusal.{cause, refused_if, lacks_handle}
use Rattle.machine.specs.declared.ledger.Event.TheVariants.{Feed, FeedMessage, End, Look, Close, Poll, Drop, Cancel, NewHandle, CancelAll}
use Rattle.machine.specs.World.{refuses_feed, refuses_message, refuses_end}
use Rattle.machine.specs.declared.ledger.Refusal.TheVariants.{NoOp, NoCanceller, NoHandle, BadHandleEvent}
use Rattle.driver_core.specs.declared.op.Op.{Op}
use Rattle.uring_driver.specs.declared.uring.IoUringDriver.{IoUringDriver}
use Rattle.uring_driver.specs.Uring.{holds_handle, holds_all}
use Rattle.uring_driver.specs.Op.{Holds, number_of}
use Rattle.driver_core.specs.declared.slot.Slot.{Slot}
use Rattle.driver_core.specs.Slot.{is_owned_life, number_if, serial_of}
use Rattle.driver_core.specs.Slots.{waiting, life_of, life_at}
use Rattle.driver_core.proofs.Owned.{owned-slot}
use Rattle.driver_core.proofs.SlotTokens.{held-slot}
use Rattle.uring_driver.proofs.Steps.{below-test, past-test}
use Rattle.ready_run.proofs.Refusals.{not-and}
use Rattle.session_core.specs.declared.session.Session.{Session}
use Rattle.driver_core.specs.Tokens.{token_at, by_number}
use Rattle.session_core.specs.Session.{SessionStands}
use Rattle.event_text.proofs.TextFields.{and-true}
use Rattle.event_text.proofs.TextHex.{false-from}

-- A feed of a handle that the user doesn't hold is refused.
pub cause-feed : (L : Ledger) (h : ℕ) (bytes : List ℕ) → user_holds L h ≡ false → cause L (Feed h bytes) ≡ Some NoHandle
cause-feed L h bytes absent = ap (λ held. refused_if (not held || false) NoHandle
    (refused_if (passes refuses_feed (slice_get L.world h)) BadHandleEvent None)) absent

-- So is a message for one.
pub cause-message : (L : Ledger) (h addr : ℕ) (bytes : List ℕ) → user_holds L h ≡ false → cause L (FeedMessage h addr bytes) ≡ Some NoHandle
cause-message L h addr bytes absent = ap (λ held. refused_if (not held || false) NoHandle
    (refused_if (passes refuses_message (slice_get L.world h)) BadHandleEvent None)) absent

-- So is an end of one.
pub cause-end : (L : Ledger) (h : ℕ) → user_holds L h ≡ false → cause L (End h) ≡ Some NoHandle
cause-end L h absent = ap (λ held. refused_if (not held || false) NoHandle
    (refused_if (passes refuses_end (slice_get L.world h)) BadHandleEvent None)) absent

-- So is a look at one.
pub cause-look : (L : Ledger) (h : ℕ) → user_holds L h ≡ false → cause L (Look h) ≡ Some NoHandle
cause-look L h absent = ap (λ held. refused_if (not held || false) NoHandle None) absent

-- So is a close of one.
pub cause-close : (L : Ledger) (h : ℕ) → user_holds L h ≡ false → cause L (Close h) ≡ Some NoHandle
cause-close L h absent = ap (λ held. refused_if (not held || false) NoHandle None) absent

-- A look at a handle that the user holds isn't refused.
pub unrefused-look : (L : Ledger) (h : ℕ) → user_holds L h ≡ true → cause L (Look h) ≡ None
unrefused-look L h present = ap (λ held. refused_if (not held || false) NoHandle None) present

-- The user lacks one of some handles where the driver doesn't hold all of them.
pub lacks_handle-holds_all : (driver : IoUringDriver RingView Buf) (L : Ledger) → ((h : ℕ) → holds_handle driver h ≡ user_holds L h) →
    (handles : List ℕ) → lacks_handle L handles ≡ not (holds_all driver handles)
lacks_handle-holds_all driver L same [] = refl
lacks_handle-holds_all driver L same (h ∷ handles) =
    ap (λ b. not b || lacks_handle L handles) (sym (same h))
    ∙ ap (λ b. not (holds_handle driver h) || b) (lacks_handle-holds_all driver L same handles)
    ∙ not-and (holds_handle driver h) (holds_all driver handles)

-- A poll of what isn't its user's is refused.
pub cause-poll : (L : Ledger) (n task : ℕ) → passes is_owned (slice_get L.ops n) ≡ false → cause L (Poll n task) ≡ Some NoOp
cause-poll L n task absent = ap (λ owned. refused_if (not owned) NoOp None) absent

-- So is a drop of one.
pub cause-drop : (L : Ledger) (n : ℕ) → passes is_owned (slice_get L.ops n) ≡ false → cause L (Drop n) ≡ Some NoOp
cause-drop L n absent = ap (λ owned. refused_if (not owned) NoOp None) absent

-- So is a cancel of one.
pub cause-cancel : (L : Ledger) (n : ℕ) → passes is_owned (slice_get L.ops n) ≡ false → cause L (Cancel n) ≡ Some NoOp
cause-cancel L n absent = ap (λ owned. refused_if (not owned) NoOp None) absent

-- A slot that waits is its user's.
owned-waiting : (task : Option ℕ) → is_owned_life (waiting task) ≡ true
owned-waiting None = refl
owned-waiting (Some task) = refl

-- An operation that wasn't dropped is its user's.
owned-undropped : (was_dropped : Bool) (place : Place) (task : Option ℕ) → not was_dropped ≡ true →
    is_owned_life (life_of was_dropped place task) ≡ true
owned-undropped true place task is = absurd (let never : ◌≡◌ {A = Bool} false true = is in cc)
owned-undropped false InQueue task is = owned-waiting task
owned-undropped false InFlight task is = owned-waiting task
owned-undropped false (InDone outcome) task is = owned-waiting task
owned-undropped false (Reaped outcome) task is = refl
owned-undropped false Gone task is = refl

-- The slot of an operation that is its user's has its number.
serial_of-owned : (slot : Slot Buf) (operation : Operation) (n : ℕ) → slot.serial ≡ n → slot.life ≡ life_at operation →
    not operation.dropped ≡ true → serial_of (Some slot) ≡ Some n
serial_of-owned slot operation n serial life undropped =
    ap (λ b. number_if b slot.serial) (ap is_owned_life life ∙ owned-undropped operation.dropped operation.place operation.task undropped)
    ∙ ap (λ k. Some k) serial

-- What stands at one number is one.
one-there : (ops : List Operation) (k n : ℕ) (x y : Operation) → k ≡ n → slice_get ops k ≡ Some x → slice_get ops n ≡ Some y → x ≡ y
one-there ops k n x y same first second = (let both : Some x ≡ Some y = sym first ∙ ap (slice_get ops) same ∙ second in cc)

-- The driver holds a token of each operation that is its user's.
holds-owned : (session : Session) (L : Ledger) (n : ℕ) (operation : Operation) → SessionStands session L →
    slice_get L.ops n ≡ Some operation → is_owned operation ≡ true → (op : Op) × Holds session.driver op × (number_of op ≡ n)
holds-owned session L n operation stands is owned =
    let parts = and-true (is_live operation) (not operation.dropped) owned in
    let slot = stands.driver.operations.in_slots.each n operation is parts.0 in
    let for = stands.driver.operations.in_slots.holds slot.key slot.slot slot.there in
    let same : for.operation ≡ operation = one-there L.ops slot.slot.serial n for.operation operation slot.serial for.there is in (
      record { number = n; key = slot.key },
      ap serial_of slot.there ∙ serial_of-owned slot.slot operation n slot.serial (for.life ∙ ap life_at same) parts.1,
      refl,
    )

-- An operation whose token isn't kept isn't its user's.
pub no_token-lacks : (session : Session) (L : Ledger) (n : ℕ) → SessionStands session L → token_at (by_number session.tokens) n ≡ None →
    (found : Option Operation) → slice_get L.ops n ≡ found → passes is_owned found ≡ false
no_token-lacks session L n stands none None is = refl
no_token-lacks session L n stands none (Some operation) is = false-from (is_owned operation) (λ owned.
    let op = holds-owned session L n operation stands is owned in
    let there : token_at (by_number session.tokens) n ≡ Some op.0 = (stands.tokens n op.0).1 (op.1, op.2) in
    (let both : ◌≡◌ {A = Option Op} None (Some op.0) = sym none ∙ there in cc))

-- An operation whose token the driver holds is its user's.
pub token-owns : (session : Session) (L : Ledger) (n : ℕ) (op : Op) → SessionStands session L → Holds session.driver op → number_of op ≡ n →
    passes is_owned (slice_get L.ops n) ≡ true
token-owns session L n op stands holds is =
    let found = held-slot session.driver.slots.values op holds in
    let stood = stands.driver.operations.in_slots.holds op.key found.slot found.there in
    let its = owned-slot built L found.slot stood found.owned in
    ap (λ k. passes is_owned (slice_get L.ops k)) (sym (found.serial ∙ is)) ∙ ap (passes is_owned) its.fit.there ∙ its.owned

-- A cancel of what is its user's isn't refused.
pub unrefused-cancel : (L : Ledger) (n : ℕ) → passes is_owned (slice_get L.ops n) ≡ true → cause L (Cancel n) ≡ None
unrefused-cancel L n owned = ap (λ is. refused_if (not is) NoOp None) owned

-- A cancel handle of a canceller that was never created is refused.
pub cause-new_handle : (L : Ledger) (c : ℕ) → length L.cancellers ≤ c → cause L (NewHandle c) ≡ Some NoCanceller
cause-new_handle L c past = ap (λ b. refused_if b NoCanceller None) (past-test (length L.cancellers) c past)

-- So is a cancel of its group.
pub cause-cancel_all : (L : Ledger) (c : ℕ) → length L.cancellers ≤ c → cause L (CancelAll c) ≡ Some NoCanceller
cause-cancel_all L c past = ap (λ b. refused_if b NoCanceller None) (past-test (length L.cancellers) c past)

-- A cancel handle of one that was created isn't.
pub unrefused-new_handle : (L : Ledger) (c : ℕ) → c < length L.cancellers → cause L (NewHandle c) ≡ None
unrefused-new_handle L c within = ap (λ b. refused_if b NoCanceller None) (below-test (length L.cancellers) c within)

-- Nor is a cancel of its group.
pub unrefused-cancel_all : (L : Ledger) (c : ℕ) → c < length L.cancellers → cause L (CancelAll c) ≡ None
unrefused-cancel_all L c within = ap (λ b. refused_if b NoCanceller None) (below-test (length L.cancellers) c within)
