-- What a step of the machine is, where the event isn't refused.
use Rattle.std.proofs.Common.{◌≡◌, ◌≤◌, ℕ, Bool, true, false, List, [], ◌∷◌, ◌++◌, length, Option, None, Some, refl, ◌∙◌, ap}
use Rattle.std.proofs.Common.{not, ◌||◌, ◌&&◌, unwrap_or}
use Rattle.std.specs.Prelude.{slice_get, nat_le}
use Rattle.std.proofs.lemmas.Bool.{lt-leb, le-leb}
use Rattle.std.proofs.lemmas.Option.{slice_get_within}
use Rattle.rent_buf.specs.Buffer.{Buffer}
use Rattle.rent_buf.specs.Parts.{Parts}
use Rattle.machine.specs.declared.request.Request.{Request}
use Rattle.machine.specs.declared.request.Told.{Told}
use Rattle.machine.specs.declared.request.Outcome.{Outcome}
use Rattle.machine.specs.declared.world.HandleKind.{HandleKind}
use Rattle.machine.specs.declared.ledger.Event.{Event}
use Rattle.machine.specs.declared.ledger.Event.TheVariants.{Give, Feed, End, Look, Close, Submit, Poll, Drop, Cancel as Asks, Turn, Exec}
use Rattle.machine.specs.declared.ledger.Event.TheVariants.{FeedMessage, NewCanceller, NewHandle, CancelAll}
use Rattle.machine.specs.declared.ledger.Reply.TheVariants.{Handle, Fed, Ended, Submitted, Pending, Handed, Dropped, Asked}
use Rattle.machine.specs.declared.ledger.Reply.TheVariants.{Released, CanceledAtOnce, Canceller, CancelHandle, Cancels}
use Rattle.machine.specs.declared.ledger.Refusal.{Refusal}
use Rattle.machine.specs.declared.ledger.Refusal.TheVariants.{NoOp, NoCanceller, NoHandle, Full, NotFlying, Waiting, BadOutcome}
use Rattle.machine.specs.declared.ledger.Refusal.TheVariants.{BadHandleEvent}
use Rattle.machine.specs.Lists.{passes}
use Rattle.machine.specs.Outcome.{is_allowed}
use Rattle.machine.specs.Request.{named, held_of, call_of}
use Rattle.machine.specs.World.{fresh, with_input, with_message, with_end, look_at, refuses_feed, refuses_message, refuses_end}
use Rattle.machine.specs.Ledger.{Ledger, Operation, Place, InQueue, InFlight, InDone, Reaped, Gone, Cancel, Item, Op, is_owned}
use Rattle.machine.specs.Ledger.{live_ops, user_holds, empty, is_under_marked, group_under, members}
use Rattle.machine.specs.Queue.{with_op, push, leave}
use Rattle.machine.specs.Refusal.{cause, refused_if, lacks_handle, allowed, waits, has_no_canceller}
use Rattle.machine.specs.declared.ledger.TheConstants.{MOST_LIVE}
use Rattle.machine.specs.Turn.{turn_step, exec_step}
use Rattle.machine.specs.Step.{step, answered, give_step, poll_at, poll_step, drop_at, drop_step, submit_step, with_handle, with_task}
use Rattle.machine.specs.Step.{handed_over, with_drop, close_step, submit_if, new_canceller_step, new_handle_step}
use Rattle.machine.specs.Step.{cancel_all_step, look_reply}
use Rattle.machine.proofs.Stepping.{step-row}
use Rattle.machine.specs.Run.{after, ledger}
pub use Rattle.std.proofs.lemmas.Bool.{lt-leb as below-test, le-leb as past-test}

-- One more event is one step more.
after-append : (L : Ledger) (es : List Event) (e : Event) → (step (after L es) e).0 ≡ after L (es ++ e ∷ [])
after-append L [] e = refl
after-append L (x ∷ es) e = after-append (step L x).0 es e

-- One step more of a ledger that was reached.
pub reached-more : (L : Ledger) (capacity : ℕ) (es : List Event) (e : Event) → L ≡ ledger capacity es →
    (step L e).0 ≡ ledger capacity (es ++ e ∷ [])
reached-more L capacity es e h = ap (λ K. (step K e).0) h ∙ after-append (empty capacity) es e

-- A poll of an operation that its user holds goes by its place.
step-poll : (L : Ledger) (n task : ℕ) (o : Operation) → slice_get L.ops n ≡ Some o → is_owned o ≡ true →
    step L (Poll n task) ≡ poll_at L n task o o.place
unfolding step
step-poll L n task o there owned =
    ap (λ x. answered (refused_if (not (passes is_owned x)) NoOp None) L (Poll n task)) there
    ∙ ap (λ b. answered (refused_if (not b) NoOp None) L (Poll n task)) owned
    ∙ ap (poll_step L n task) there

-- A place before the reap.
abbrev pub is_waiting : Place → Bool
is_waiting InQueue = true
is_waiting InFlight = true
is_waiting (InDone outcome) = true
is_waiting (Reaped outcome) = false
is_waiting Gone = false

-- A poll at a place before the reap is pending, and leaves its task.
poll-waiting : (L : Ledger) (n task : ℕ) (o : Operation) (p : Place) → is_waiting p ≡ true →
    poll_at L n task o p ≡ (with_op L n (with_task task), Pending)
poll-waiting L n task o InQueue h = refl
poll-waiting L n task o InFlight h = refl
poll-waiting L n task o (InDone outcome) h = refl
poll-waiting L n task o (Reaped outcome) h = cc
poll-waiting L n task o Gone h = cc

-- A poll of an operation before its reap is pending, and leaves its task.
pub step-poll-waiting : (L : Ledger) (n task : ℕ) (o : Operation) → slice_get L.ops n ≡ Some o → is_owned o ≡ true →
    is_waiting o.place ≡ true → step L (Poll n task) ≡ (with_op L n (with_task task), Pending)
step-poll-waiting L n task o there owned h = step-poll L n task o there owned ∙ poll-waiting L n task o o.place h

-- A poll of a reaped operation hands over its outcome and buffer, with the handle that it made, and the operation leaves.
pub step-poll-reaped : (L : Ledger) (n task : ℕ) (o : Operation) → slice_get L.ops n ≡ Some o → is_owned o ≡ true → (r : Outcome) →
    o.place ≡ Reaped r → step L (Poll n task) ≡ (leave (handed_over L o.made) n, Handed r o.buffer)
step-poll-reaped L n task o there owned r h = step-poll L n task o there owned ∙ ap (poll_at L n task o) h

-- A drop of an operation that its user holds goes by its place.
step-drop : (L : Ledger) (n : ℕ) (o : Operation) → slice_get L.ops n ≡ Some o → is_owned o ≡ true →
    step L (Drop n) ≡ (drop_at (with_op L n with_drop) n o.place, Dropped)
unfolding step
step-drop L n o there owned =
    ap (λ x. answered (refused_if (not (passes is_owned x)) NoOp None) L (Drop n)) there
    ∙ ap (λ b. answered (refused_if (not b) NoOp None) L (Drop n)) owned
    ∙ ap (drop_step L n) there

-- A drop at a place before the reap queues a cancel.
drop-waiting : (L : Ledger) (n : ℕ) (p : Place) → is_waiting p ≡ true → drop_at L n p ≡ push L (Cancel n)
drop-waiting L n InQueue h = refl
drop-waiting L n InFlight h = refl
drop-waiting L n (InDone outcome) h = refl
drop-waiting L n (Reaped outcome) h = cc
drop-waiting L n Gone h = cc

-- A drop of an operation before its reap queues its cancel.
pub step-drop-waiting : (L : Ledger) (n : ℕ) (o : Operation) → slice_get L.ops n ≡ Some o → is_owned o ≡ true → is_waiting o.place ≡ true →
    step L (Drop n) ≡ (push (with_op L n with_drop) (Cancel n), Dropped)
step-drop-waiting L n o there owned h =
    step-drop L n o there owned ∙ ap (λ M. (M, Dropped)) (drop-waiting (with_op L n with_drop) n o.place h)

-- A dropped operation that was reaped leaves.
pub step-drop-reaped : (L : Ledger) (n : ℕ) (o : Operation) → slice_get L.ops n ≡ Some o → is_owned o ≡ true → (r : Outcome) →
    o.place ≡ Reaped r → step L (Drop n) ≡ (leave (with_op L n with_drop) n, Dropped)
step-drop-reaped L n o there owned r h = step-drop L n o there owned ∙ ap (λ p. (drop_at (with_op L n with_drop) n p, Dropped)) h

-- A cancel that is asked for is queued.
pub step-cancel : (L : Ledger) (n : ℕ) (o : Operation) → slice_get L.ops n ≡ Some o → is_owned o ≡ true →
    step L (Asks n) ≡ (push L (Cancel n), Asked)
unfolding step
step-cancel L n o there owned =
    ap (λ x. answered (refused_if (not (passes is_owned x)) NoOp None) L (Asks n)) there
    ∙ ap (λ b. answered (refused_if (not b) NoOp None) L (Asks n)) owned

-- What is refused of a submission: its cancel handle wasn't created, a handle that it names isn't its user's, or there are too many.
abbrev submit-cause : Bool → Bool → Bool → Bool → Option Refusal
submit-cause unknown lacks marked full =
    refused_if unknown NoCanceller (refused_if lacks NoHandle (refused_if (not marked && full) Full None))

module _ (L : Ledger) (r : Request Buffer Parts) (handle : Option ℕ) (linked : Bool)
    (here : has_no_canceller L (Submit r handle linked) ≡ false) (user : lacks_handle L (named r) ≡ false) where
  abbrev full : Bool
  full = nat_le MOST_LIVE (length (live_ops L))

  -- A submission of handles that the user holds, under a cancel handle that was created or under none, is refused only where there are too
  -- many operations, and it isn't under a marked group.
  submit-unrefused : (marked : Bool) → is_under_marked L handle ≡ marked →
      cause L (Submit r handle linked) ≡ refused_if (not marked && full) Full None
  submit-unrefused marked is =
      ap (λ b. submit-cause b (lacks_handle L (named r)) (is_under_marked L handle) full) here
      ∙ ap (λ b. submit-cause false b (is_under_marked L handle) full) user ∙ ap (λ b. submit-cause false false b full) is

  -- It is submitted where there is room for one more, and its group isn't marked.
  pub step-submit : is_under_marked L handle ≡ false → full ≡ false →
      step L (Submit r handle linked) ≡ (submit_step L r (group_under L handle) linked, Submitted (length L.ops))
  step-submit unmarked room =
      step-row L (Submit r handle linked) (submit-unrefused false unmarked ∙ ap (λ b. refused_if b Full None) room)
      ∙ ap (λ b. submit_if b L r (group_under L handle) linked) unmarked

  -- Under a marked group nothing is submitted.
  pub step-canceled : is_under_marked L handle ≡ true → step L (Submit r handle linked) ≡ (L, CanceledAtOnce (held_of r))
  step-canceled marked =
      step-row L (Submit r handle linked) (submit-unrefused true marked)
      ∙ ap (λ b. submit_if b L r (group_under L handle) linked) marked

-- A new canceller is never refused.
pub step-canceller : (L : Ledger) → step L NewCanceller ≡ (new_canceller_step L, Canceller (length L.cancellers))
unfolding step
step-canceller L = refl

-- A cancel handle of a canceller that was created is created.
pub step-handle : (L : Ledger) (c g : ℕ) → slice_get L.cancellers c ≡ Some g →
    step L (NewHandle c) ≡ (new_handle_step L c, CancelHandle (length L.cancel_handles))
step-handle L c g there = step-row L (NewHandle c)
    (ap (λ b. refused_if b NoCanceller None) (lt-leb (length L.cancellers) c (slice_get_within L.cancellers c g there)))

-- The group of a canceller that was created is canceled.
pub step-cancel_all : (L : Ledger) (c g : ℕ) → slice_get L.cancellers c ≡ Some g →
    step L (CancelAll c) ≡ (cancel_all_step L c g, Cancels (members L g))
step-cancel_all L c g there =
    step-row L (CancelAll c)
    (ap (λ b. refused_if b NoCanceller None) (lt-leb (length L.cancellers) c (slice_get_within L.cancellers c g there)))
    ∙ ap (λ k. (cancel_all_step L c k, Cancels (members L k))) (ap (λ x. unwrap_or x 0) there)

-- A turn is never refused.
pub step-turn : (L : Ledger) → step L Turn ≡ turn_step L
unfolding step
step-turn L = refl

-- A handle is always given, and has the number of how many there were.
pub step-give : (L : Ledger) (kind : HandleKind) → step L (Give kind) ≡ (give_step L (fresh kind), Handle (length L.world))
unfolding step
step-give L kind = refl

-- What arrives at a handle, as bytes, as a message or as their end, is refused exactly where the handle doesn't take it.
abbrev arrival-cause : Bool → Bool → Option Refusal
arrival-cause user refuses = refused_if (not user || false) NoHandle (refused_if refuses BadHandleEvent None)

-- Bytes for a handle that the user holds are refused exactly where it takes none.
pub cause-feed : (L : Ledger) (h : ℕ) (bytes : List ℕ) (refuses : Bool) → user_holds L h ≡ true →
    passes refuses_feed (slice_get L.world h) ≡ refuses → cause L (Feed h bytes) ≡ refused_if refuses BadHandleEvent None
cause-feed L h bytes refuses user at =
    ap (λ b. arrival-cause b (passes refuses_feed (slice_get L.world h))) user ∙ ap (λ b. refused_if b BadHandleEvent None) at

-- A message for a handle that the user holds is refused exactly where it takes none.
pub cause-message : (L : Ledger) (h addr : ℕ) (bytes : List ℕ) (refuses : Bool) → user_holds L h ≡ true →
    passes refuses_message (slice_get L.world h) ≡ refuses → cause L (FeedMessage h addr bytes) ≡ refused_if refuses BadHandleEvent None
cause-message L h addr bytes refuses user at =
    ap (λ b. arrival-cause b (passes refuses_message (slice_get L.world h))) user ∙ ap (λ b. refused_if b BadHandleEvent None) at

-- The end of a handle that the user holds is refused exactly where it takes none.
pub cause-end : (L : Ledger) (h : ℕ) (refuses : Bool) → user_holds L h ≡ true → passes refuses_end (slice_get L.world h) ≡ refuses →
    cause L (End h) ≡ refused_if refuses BadHandleEvent None
cause-end L h refuses user at =
    ap (λ b. arrival-cause b (passes refuses_end (slice_get L.world h))) user ∙ ap (λ b. refused_if b BadHandleEvent None) at

-- Bytes for a handle that takes them join its input.
pub step-feed : (L : Ledger) (h : ℕ) (bytes : List ℕ) → user_holds L h ≡ true → passes refuses_feed (slice_get L.world h) ≡ false →
    step L (Feed h bytes) ≡ (with_handle L h (with_input bytes), Fed)
unfolding step
step-feed L h bytes user takes = ap (λ why. answered why L (Feed h bytes)) (cause-feed L h bytes false user takes)

-- A message for a handle that takes it joins those that wait.
pub step-message : (L : Ledger) (h addr : ℕ) (bytes : List ℕ) → user_holds L h ≡ true →
    passes refuses_message (slice_get L.world h) ≡ false →
    step L (FeedMessage h addr bytes) ≡ (with_handle L h (with_message addr bytes), Fed)
unfolding step
step-message L h addr bytes user takes =
    ap (λ why. answered why L (FeedMessage h addr bytes)) (cause-message L h addr bytes false user takes)

-- The end of a handle is marked where the handle takes it.
pub step-end : (L : Ledger) (h : ℕ) → user_holds L h ≡ true → passes refuses_end (slice_get L.world h) ≡ false →
    step L (End h) ≡ (with_handle L h with_end, Ended)
unfolding step
step-end L h user takes = ap (λ why. answered why L (End h)) (cause-end L h false user takes)

-- A look at a handle that the user holds answers what it shows and changes nothing.
pub step-look : (L : Ledger) (h : ℕ) → user_holds L h ≡ true → step L (Look h) ≡ (L, look_reply (look_at L.world h))
unfolding step
step-look L h user = ap (λ b. answered (refused_if (not b || false) NoHandle None) L (Look h)) user

-- The close of a handle that the user holds: the user holds it no more.
pub step-close : (L : Ledger) (h : ℕ) → user_holds L h ≡ true → step L (Close h) ≡ (close_step L h, Released)
unfolding step
step-close L h user = ap (λ b. answered (refused_if (not b || false) NoHandle None) L (Close h)) user

-- An execution is refused by what is in flight, by whether what is at the place waits, and by the outcome.
abbrev exec-cause : Bool → Bool → Bool → Option Refusal
exec-cause past waiting allows = refused_if past NotFlying (refused_if waiting Waiting (refused_if (not allows) BadOutcome None))

-- The cause of an execution at a place where something is in flight.
cause-exec : (L : Ledger) (place : ℕ) (told : Told) (item : Item) (waiting allows : Bool) → slice_get L.flying place ≡ Some item →
    waits L item ≡ waiting → allowed L item told ≡ allows → cause L (Exec place told) ≡ exec-cause false waiting allows
cause-exec L place told item waiting allows there awaits is =
    ap (λ b. exec-cause b (passes (waits L) (slice_get L.flying place)) (passes (λ x. allowed L x told) (slice_get L.flying place)))
    (lt-leb (length L.flying) place (slice_get_within L.flying place item there))
    ∙ ap (λ x. exec-cause false (passes (waits L) x) (passes (λ y. allowed L y told) x)) there
    ∙ ap (λ b. exec-cause false b (allowed L item told)) awaits ∙ ap (exec-cause false waiting) is

-- An execution of what waits is refused.
pub cause-waiting : (L : Ledger) (place : ℕ) (told : Told) (item : Item) → slice_get L.flying place ≡ Some item → waits L item ≡ true →
    cause L (Exec place told) ≡ Some Waiting
cause-waiting L place told item there awaits = cause-exec L place told item true (allowed L item told) there awaits refl

-- An execution of an allowed outcome is not refused, where what is at the place doesn't wait.
pub unrefused-exec : (L : Ledger) (place : ℕ) (told : Told) (item : Item) → slice_get L.flying place ≡ Some item →
    waits L item ≡ false → allowed L item told ≡ true → cause L (Exec place told) ≡ None
unrefused-exec L place told item there free allows = cause-exec L place told item false true there free allows

-- It is that of the item.
pub step-exec : (L : Ledger) (place : ℕ) (told : Told) (item : Item) → slice_get L.flying place ≡ Some item →
    waits L item ≡ false → allowed L item told ≡ true → step L (Exec place told) ≡ exec_step L place told (Some item)
unfolding step
step-exec L place told item there free allows =
    ap (λ why. answered why L (Exec place told)) (unrefused-exec L place told item there free allows)
    ∙ ap (exec_step L place told) there

-- An execution of an outcome that isn't allowed is refused.
pub cause-outcome : (L : Ledger) (place : ℕ) (told : Told) (item : Item) → slice_get L.flying place ≡ Some item →
    waits L item ≡ false → allowed L item told ≡ false → cause L (Exec place told) ≡ Some BadOutcome
cause-outcome L place told item there free forbids = cause-exec L place told item false false there free forbids

-- An outcome is allowed to an operation in flight as it is to its call.
pub allowed-op : (L : Ledger) (n : ℕ) (told : Told) (o : Operation) → slice_get L.ops n ≡ Some o →
    allowed L (Op n) told ≡ is_allowed L.world o.canceled (call_of o.request) told
allowed-op L n told o which = ap (passes (λ operation. is_allowed L.world operation.canceled (call_of operation.request) told)) which

-- An execution past what is in flight is refused.
pub cause-flying : (L : Ledger) (place : ℕ) (told : Told) → length L.flying ≤ place → cause L (Exec place told) ≡ Some NotFlying
cause-flying L place told h =
    ap (λ b. exec-cause b (passes (waits L) (slice_get L.flying place)) (passes (λ item. allowed L item told) (slice_get L.flying place)))
    (le-leb (length L.flying) place h)
