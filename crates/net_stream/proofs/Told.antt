-- Over an object that tells its handles no byte is lost, repeated or moved.
use Rattle.std.proofs.Common.{ℕ, zero, suc, ◌≡◌, ◌∙◌, ap, sym, refl, subst, Bool, IsTrue, true, false, List, [], ◌++◌, take, drop, Option}
use Rattle.std.proofs.Common.{Some, None, Ok, Err, inl, inr}
use Rattle.std.specs.Prelude.{Result, option_map, unwrap_or, slice_get}
use Rattle.std.specs.FinMap as map
use Rattle.std.proofs.lemmas.List.{append-nil, append_assoc, take-append-drop}
use Rattle.rent_buf.specs.Buffer.{Buffer}
use Rattle.rent_buf.specs.Held.{HeldBuf}
use Rattle.rent_buf.specs.declared.held.Held.TheVariants.{One}
use Rattle.rent_buf.specs.Parts.{Parts}
use Rattle.rent_buf.specs.Rent.{Rented, buffer_of_rent}
use Rattle.rent_buf.specs.declared.fault.OutOfMemory.{OutOfMemory as NoMemory}
use Rattle.machine.specs.declared.request.Outcome.{Outcome}
use Rattle.machine.specs.declared.request.Told.{Told}
use Rattle.machine.specs.declared.request.Told.TheVariants as told
use Rattle.machine.specs.declared.request.Request.{Request}
use Rattle.machine.specs.declared.request.Request.TheVariants.{Recv}
use Rattle.machine.specs.declared.world.HandleState.{HandleState}
use Rattle.machine.specs.Effect.{made_by, without_front}
use Rattle.machine.specs.Lists.{amended}
use Rattle.machine.specs.Request.{held, held_of, plain_request}
use Rattle.machine.specs.WorldCall.{call_effect}
use Rattle.machine.specs.World.{input_at}
use Rattle.machine.proofs.Amended.{get-amended}
use Rattle.driver_core.specs.declared.op.Done.{Done as Ended}
use Rattle.driver_core.specs.declared.op.Op.{Op}
use Rattle.driver_core.specs.declared.op.PollOp.TheVariants.{Pending, Ready}
use Rattle.driver_core.specs.declared.operations.calls.CallAnswer.{CallAnswer}
use Rattle.driver_core.specs.declared.operations.calls.CallAnswer.TheVariants.{Done, WouldBlock, OutOfMemory}
use Rattle.driver_core.specs.declared.slot.Slot.{Slot}
use Rattle.driver_core.specs.Operations.{new_slot}
use Rattle.driver_core.specs.Ops.{Ops}
use Rattle.driver_core.proofs.Maps.{put-same}
use Rattle.driver_core.specs.Requests.{request_at, request_in as asked_in}
use Rattle.handle_core.specs.Table.{Table}
use Rattle.ready_driver.specs.Awaits.{is_met_at, slot_awaits, unless}
use Rattle.ready_driver.specs.Calling.{Called, CallsOnce, request_in}
use Rattle.ready_driver.specs.Io.{IoView, CallsFor, IsMoved}
use Rattle.ready_driver.specs.LegacyPolls.{EndsFor as PollEndsFor, EndsOp, HandsOver, outcome_by, outcome_for}
use Rattle.ready_driver.specs.LegacyState.{LegacyState, ops_in}
use Rattle.ready_driver.specs.Named.{IsOnlyCanceled}
use Rattle.ready_driver.proofs.Naming.{completed-only}
use Rattle.driver_core.specs.declared.op.SubmitError.{SubmitError}
use Rattle.driver_core.specs.declared.op.SubmitFault.{SubmitFault}
use Rattle.op_driver.specs.Legacy.{LegacyPolls, LegacySubmits}
use Rattle.net_stream.specs.declared.progress.Progress.{Progress}
use Rattle.net_stream.specs.declared.progress.Progress.TheVariants.{Idle, Waits as StillWaits, Moved}
use Rattle.net_stream.specs.declared.connection.Connection.{Connection}
use Rattle.net_stream.specs.declared.incoming.Polled.{Polled}
use Rattle.net_stream.specs.declared.incoming.Polled.TheVariants.{Waits, Ended as HasEnded, OutOfMemory as NoRoom}
use Rattle.net_stream.specs.Drives.{FitsOp, IfAsked, IsRecv}
use Rattle.net_stream.specs.Connection.{HasReceive, LeavesReceive, ReceivesFor, Settles}
use Rattle.net_stream.specs.Inbox.{Inboxed, came}
use Rattle.net_stream.specs.Incoming.{Coming, GivesIf, PollsReceive, came_in, unread}
use Rattle.net_stream.specs.Told.{IsTaken, unread_in, waiting_at, world_of}
use Rattle.net_stream.proofs.Requests.{recv_is}

-- What a driver's object says of its calls.
abbrev pub Lawful : {I : Type 0} → (I → IoView) → Bool → Bool → Called I → Type 0
Lawful {I} view tells memory called = (old : I) (request : Request Buffer Parts) (new : I) (now : Request Buffer Parts)
    (answer : CallAnswer)
    → called old request new now answer → CallsFor tells memory (view old) request (view new) now answer

-- The operation that waits, if one does, is a receive from a handle.
abbrev AsksRecv : Ops Rented → Option Op → ℕ → Type 0
AsksRecv ops None fd = Unit {0}
AsksRecv ops (Some op) fd = IfAsked (request_at ops op) (IsRecv fd)

-- The operation of one that fits is a receive.
fits_asks : (ops : Ops Rented) (op : Option Op) (fd : ℕ) → FitsOp ops op (IsRecv fd) → AsksRecv ops op fd
fits_asks ops None fd fits = tt
fits_asks ops (Some op) fd fits = fits.1

-- The operation that waits, if one does, has ended before its last poll only by its cancel.
abbrev pub EndsByCancel : Ops Rented → Option Op → Type 0
EndsByCancel ops None = Unit {0}
EndsByCancel ops (Some op) = IsOnlyCanceled (map.get ops.slots.values op.key)

-- So it is where it is of every operation.
pub all_by_cancel : (ops : Ops Rented) (op : Option Op) → ((key : ℕ) → IsOnlyCanceled (map.get ops.slots.values key)) → EndsByCancel ops op
all_by_cancel ops None all = tt
all_by_cancel ops (Some op) all = all op.key

-- A new operation hasn't ended.
pub new_by_cancel : (old new : Ops Rented) (request : Request Rented Parts) (op : Op)
    → new.slots.values ≡ map.insert old.slots.values op.key (new_slot old request) → EndsByCancel new (Some op)
new_by_cancel old new request op slots =
    subst IsOnlyCanceled (sym (ap (λ m. map.get m op.key) slots ∙ put-same old.slots.values op.key (new_slot old request))) tt

-- A new operation has its request.
pub new_asks : (old new : Ops Rented) (request : Request Rented Parts) (op : Op)
    → new.slots.values ≡ map.insert old.slots.values op.key (new_slot old request) → request_at new op ≡ Some request
new_asks old new request op slots =
    ap asked_in (ap (λ m. map.get m op.key) slots ∙ put-same old.slots.values op.key (new_slot old request))

-- The two ways to look up a request agree.
pub same_asked : (slot : Option (Slot Rented)) → asked_in slot ≡ request_in slot
same_asked None = refl
same_asked (Some slot) = refl

-- Once the first bytes of its input left, a handle has the rest.
input_rest : (k : ℕ) (found : Option HandleState)
    → unwrap_or (option_map (λ handle. handle.input) (option_map (without_front k) found)) []
    ≡ drop k (unwrap_or (option_map (λ handle. handle.input) found) [])
input_rest zero None = refl
input_rest (suc k) None = refl
input_rest k (Some handle) = refl

-- The same of a handle of a world.
pub input_left : (k h : ℕ) (world : List HandleState) → input_at (amended world h (without_front k)) h ≡ drop k (input_at world h)
input_left k h world =
    ap (λ found. unwrap_or (option_map (λ handle. handle.input) found) []) (get-amended (without_front k) world h)
    ∙ input_rest k (slice_get world h)

-- The bytes of what is held in one buffer.
abbrev pub held_bytes : HeldBuf → List ℕ
held_bytes (One buf) = buf.bytes
held_bytes _ = []

-- What a receive's call brought came from the front of the input.
recv_told : (told : Told) (old new : List HandleState) (fd : ℕ) (from buf : Rented) (outcome : Outcome)
    → outcome ≡ (call_effect old (Recv fd (buffer_of_rent from)) told).outcome
    → new ≡ (call_effect old (Recv fd (buffer_of_rent from)) told).world
    → held_of (plain_request buffer_of_rent (Recv fd buf))
    ≡ held (Recv fd (buffer_of_rent from)) told (call_effect old (Recv fd (buffer_of_rent from)) told).got
    → (came outcome buf.bytes ++ input_at new fd ≡ input_at old fd) × (made_by outcome ≡ None) × IsTaken old fd new
recv_told (told.Count k) old new fd from buf outcome out world holds = (
  ap (λ o. came o buf.bytes ++ input_at new fd) out
      ∙ (ap (λ bs. bs ++ input_at new fd) (ap held_bytes holds)
      ∙ (ap (λ w. take k (input_at old fd) ++ input_at w fd) world
      ∙ (ap (λ rest. take k (input_at old fd) ++ rest) (input_left k fd old) ∙ take-append-drop k (input_at old fd)))),
  ap made_by out,
  inr (k, world),
)
recv_told (told.Fail e) old new fd from buf outcome out world holds =
    (ap (λ o. came o buf.bytes ++ input_at new fd) out ∙ ap (λ w. input_at w fd) world, ap made_by out, inl world)

-- The outcome that a poll returns is that of the call, where this made no handle.
pub same_outcome : (table : Table) (outcome : Outcome) → made_by outcome ≡ None → outcome_for table outcome ≡ outcome
same_outcome table outcome none = ap (outcome_by table outcome) none

-- What came was given to the inbox, or is kept: together they are what they were.
given_unread : (ended : Option (Outcome × Rented)) (before : Coming) (inbox : Inboxed) (now : Coming) (later : Inboxed) (given : Bool)
    → before.ended ≡ ended → GivesIf ended before inbox now later given → unread later now ≡ unread inbox before
given_unread ended before inbox now later false is gives = ap (λ c. unread later c) gives.0 ∙ ap (λ b. unread b before) gives.1
given_unread None before inbox now later true is gives = absurd gives
given_unread (Some ended) before inbox now later true is gives =
    ap (λ c. unread later c) gives.1
    ∙ (ap (λ b. b.arrived ++ []) gives.2
    ∙ (append-nil (came ended.0 ended.1.bytes)
    ∙ (ap (λ e. came_in e) (sym is) ∙ ap (λ bs. bs ++ came_in before.ended) (sym gives.0.0))))

-- So it is after what a call left.
settled_unread : (coming : Coming) (inbox : Inboxed) (now : Connection) (result : Result Progress SubmitFault)
    → Settles coming inbox now result → unread_in now ≡ unread inbox coming
settled_unread coming inbox now (Ok Idle) settles =
    given_unread coming.ended coming inbox now.incoming now.inbox false refl settles
settled_unread coming inbox now (Ok StillWaits) settles = absurd settles
settled_unread coming inbox now (Ok Moved) settles =
    given_unread coming.ended coming inbox now.incoming now.inbox true refl settles
settled_unread coming inbox now (Err why) settles = absurd settles

-- What came behind the bytes that arrived, and what still waits.
kept_came : (arrived : List ℕ) (after before : Coming) (waiting waited : List ℕ) → before.ended ≡ None
    → came_in after.ended ++ waiting ≡ waited
    → (arrived ++ came_in after.ended) ++ waiting ≡ (arrived ++ came_in before.ended) ++ waited
kept_came arrived after before waiting waited none came =
    append_assoc arrived (came_in after.ended) waiting
    ∙ (ap (λ bs. arrived ++ bs) came
    ∙ ap (λ bs. bs ++ waited) (sym (append-nil arrived) ∙ ap (λ e. arrived ++ came_in e) (sym none)))

module _ {I : Type 0} (view : I → IoView) (tells memory : Bool) (files : I → ℕ → Bool) (called : Called I)
    (law : Lawful view tells memory called) where
  -- What a receive's call brought: one that was canceled made none.
  call_came : (b : Bool) (slot new : Option (Slot Rented)) (before after : I) (fd : ℕ) (buf : Rented) (request : Request Rented Parts)
      (outcome : Outcome) → IsTrue tells
      → IsOnlyCanceled slot → IfAsked (request_in slot) (IsRecv fd) → request ≡ Recv fd buf
      → CallsOnce b buffer_of_rent called slot before new after (Ok (Ready (record { outcome = outcome; request = request })))
      → (came outcome buf.bytes ++ input_at (view after).world fd ≡ input_at (view before).world fd) × (made_by outcome ≡ None)
      × IsTaken (view before).world fd (view after).world
  call_came false slot new before after fd buf request outcome t only asks is calls = absurd calls
  call_came true slot new before after fd buf request outcome t only asks is (inl none) =
      let out = completed-only slot outcome only none.1 in (
        ap (λ o. came o buf.bytes ++ input_at (view after).world fd) out ∙ ap (λ io. input_at (view io).world fd) none.0,
        ap made_by out,
        inl (ap (λ io. (view io).world) none.0),
      )
  call_came true slot new before after fd buf request outcome t only asks is (inr made) =
      let from = recv_is fd made.request (subst (λ o. IfAsked o (IsRecv fd)) made.asked asks) in
      let does = law before (plain_request buffer_of_rent made.request) after (plain_request buffer_of_rent request)
      (Done outcome) made.calls in
      let moved : IsMoved (view before).world (Recv fd (buffer_of_rent from.buf)) (view after).world (Recv fd
      (buffer_of_rent buf)) outcome =
      subst (λ now. IsMoved (view before).world (Recv fd (buffer_of_rent from.buf)) (view after).world
      (plain_request buffer_of_rent now) outcome) is
      (subst (λ asked. IsMoved (view before).world (plain_request buffer_of_rent asked) (view after).world
      (plain_request buffer_of_rent request) outcome)
      from.request_is (does.moved t)) in
      recv_told moved.told (view before).world (view after).world fd from.buf buf outcome moved.outcome_is moved.world moved.holds.holds

  -- A poll that returned a receive: what came is what left the input.
  pub ended_came : (old new : LegacyState I Rented) (op : Op) (task fd : ℕ) (done : Ended Rented) (buf : Rented) → IsTrue tells
      → EndsOp files buffer_of_rent called view tells memory old new op task done → EndsByCancel (ops_in old) (Some op)
      → IfAsked (request_at (ops_in old) op) (IsRecv fd) → done.request ≡ Recv fd buf
      → (came done.outcome buf.bytes ++ waiting_at view new fd ≡ waiting_at view old fd)
      × IsTaken (world_of view old) fd (world_of view new)
  ended_came old new op task fd done buf t ends only asks is =
      let moved = call_came (is_met_at old.handling.records (unless (files old.handling.io) (slot_awaits
      (map.get old.slots.values op.key))))
      (map.get old.slots.values op.key) (map.get new.slots.values op.key) old.handling.io ends.mid.io fd buf done.request ends.call t
      only
      (subst (λ o. IfAsked o (IsRecv fd)) (same_asked (map.get old.slots.values op.key)) asks) is ends.calls in
      let out : done.outcome ≡ ends.call = ends.outcome ∙ same_outcome ends.mid.table ends.call moved.1 in
      let unmade : made_by done.outcome ≡ None = ap made_by out ∙ moved.1 in
      let handed : ends.handed ≡ ends.mid = subst (λ m. HandsOver view tells memory ends.mid m ends.handed) unmade ends.hands in
      let world : (view new.handling.io).world ≡ (view ends.mid.io).world = ends.lets.object.world t
      ∙ ap (λ h. (view h.io).world) handed in (
        ap (λ o. came o buf.bytes ++ waiting_at view new fd) out
            ∙ (ap (λ w. came ends.call buf.bytes ++ input_at w fd) world ∙ moved.0),
        subst (λ w. IsTaken (world_of view old) fd w) (sym world) moved.2,
      )

  -- A poll that returned none: no handle has changed.
  pub stayed_world : (old new : LegacyState I Rented) (op back : Op) (task : ℕ) → IsTrue tells
      → PollEndsFor files buffer_of_rent called view tells memory old new op task (Ok (Pending back))
      → world_of view new ≡ world_of view old
  stayed_world old new op back task t ends = by-call (is_met_at old.handling.records (unless (files old.handling.io) (slot_awaits
      (map.get old.slots.values op.key)))) ends.2
    where
      by-call : (b : Bool) → CallsOnce b buffer_of_rent called (map.get old.slots.values op.key) old.handling.io
          (map.get new.slots.values op.key)
          new.handling.io (Ok (Pending back)) → world_of view new ≡ world_of view old
      by-call false calls = ap (λ io. (view io).world) calls.object
      by-call true calls = (law old.handling.io (plain_request buffer_of_rent calls.made.request) new.handling.io
          (plain_request buffer_of_rent calls.now) WouldBlock calls.made.calls).0.world t

  -- Nor has one where memory was wanting.
  pub starved_world : (old new : LegacyState I Rented) (op : Op) (error : NoMemory × Op) (task : ℕ) → IsTrue tells
      → PollEndsFor files buffer_of_rent called view tells memory old new op task (Err error) → world_of view new ≡ world_of view old
  starved_world old new op error task t ends = by-call (is_met_at old.handling.records (unless (files old.handling.io) (slot_awaits
      (map.get old.slots.values op.key)))) ends.2
    where
      by-call : (b : Bool) → CallsOnce b buffer_of_rent called (map.get old.slots.values op.key) old.handling.io
          (map.get new.slots.values op.key)
          new.handling.io (Err error) → world_of view new ≡ world_of view old
      by-call false calls = ap (λ io. (view io).world) calls.object
      by-call true (inl none) = ap (λ io. (view io).world) none.object
      by-call true (inr calls) = (law old.handling.io (plain_request buffer_of_rent calls.made.request) new.handling.io
          (plain_request buffer_of_rent calls.now) OutOfMemory calls.made.calls).0.world t

  -- A submission leaves the handles.
  pub begun_world : (old new : LegacyState I Rented) (request : Request Rented Parts) (op : Op) → IsTrue tells
      → LegacySubmits view tells memory old new request (Ok op) → world_of view new ≡ world_of view old
  begun_world old new request op t joins = ap (λ h. (view h.io).world) joins.handling ∙ joins.ready.object.world t

  -- So does one that was refused.
  pub refused_world : (old new : LegacyState I Rented) (request : Request Rented Parts) (refused : SubmitError Rented) → IsTrue tells
      → LegacySubmits view tells memory old new request (Err refused) → world_of view new ≡ world_of view old
  refused_world old new request refused t refuses = refuses.handles.made.object.world t

  -- A poll of the receive that waits: what came is what left the input.
  polled_came : (old new : LegacyState I Rented) (fd task : ℕ) (before now : Coming) (came_to : Polled) → IsTrue tells
      → PollsReceive (LegacyPolls files buffer_of_rent called view tells memory) old new fd before now task came_to → before.ended ≡ None
      → EndsByCancel (ops_in old) before.op → AsksRecv (ops_in old) before.op fd
      → (came_in now.ended ++ waiting_at view new fd ≡ waiting_at view old fd) × IsTaken (world_of view old) fd (world_of view new)
  polled_came old new fd task before now Waits t polls none only fits =
      let world = stayed_world old new polls.op polls.op task t polls.polled.ends in (
        ap (λ coming. came_in coming.ended ++ waiting_at view new fd) polls.same
            ∙ (ap (λ ended. came_in ended ++ waiting_at view new fd) none ∙ ap (λ w. input_at w fd) world),
        inl world,
      )
  polled_came old new fd task before now HasEnded t polls none only fits =
      let ended = ended_came old new polls.op task fd polls.done polls.buf t polls.polled.ends
      (subst (EndsByCancel (ops_in old)) polls.waited only) (subst (λ o. AsksRecv (ops_in old) o fd) polls.waited fits) polls.request in
      (ap (λ coming. came_in coming.ended ++ waiting_at view new fd) polls.now_is ∙ ended.0, ended.1)
  polled_came old new fd task before now NoRoom t polls none only fits =
      let world = starved_world old new polls.1.op (polls.0, polls.1.op) task t polls.1.polled.ends in (
        ap (λ coming. came_in coming.ended ++ waiting_at view new fd) polls.1.same
            ∙ (ap (λ ended. came_in ended ++ waiting_at view new fd) none ∙ ap (λ w. input_at w fd) world),
        inl world,
      )

  -- The receive that waits before the poll: nothing has ended here, no handle has changed, only a cancel ended it, and it is one.
  record Waiting (old mid : LegacyState I Rented) (fd : ℕ) (between : Coming) : Type 0 where
    none : between.ended ≡ None
    world : world_of view mid ≡ world_of view old
    only : EndsByCancel (ops_in mid) between.op
    asks : AsksRecv (ops_in mid) between.op fd

  has_waiting : (old mid : LegacyState I Rented) (before : Connection) (between : Coming) (waited : Option Op) → before.incoming.op ≡ waited
      → IsTrue tells → HasReceive (LegacySubmits view tells memory) old mid before between waited → before.incoming.ended ≡ None
      → EndsByCancel (ops_in old) before.incoming.op → FitsOp (ops_in old) before.incoming.op (IsRecv before.fd)
      → Waiting old mid before.fd between
  has_waiting old mid before between (Some op) is t has none only fits = record {
    none = ap (λ c. c.ended) has.1 ∙ none;
    world = ap (world_of view) has.0;
    only = subst (λ c. EndsByCancel (ops_in mid) c.op) (sym has.1) (subst (λ d. EndsByCancel (ops_in d) before.incoming.op)
        (sym has.0) only);
    asks = subst (λ c. AsksRecv (ops_in mid) c.op before.fd) (sym has.1)
        (subst (λ d. AsksRecv (ops_in d) before.incoming.op before.fd) (sym has.0) (fits_asks
        (ops_in old) before.incoming.op before.fd fits));
  }
  has_waiting old mid before between None is t has none only fits =
      let begun = has.1 in
      record {
        none = ap (λ c. c.ended) begun.now_is;
        world = begun_world old mid begun.request begun.op t begun.submitted;
        only = subst (λ c. EndsByCancel (ops_in mid) c.op) (sym begun.now_is)
            (new_by_cancel (ops_in old) (ops_in mid) begun.request begun.op begun.submitted.slots);
        asks = subst (λ c. AsksRecv (ops_in mid) c.op before.fd) (sym begun.now_is)
            (subst (λ o. IfAsked o (IsRecv before.fd)) (sym (new_asks (ops_in old) (ops_in mid) begun.request begun.op begun.submitted.slots
            ∙ ap Some begun.asks.request_is)) refl);
      }

  -- Where a receive is left waiting, what came and wasn't read is what it was.
  left_came : (came_to : Polled) (old new : LegacyState I Rented) (before now : Connection) (after : Coming)
      (result : Result Progress SubmitFault)
      → before.incoming.ended ≡ None → LeavesReceive came_to after before now result
      → came_in after.ended ++ waiting_at view new before.fd ≡ waiting_at view old before.fd
      → unread_in now ++ waiting_at view new before.fd ≡ unread_in before ++ waiting_at view old before.fd
  left_came Waits old new before now after result none leaves came =
      ap (λ c. unread_in c ++ waiting_at view new before.fd) leaves.1 ∙ kept_came before.inbox.arrived after before.incoming
      (waiting_at view new before.fd) (waiting_at view old before.fd) none came
  left_came HasEnded old new before now after result none leaves came =
      ap (λ bs. bs ++ waiting_at view new before.fd) (settled_unread after before.inbox now result leaves)
      ∙ kept_came before.inbox.arrived after before.incoming (waiting_at view new before.fd) (waiting_at view old before.fd) none came
  left_came NoRoom old new before now after result none leaves came =
      ap (λ c. unread_in c ++ waiting_at view new before.fd) leaves.1 ∙ kept_came before.inbox.arrived after before.incoming
      (waiting_at view new before.fd) (waiting_at view old before.fd) none came

  -- A receive loses no byte, and moves none but to what came. Of the handles only its own has changed, by what was taken.
  pub receives_came : (old new : LegacyState I Rented) (task : ℕ) (before now : Connection) (result : Result Progress SubmitFault)
      → ReceivesFor (LegacySubmits view tells memory) (LegacyPolls files buffer_of_rent called view tells memory) old new before now task
      result
      → EndsByCancel (ops_in old) before.incoming.op → FitsOp (ops_in old) before.incoming.op (IsRecv before.fd) → IsTrue tells
      → (unread_in now ++ waiting_at view new before.fd ≡ unread_in before ++ waiting_at view old before.fd)
      × IsTaken (world_of view old) before.fd (world_of view new)
  receives_came old new task before now result (inl r) only fits t =
      let w = has_waiting old r.mid before r.between before.incoming.op refl t r.has r.none only fits in
      let polled = polled_came r.mid new before.fd task r.between r.after r.came_to t r.polls_it w.none w.only w.asks in (
        left_came r.came_to r.mid new before now r.after result r.none r.leaves polled.0
            ∙ ap (λ ws. unread_in before ++ input_at ws before.fd) w.world,
        subst (λ ws. IsTaken ws before.fd (world_of view new)) w.world polled.1,
      )
  receives_came old new task before now result (inr (inl r)) only fits t = (
    ap (λ bs. bs ++ waiting_at view new before.fd) (settled_unread before.incoming before.inbox now result r.2)
        ∙ ap (λ d. unread_in before ++ waiting_at view d before.fd) r.0,
    inl (ap (world_of view) r.0),
  )
  receives_came old new task before now result (inr (inr (inl r))) only fits t = (
    ap (λ c. unread_in c ++ waiting_at view new before.fd) r.1 ∙ ap (λ d. unread_in before ++ waiting_at view d before.fd) r.0,
    inl (ap (world_of view) r.0),
  )
  receives_came old new task before now result (inr (inr (inr r))) only fits t =
      let world = refused_world old new r.3.request r.3.refused t r.3.submitted in (
        ap (λ c. unread_in c ++ waiting_at view new before.fd) r.4
            ∙ ap (λ ws. unread_in before ++ input_at ws before.fd) world,
        inl world,
      )
