-- Over an object that tells its handles what was written is what was sent, and then what is unsent.
use Rattle.std.proofs.Common.{ℕ, ◌≡◌, ◌∙◌, ◌≤◌, ap, sym, refl, subst, arith, Bool, IsTrue, true, false, List, [], ◌∷◌, ◌++◌, length, take}
use Rattle.std.proofs.Common.{drop, Option, Some, None, Ok, Err, inl, inr}
use Rattle.std.specs.Prelude.{Result, option_map, unwrap_or}
use Rattle.std.specs.FinMap as map
use Rattle.std.proofs.lemmas.List.{append_assoc, drop_min, length-take, take-take, take-append-drop}
use Rattle.rent_buf.specs.Parts.{Parts}
use Rattle.rent_buf.specs.Rent.{Rented, buffer_of_rent}
use Rattle.rent_buf.specs.declared.fault.IoFault.{IoFault}
use Rattle.rent_buf.specs.declared.fault.OutOfMemory.{OutOfMemory as NoMemory}
use Rattle.machine.specs.declared.request.Outcome.{Outcome}
use Rattle.machine.specs.declared.request.Told.{Told}
use Rattle.machine.specs.declared.request.Told.TheVariants as told
use Rattle.machine.specs.declared.request.Request.{Request}
use Rattle.machine.specs.declared.request.Request.TheVariants.{Send}
use Rattle.machine.specs.declared.request.TheConstants.{MOST_ASKED}
use Rattle.machine.specs.declared.world.HandleKind.TheVariants.{Stream}
use Rattle.machine.specs.declared.world.HandleState.{HandleState}
use Rattle.machine.specs.Effect.{made_by, sent_to_kind, with_sent}
use Rattle.machine.specs.Lists.{amended}
use Rattle.machine.specs.Request.{plain_request, sent_of}
use Rattle.machine.specs.WorldCall.{call_effect}
use Rattle.machine.proofs.Amended.{get-amended}
use Rattle.driver_core.specs.declared.op.Done.{Done as Ended}
use Rattle.driver_core.specs.declared.op.Op.{Op}
use Rattle.driver_core.specs.declared.op.PollOp.{PollOp}
use Rattle.driver_core.specs.declared.op.PollOp.TheVariants.{Pending, Ready}
use Rattle.driver_core.specs.declared.op.SubmitFault.{SubmitFault}
use Rattle.driver_core.specs.declared.operations.calls.CallAnswer.TheVariants.{Done}
use Rattle.driver_core.specs.declared.slot.Slot.{Slot}
use Rattle.driver_core.specs.Ops.{Ops}
use Rattle.driver_core.specs.Requests.{request_at}
use Rattle.ready_driver.specs.Awaits.{is_met_at, slot_awaits, unless}
use Rattle.ready_driver.specs.Calling.{Called, CallsOnce, request_in}
use Rattle.ready_driver.specs.Io.{EndsFor as CallEndsFor, IoView, IsMoved}
use Rattle.ready_driver.specs.LegacyPolls.{EndsFor as PollEndsFor, EndsOp, HandsOver}
use Rattle.ready_driver.specs.LegacyState.{LegacyState, ops_in}
use Rattle.ready_driver.specs.Named.{IsOnlyCanceled}
use Rattle.ready_driver.proofs.Naming.{completed-only}
use Rattle.op_driver.specs.Legacy.{LegacyPolls, LegacySubmits}
use Rattle.op_driver.specs.Returned.{IsBackOf, PollsRequest}
use Rattle.op_driver.proofs.Returned.{legacy_back_of}
use Rattle.net_stream.specs.declared.progress.Progress.{Progress}
use Rattle.net_stream.specs.Drives.{FitsOp, IfAsked, IsSend}
use Rattle.net_stream.specs.declared.connection.Connection.{Connection}
use Rattle.net_stream.specs.declared.incoming.Polled.{Polled}
use Rattle.net_stream.specs.declared.incoming.Polled.TheVariants.{Waits, Ended as HasEnded, OutOfMemory as NoRoom}
use Rattle.net_stream.specs.Connection.{HasSendOp, LeavesSend, Prepares, SendsFor}
use Rattle.net_stream.specs.Outbox.{Outboxed}
use Rattle.net_stream.specs.Outgoing.{Going, PollsSend, SentOutIf, has_bytes, sent_by}
use Rattle.net_stream.specs.Told.{IsSentTo, IsStream, bytes_sent, in_flight, output_at, sent_at, unsent_in, world_of}
use Rattle.net_stream.proofs.Requests.{send_itself, send_stays}
use Rattle.net_stream.proofs.Told.{EndsByCancel, Lawful, begun_world, new_asks, new_by_cancel, refused_world, same_asked, same_outcome}
use Rattle.net_stream.proofs.Told.{starved_world, stayed_world}

-- The first bytes of what a send offers are the first of its buffer.
offered_front : (k most total : ℕ) (bytes : List ℕ) → k ≤ length (take most (take total bytes))
    → take k (take most (take total bytes)) ≡ take k bytes
offered_front k most total bytes within =
    let outer = length-take most (take total bytes) in
    let inner = length-take total bytes in
    take-take k most (take total bytes) (omega (arith, within, outer))
    ∙ take-take k total bytes (omega (arith, within, outer, inner))

-- Bytes that are sent to a stream join its output.
output_joined : (bytes : List ℕ) (handle : HandleState) → handle.kind ≡ Stream
    → (with_sent bytes handle).output ≡ handle.output ++ bytes
output_joined bytes handle kind = ap (λ k. (sent_to_kind k bytes handle).output) kind

-- The same of a handle of a world.
pub output_after : (bytes : List ℕ) (h : ℕ) (world : List HandleState) → IsStream world h
    → output_at (amended world h (with_sent bytes)) h ≡ output_at world h ++ bytes
output_after bytes h world stream =
    ap (λ found. unwrap_or (option_map (λ handle. handle.output) found) [])
    (get-amended (with_sent bytes) world h ∙ ap (option_map (with_sent bytes)) stream.there)
    ∙ (output_joined bytes stream.handle stream.kind
    ∙ ap (λ found. unwrap_or (option_map (λ handle. handle.output) found) [] ++ bytes) (sym stream.there))

-- What a send's call took of its buffer joined the output of a stream.
send_told : (told : Told) (old new : List HandleState) (fd : ℕ) (buf : Rented) (outcome : Outcome)
    → outcome ≡ (call_effect old (Send fd (buffer_of_rent buf)) told).outcome
    → new ≡ (call_effect old (Send fd (buffer_of_rent buf)) told).world
    → CallEndsFor (Send fd (buffer_of_rent buf)) (Send fd (buffer_of_rent buf)) outcome
    → (IsStream old fd → output_at new fd ++ drop (sent_by outcome) buf.bytes ≡ output_at old fd ++ buf.bytes)
    × (made_by outcome ≡ None) × IsSentTo old fd new
send_told (told.Count k) old new fd buf outcome out world ends =
    let counts = subst (CallEndsFor (Send fd (buffer_of_rent buf)) (Send fd (buffer_of_rent buf))) out ends in
    let front : take k (sent_of (Send fd (buffer_of_rent buf))) ≡ take k buf.bytes = offered_front k MOST_ASKED buf.total buf.bytes
    counts.0 in (
      λ stream. ap (λ o. output_at new fd ++ drop (sent_by o) buf.bytes) out
          ∙ (ap (λ w. output_at w fd ++ drop k buf.bytes) world
          ∙ (ap (λ bs. bs ++ drop k buf.bytes) (output_after (take k (sent_of (Send fd (buffer_of_rent buf)))) fd old stream)
          ∙ (ap (λ bs. (output_at old fd ++ bs) ++ drop k buf.bytes) front
          ∙ (append_assoc (output_at old fd) (take k buf.bytes) (drop k buf.bytes)
          ∙ ap (λ bs. output_at old fd ++ bs) (take-append-drop k buf.bytes))))),
      ap made_by out,
      inr (take k (sent_of (Send fd (buffer_of_rent buf))), world),
    )
send_told (told.Fail e) old new fd buf outcome out world ends = (
  λ stream. ap (λ o. output_at new fd ++ drop (sent_by o) buf.bytes) out ∙ ap (λ w. output_at w fd ++ buf.bytes) world,
  ap made_by out,
  inl world,
)

-- The operation that waits, if one does, is a send to a handle.
abbrev AsksSend : Ops Rented → Option Op → ℕ → ℕ → Type 0
AsksSend ops None fd total = Unit {0}
AsksSend ops (Some op) fd total = IfAsked (request_at ops op) (IsSend fd total)

-- The operation of one that fits is a send.
fits_asks : (ops : Ops Rented) (op : Option Op) (fd total : ℕ) → FitsOp ops op (IsSend fd total) → AsksSend ops op fd total
fits_asks ops None fd total fits = tt
fits_asks ops (Some op) fd total fits = fits.1

-- The bytes of what goes, in front of more.
abbrev going_with : Ops Rented → Going → List ℕ → List ℕ
going_with ops going more = in_flight ops going.op ++ (going.unsent ++ more)

-- There are no bytes.
no_bytes : (bytes : List ℕ) → has_bytes bytes ≡ false → bytes ≡ []
no_bytes [] is = refl
no_bytes (byte ∷ bytes) is = absurd cc

-- What the next send is to have and the rest of the outbox are what these had.
prepared : (before : Connection) (going : Going) (outbox : Outboxed) → Prepares before going outbox
    → going.unsent ++ outbox.unsent ≡ before.outgoing.unsent ++ before.outbox.unsent
prepared before going outbox (inl same) =
    ap (λ g. g.unsent ++ outbox.unsent) same.1 ∙ ap (λ b. before.outgoing.unsent ++ b.unsent) same.2
prepared before going outbox (inr loads) =
    let all = before.outbox.unsent in
    let room = before.outgoing.room in
    ap (λ g. g.unsent ++ outbox.unsent) loads.2.taken
    ∙ (ap (λ bs. take room all ++ bs) (loads.2.left.unsent ∙ drop_min room all)
    ∙ (take-append-drop room all
    ∙ ap (λ bs. bs ++ all) (sym (no_bytes before.outgoing.unsent loads.0))))

-- No send waits by that.
prepared_op : (before : Connection) (going : Going) (outbox : Outboxed) → Prepares before going outbox → going.op ≡ before.outgoing.op
prepared_op before going outbox (inl same) = ap (λ g. g.op) same.1
prepared_op before going outbox (inr loads) = ap (λ g. g.op) loads.2.taken

module _ {I : Type 0} (view : I → IoView) (tells memory : Bool) (files : I → ℕ → Bool) (called : Called I)
    (law : Lawful view tells memory called) where
  -- What a send's call took: one that was canceled made none.
  call_went : (b : Bool) (slot new : Option (Slot Rented)) (before after : I) (fd : ℕ) (buf : Rented) (request : Request Rented Parts)
      (outcome : Outcome) → IsTrue tells → IsOnlyCanceled slot → request_in slot ≡ Some (Send fd buf) → request ≡ Send fd buf
      → CallsOnce b buffer_of_rent called slot before new after (Ok (Ready (record { outcome = outcome; request = request })))
      → (IsStream (view before).world fd
      → output_at (view after).world fd ++ drop (sent_by outcome) buf.bytes ≡ output_at (view before).world fd ++ buf.bytes)
      × (made_by outcome ≡ None) × IsSentTo (view before).world fd (view after).world
  call_went false slot new before after fd buf request outcome t only asks is calls = absurd calls
  call_went true slot new before after fd buf request outcome t only asks is (inl none) =
      let out = completed-only slot outcome only none.1 in (
        λ stream. ap (λ o. output_at (view after).world fd ++ drop (sent_by o) buf.bytes) out
            ∙ ap (λ io. output_at (view io).world fd ++ buf.bytes) none.0,
        ap made_by out,
        inl (ap (λ io. (view io).world) none.0),
      )
  call_went true slot new before after fd buf request outcome t only asks is (inr made) =
      let same : Some made.request ≡ Some (Send fd buf) = sym made.asked ∙ asks in
      let from : made.request ≡ Send fd buf = cc in
      let does = law before (plain_request buffer_of_rent made.request) after (plain_request buffer_of_rent request)
      (Done outcome) made.calls in
      let moved : IsMoved (view before).world (Send fd (buffer_of_rent buf)) (view after).world (Send fd (buffer_of_rent buf)) outcome =
      subst (λ now. IsMoved (view before).world (Send fd (buffer_of_rent buf)) (view after).world
      (plain_request buffer_of_rent now) outcome) is
      (subst (λ asked. IsMoved (view before).world (plain_request buffer_of_rent asked) (view after).world
      (plain_request buffer_of_rent request) outcome)
      from (does.moved t)) in
      let ends : CallEndsFor (Send fd (buffer_of_rent buf)) (Send fd (buffer_of_rent buf)) outcome =
      subst (λ now. CallEndsFor (Send fd (buffer_of_rent buf)) (plain_request buffer_of_rent now) outcome) is
      (subst (λ asked. CallEndsFor (plain_request buffer_of_rent asked) (plain_request buffer_of_rent request) outcome) from does.ends) in
      send_told moved.told (view before).world (view after).world fd buf outcome moved.outcome_is moved.world ends

  -- A poll that returned a send: what it took is what joined the output.
  ended_went : (old new : LegacyState I Rented) (op : Op) (task fd : ℕ) (done : Ended Rented) (buf : Rented) → IsTrue tells
      → EndsOp files buffer_of_rent called view tells memory old new op task done → EndsByCancel (ops_in old) (Some op)
      → request_at (ops_in old) op ≡ Some (Send fd buf) → done.request ≡ Send fd buf
      → (IsStream (world_of view old) fd
      → sent_at view new fd ++ drop (sent_by done.outcome) buf.bytes ≡ sent_at view old fd ++ buf.bytes)
      × IsSentTo (world_of view old) fd (world_of view new)
  ended_went old new op task fd done buf t ends only asks is =
      let moved = call_went (is_met_at old.handling.records (unless (files old.handling.io) (slot_awaits
      (map.get old.slots.values op.key))))
      (map.get old.slots.values op.key) (map.get new.slots.values op.key) old.handling.io ends.mid.io fd buf done.request ends.call t
      only
      (sym (same_asked (map.get old.slots.values op.key)) ∙ asks) is ends.calls in
      let out : done.outcome ≡ ends.call = ends.outcome ∙ same_outcome ends.mid.table ends.call moved.1 in
      let unmade : made_by done.outcome ≡ None = ap made_by out ∙ moved.1 in
      let handed : ends.handed ≡ ends.mid = subst (λ m. HandsOver view tells memory ends.mid m ends.handed) unmade ends.hands in
      let world : (view new.handling.io).world ≡ (view ends.mid.io).world = ends.lets.object.world t
      ∙ ap (λ h. (view h.io).world) handed in (
        λ stream. ap (λ o. sent_at view new fd ++ drop (sent_by o) buf.bytes) out
            ∙ (ap (λ w. output_at w fd ++ drop (sent_by ends.call) buf.bytes) world ∙ moved.0 stream),
        subst (λ w. IsSentTo (world_of view old) fd w) (sym world) moved.2,
      )

  -- A send that waits on has its bytes.
  kept_flight : (old new : LegacyState I Rented) (op : Op) (task fd total : ℕ) (result : Result (PollOp Rented) (NoMemory × Op))
      → PollEndsFor files buffer_of_rent called view tells memory old new op task result
      → (PollsRequest buffer_of_rent (ops_in old) (ops_in new) op result
      → IsBackOf buffer_of_rent (request_at (ops_in old) op) (request_at (ops_in new) op))
      → IfAsked (request_at (ops_in old) op) (IsSend fd total) → in_flight (ops_in new) (Some op) ≡ in_flight (ops_in old) (Some op)
  kept_flight old new op task fd total result ends stays asks =
      let there = send_itself fd total (request_at (ops_in old) op) asks in
      let back = stays (legacy_back_of view tells memory buffer_of_rent called law files old new op task result there ends) in
      ap bytes_sent (send_stays fd total (request_at (ops_in old) op) (request_at (ops_in new) op) asks back)

  -- Bytes stay unsent where nothing was sent.
  stayed_went : (old new : LegacyState I Rented) (fd : ℕ) (before now : Going) (more : List ℕ) → now ≡ before
      → world_of view new ≡ world_of view old → in_flight (ops_in new) before.op ≡ in_flight (ops_in old) before.op
      → sent_at view new fd ++ going_with (ops_in new) now more ≡ sent_at view old fd ++ going_with (ops_in old) before more
  stayed_went old new fd before now more same world flight =
      ap (λ g. sent_at view new fd ++ going_with (ops_in new) g more) same
      ∙ (ap (λ w. output_at w fd ++ going_with (ops_in new) before more) world
      ∙ ap (λ bs. sent_at view old fd ++ (bs ++ (before.unsent ++ more))) flight)

  -- A poll of the send that waits: what it took is what joined the output, in front of more.
  polled_went : (old new : LegacyState I Rented) (fd task : ℕ) (before now : Going) (more : List ℕ) (came_to : Polled)
      (fault : Option IoFault) → IsTrue tells
      → PollsSend ops_in (LegacyPolls files buffer_of_rent called view tells memory) old new fd before now task came_to fault
      → SentOutIf before.op before.unsent → EndsByCancel (ops_in old) before.op → AsksSend (ops_in old) before.op fd before.room
      → (IsStream (world_of view old) fd
      → sent_at view new fd ++ going_with (ops_in new) now more ≡ sent_at view old fd ++ going_with (ops_in old) before more)
      × IsSentTo (world_of view old) fd (world_of view new)
  polled_went old new fd task before now more Waits fault t polls out only asks =
      let world = stayed_world view tells memory files called law old new polls.0.op polls.0.op task t polls.0.polled.ends in (
        λ stream. stayed_went old new fd before now more polls.0.same world
            (subst (λ o. in_flight (ops_in new) o ≡ in_flight (ops_in old) o) (sym polls.0.waited)
            (kept_flight old new polls.0.op task fd before.room (Ok (Pending polls.0.op)) polls.0.polled.ends (λ p. p)
            (subst (λ o. AsksSend (ops_in old) o fd before.room) polls.0.waited asks))),
        inl world,
      )
  polled_went old new fd task before now more HasEnded fault t polls out only asks =
      let went = ended_went old new polls.op task fd polls.done polls.buf t polls.polled.ends
      (subst (EndsByCancel (ops_in old)) polls.waited only) polls.asked polls.request in
      let none : before.unsent ≡ [] = subst (λ o. SentOutIf o before.unsent) polls.waited out in
      let flight : in_flight (ops_in old) before.op ≡ polls.buf.bytes =
      ap (in_flight (ops_in old)) polls.waited ∙ ap bytes_sent polls.asked in
      let had : going_with (ops_in old) before more ≡ polls.buf.bytes ++ more =
      ap (λ bs. bs ++ (before.unsent ++ more)) flight ∙ ap (λ bs. polls.buf.bytes ++ (bs ++ more)) none in (
        λ stream. ap (λ g. sent_at view new fd ++ going_with (ops_in new) g more) polls.now_is
            ∙ (sym (append_assoc (sent_at view new fd) (drop (sent_by polls.done.outcome) polls.buf.bytes) more)
            ∙ (ap (λ bs. bs ++ more) (went.0 stream)
            ∙ (append_assoc (sent_at view old fd) polls.buf.bytes more
            ∙ ap (λ bs. sent_at view old fd ++ bs) (sym had)))),
        went.1,
      )
  polled_went old new fd task before now more NoRoom fault t polls out only asks =
      let world = starved_world view tells memory files called law old new polls.1.op (polls.0, polls.1.op) task t
      polls.1.polled.ends in (
        λ stream. stayed_went old new fd before now more polls.1.same world
            (subst (λ o. in_flight (ops_in new) o ≡ in_flight (ops_in old) o) (sym polls.1.waited)
            (kept_flight old new polls.1.op task fd before.room (Err (polls.0, polls.1.op)) polls.1.polled.ends (λ p. p)
            (subst (λ o. AsksSend (ops_in old) o fd before.room) polls.1.waited asks))),
        inl world,
      )

  -- The send that waits before the poll: no byte is lost by it, no handle has changed, only a cancel ended it, and it is one.
  record Sending (old mid : LegacyState I Rented) (before : Connection) (between : Going) (outbox : Outboxed) : Type 0 where
    same : going_with (ops_in mid) between outbox.unsent ≡ unsent_in (ops_in old) before
    out : SentOutIf between.op between.unsent
    world : world_of view mid ≡ world_of view old
    only : EndsByCancel (ops_in mid) between.op
    asks : AsksSend (ops_in mid) between.op before.fd between.room

  has_sending : (old mid : LegacyState I Rented) (before : Connection) (between : Going) (outbox : Outboxed) (waited : Option Op)
      → before.outgoing.op ≡ waited → IsTrue tells
      → HasSendOp (LegacySubmits view tells memory) old mid before between outbox waited
      → SentOutIf before.outgoing.op before.outgoing.unsent
      → EndsByCancel (ops_in old) before.outgoing.op → FitsOp (ops_in old) before.outgoing.op (IsSend before.fd before.outgoing.room)
      → Sending old mid before between outbox
  has_sending old mid before between outbox (Some op) is t has out only fits = record {
    same = ap (λ g. going_with (ops_in mid) g outbox.unsent) has.1
        ∙ (ap (λ b. going_with (ops_in mid) before.outgoing b.unsent) has.2
        ∙ ap (λ d. going_with (ops_in d) before.outgoing before.outbox.unsent) has.0);
    out = subst (λ g. SentOutIf g.op g.unsent) (sym has.1) out;
    world = ap (world_of view) has.0;
    only = subst (λ g. EndsByCancel (ops_in mid) g.op) (sym has.1) (subst (λ d. EndsByCancel (ops_in d) before.outgoing.op)
        (sym has.0) only);
    asks = subst (λ g. AsksSend (ops_in mid) g.op before.fd g.room) (sym has.1)
        (subst (λ d. AsksSend (ops_in d) before.outgoing.op before.fd before.outgoing.room) (sym has.0)
        (fits_asks (ops_in old) before.outgoing.op before.fd before.outgoing.room fits));
  }
  has_sending old mid before between outbox None is t has out only fits =
      let begun = has.begun in
      let request : Request Rented Parts = Send before.fd (record { bytes = has.going.unsent; total = has.going.room }) in
      let asked : request_at (ops_in mid) begun.op ≡ Some request = new_asks (ops_in old)
      (ops_in mid) request begun.op begun.submitted.slots in
      record {
        same = ap (λ g. going_with (ops_in mid) g outbox.unsent) begun.now_is
            ∙ (ap (λ o. bytes_sent o ++ outbox.unsent) asked
            ∙ (prepared before has.going outbox has.prepares
            ∙ ap (λ o. in_flight (ops_in old) o ++ (before.outgoing.unsent ++ before.outbox.unsent)) (sym is)));
        out = subst (λ g. SentOutIf g.op g.unsent) (sym begun.now_is) refl;
        world = begun_world view tells memory files called law old mid request begun.op t begun.submitted;
        only = subst (λ g. EndsByCancel (ops_in mid) g.op) (sym begun.now_is)
            (new_by_cancel (ops_in old) (ops_in mid) request begun.op begun.submitted.slots);
        asks = subst (λ g. AsksSend (ops_in mid) g.op before.fd g.room) (sym begun.now_is)
            (subst (λ o. IfAsked o (IsSend before.fd has.going.room)) (sym asked) (refl, refl));
      }

  -- What a poll leaves of the connection has the bytes that it leaves.
  left_unsent : (ops : Ops Rented) (came_to : Polled) (after : Going) (outbox : Outboxed) (fault : Option IoFault) (before now : Connection)
      (result : Result Progress SubmitFault) → LeavesSend came_to after outbox fault before now result
      → unsent_in ops now ≡ going_with ops after outbox.unsent
  left_unsent ops Waits after outbox fault before now result leaves = ap (unsent_in ops) leaves.1
  left_unsent ops HasEnded after outbox fault before now result leaves = ap (unsent_in ops) leaves.1
  left_unsent ops NoRoom after outbox fault before now result leaves = ap (unsent_in ops) leaves.1

  -- A send to a stream loses no byte, and moves none but to the output. Of the handles only its own has changed, by what was sent.
  pub sends_went : (old new : LegacyState I Rented) (task : ℕ) (before now : Connection) (result : Result Progress SubmitFault)
      → SendsFor ops_in (LegacySubmits view tells memory) (LegacyPolls files buffer_of_rent called view tells memory) old new before now
      task
      result
      → SentOutIf before.outgoing.op before.outgoing.unsent → EndsByCancel (ops_in old) before.outgoing.op
      → FitsOp (ops_in old) before.outgoing.op (IsSend before.fd before.outgoing.room) → IsTrue tells
      → (IsStream (world_of view old) before.fd
      → sent_at view new before.fd ++ unsent_in (ops_in new) now ≡ sent_at view old before.fd ++ unsent_in (ops_in old) before)
      × IsSentTo (world_of view old) before.fd (world_of view new)
  sends_went old new task before now result (inl r) out only fits t =
      let w = has_sending old r.mid before r.between.outgoing r.between.outbox before.outgoing.op refl t r.has out only fits in
      let number : r.between.fd ≡ before.fd = ap (λ c. c.fd) r.same in
      let polls = subst (λ h. PollsSend ops_in (LegacyPolls files buffer_of_rent called view tells memory) r.mid new h r.between.outgoing
      r.polls_it.after task r.polls_it.came_to r.polls_it.fault) number r.polls_it.polls_it in
      let polled = polled_went r.mid new before.fd task r.between.outgoing r.polls_it.after r.between.outbox.unsent r.polls_it.came_to
      r.polls_it.fault t polls w.out w.only w.asks in (
        λ stream. ap (λ bs. sent_at view new before.fd ++ bs)
            (left_unsent (ops_in new) r.polls_it.came_to r.polls_it.after r.between.outbox r.polls_it.fault r.between now result
            r.polls_it.leaves)
            ∙ (polled.0 (subst (λ ws. IsStream ws before.fd) (sym w.world) stream)
            ∙ (ap (λ ws. output_at ws before.fd ++ going_with (ops_in r.mid) r.between.outgoing r.between.outbox.unsent) w.world
            ∙ ap (λ bs. sent_at view old before.fd ++ bs) w.same)),
        subst (λ ws. IsSentTo ws before.fd (world_of view new)) w.world polled.1,
      )
  sends_went old new task before now result (inr (inl r)) out only fits t = (
    λ stream. ap (λ c. sent_at view new before.fd ++ unsent_in (ops_in new) c) r.1
        ∙ ap (λ d. sent_at view d before.fd ++ unsent_in (ops_in d) before) r.0,
    inl (ap (world_of view) r.0),
  )
  sends_went old new task before now result (inr (inr r)) out only fits t =
      let refused = r.2 in
      let gone : before.outgoing.op ≡ None = refused.idle in
      let world = refused_world view tells memory files called law old new
      (Send before.fd (record { bytes = refused.going.unsent; total = refused.going.room })) refused.refused.refused t
      refused.refused.submitted in (
        λ stream. ap (λ c. sent_at view new before.fd ++ unsent_in (ops_in new) c) refused.now_is
            ∙ (ap (λ ws. output_at ws before.fd ++ going_with (ops_in new) refused.going refused.outbox.unsent) world
            ∙ (ap (λ o. sent_at view old before.fd ++ (in_flight (ops_in new) o ++ (refused.going.unsent ++ refused.outbox.unsent)))
            (prepared_op before refused.going refused.outbox refused.prepares ∙ gone)
            ∙ (ap (λ bs. sent_at view old before.fd ++ bs) (prepared before refused.going refused.outbox refused.prepares)
            ∙ ap (λ o. sent_at view old before.fd ++ (in_flight (ops_in old) o ++ (before.outgoing.unsent ++ before.outbox.unsent)))
            (sym gone)))),
        inl world,
      )
