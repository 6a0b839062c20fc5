-- What a poll of a receive and of a send forwards, over handles in memory.
use Rattle.std.proofs.Common.{ℕ, zero, suc, ◌≡◌, ◌∙◌, ◌≤◌, ap, sym, refl, subst, arith, Bool, IsTrue, true, false, true≢false}
use Rattle.std.proofs.Common.{List, [], ◌∷◌, ◌++◌, length, take, drop, Option, Some, None, Ok, Err, inl, inr, not}
use Rattle.std.specs.Prelude.{◌&&◌, ◌||◌, min, option_map, slice_get, unwrap_or}
use Rattle.std.specs.FinMap as map
use Rattle.std.proofs.Math.Seq.{take-append_seam, take-nil}
use Rattle.std.proofs.lemmas.List.{append-nil, drop_all, take_all, take_min}
use Rattle.rent_buf.specs.Buf.{built, content_of}
use Rattle.rent_buf.specs.Buffer.{Buffer, shown}
use Rattle.rent_buf.specs.Parts.{Parts}
use Rattle.rent_buf.specs.declared.fault.OutOfMemory.{OutOfMemory as NoMemory}
use Rattle.rent_buf.specs.declared.held.Held.TheVariants.{One}
use Rattle.rent_buf.specs.declared.plain.Buf.{Buf}
use Rattle.machine.specs.Attempt.{answer_if, attempt, is_readable, is_readable_at, is_shut, readable_by_kind, reads_at_once}
use Rattle.machine.specs.Effect.{made_by}
use Rattle.machine.specs.Lists.{is_empty, passes}
use Rattle.machine.specs.Request.{call_of, held_want, named, plain_request, sent_of}
use Rattle.machine.specs.World.{gives_bytes, input_at, is_pipe}
use Rattle.machine.specs.WorldCall.{call_effect}
use Rattle.machine.specs.declared.request.Call.TheVariants.{In, Out}
use Rattle.machine.specs.declared.request.Outcome.{Outcome}
use Rattle.machine.specs.declared.request.Outcome.TheVariants as ended
use Rattle.machine.specs.declared.request.Request.{Request}
use Rattle.machine.specs.declared.request.Request.TheVariants.{Recv, Send}
use Rattle.machine.specs.declared.request.TheConstants.{MOST_ASKED}
use Rattle.machine.specs.declared.request.Told.{Told}
use Rattle.machine.specs.declared.request.Told.TheVariants.{Count, Fail}
use Rattle.machine.specs.declared.world.HandleState.{HandleState}
use Rattle.machine.specs.declared.world.call.TheConstants.{BROKEN_PIPE, INVALID}
use Rattle.driver_core.specs.declared.op.Done.{Done as Ended}
use Rattle.driver_core.specs.declared.op.Op.{Op}
use Rattle.driver_core.specs.declared.op.PollOp.{PollOp}
use Rattle.driver_core.specs.declared.op.PollOp.TheVariants.{Pending, Ready}
use Rattle.driver_core.specs.declared.operations.calls.CallAnswer.TheVariants.{WouldBlock}
use Rattle.ready_driver.specs.Awaits.{LeavesFor, awaits, is_met_at, slot_awaits, unless}
use Rattle.ready_driver.specs.Calling.{Called, CallsOnce}
use Rattle.ready_driver.specs.Io.{IoView, IsLater}
use Rattle.ready_driver.specs.LegacyState.{LegacyState, ops_in}
use Rattle.ready_driver.specs.Ready.{mask_of, meets, without}
use Rattle.ready_driver.specs.Records.{Kept, io_at}
use Rattle.ready_driver.specs.Registry.{is_users}
use Rattle.ready_driver.specs.declared.ready.Direction.{Direction}
use Rattle.ready_driver.specs.declared.ready.Direction.TheVariants as towards
use Rattle.op_driver.specs.Legacy.{LegacyPolls}
use Rattle.net_stream.specs.Told.{IsStream, output_at}
use Rattle.relay_net.specs.Flow.{IfAsked, IsPending, IsReceive, IsSend, asked_at, bytes_sent, empty_buffer, held_in}
use Rattle.relay_net.specs.Forwarding.{CanForward, Forwards, IsUnmetAt, KeepsSeen}
use Rattle.relay_net.specs.Keeping.{KeepsUsers, world_of}
use Rattle.relay_net.specs.Outcomes.{CountsAs, ReceivedAs}
use Rattle.relay_net.specs.Relay.{IsAccept}
use Rattle.relay_net.specs.declared.flow.Came.TheVariants as came
use Rattle.relay_net.specs.declared.flow.Stage.{Stage}
use Rattle.relay_net.specs.declared.flow.Stage.TheVariants as stage
use Rattle.relay_net.proofs.Calls.{Lawful, handed_users, same_users}
use Rattle.relay_net.proofs.Flows.{just_holds}
use Rattle.relay_net.proofs.Listens.{flying_awaits, met_at_hand}
use Rattle.relay_net.proofs.Moves.{Brings, Brought, Takes, Took, received, sent, settles, whole_room}
use Rattle.relay_net.proofs.Polls.{pending_waits, ready_ends, same_asked}
use Rattle.relay_net.proofs.Seeing.{BitsFor, accept_unread, handed_bits, keeps_seen, left_bits, pending_bits, ready_bits, receive_unread}
use Rattle.relay_net.proofs.Seeing.{same_bits}
use Rattle.relay_net.proofs.Seeing.{shows_still, shows_unread, starved_bits}

-- A receive of a stream that is made at once counts what waits, as much as it has room for.
receive_told : (world : List HandleState) (h want : ℕ) (told : Told) → IsStream world h → attempt world (In h want) ≡ Some told
    → told ≡ Count (min want (length (input_at world h)))
receive_told world h want told stream made =
    by (passes reads_at_once (slice_get world h))
    (sym (ap (λ f. answer_if (not (passes reads_at_once (slice_get world h))) None (answer_if (not f) (Some (Fail INVALID))
    (Some (Count (min want (length (input_at world h))))))) (ap (passes (λ handle. gives_bytes handle.kind)) stream.there
    ∙ ap gives_bytes stream.kind)) ∙ made)
  where
    by : (b : Bool) → answer_if (not b) None (Some (Count (min want (length (input_at world h))))) ≡ Some told
        → told ≡ Count (min want (length (input_at world h)))
    by true is = cc
    by false is = absurd cc

-- A send to a stream counts all that it offers.
send_told : (world : List HandleState) (h offered : ℕ) (answer : Option Told) → IsStream world h → attempt world (Out h offered) ≡ answer
    → answer ≡ Some (Count offered)
send_told world h offered answer stream made =
    sym made ∙ (ap (λ f. answer_if (not f) (Some (Fail INVALID)) (answer_if (passes is_shut (slice_get world h)) (Some (Fail BROKEN_PIPE))
    (Some (Count offered)))) (ap (passes (λ handle. gives_bytes handle.kind)) stream.there ∙ ap gives_bytes stream.kind)
    ∙ ap (λ b. answer_if b (Some (Fail BROKEN_PIPE)) (Some (Count offered))) (ap (passes is_shut) stream.there
    ∙ ap (λ k. is_pipe k && stream.handle.ended) stream.kind))

-- A stream that isn't readable has nothing that waits.
unread_none : (world : List HandleState) (h : ℕ) → IsStream world h → is_readable_at world h ≡ false → input_at world h ≡ []
unread_none world h stream unread =
    ap (λ found. unwrap_or (option_map (λ handle. handle.input) found) []) stream.there
    ∙ by stream.handle.input stream.handle.ended (sym (ap (passes is_readable) stream.there
    ∙ ap (λ k. readable_by_kind k stream.handle) stream.kind) ∙ unread)
  where
    by : (bytes : List ℕ) (ended : Bool) → not (is_empty bytes) || ended ≡ false → bytes ≡ []
    by [] ended is = refl
    by (b ∷ bytes) ended is = absurd (true≢false is)

-- The bytes that came are the first ones that waited.
came_first : (bytes rest before : List ℕ) (want : ℕ) → bytes ++ rest ≡ before → length bytes ≡ min want (length before)
    → bytes ≡ take want before
came_first bytes rest before want parts size =
    sym (take-append_seam bytes rest) ∙ (ap (take (length bytes)) parts ∙ (ap (λ n. take n before) size ∙ take_min want before))

-- What is awaited is met, whatever memory is reserved.
met_same : (old new : Kept) (awaited : Option (ℕ × Direction)) → new.handles ≡ old.handles → is_met_at new awaited ≡ is_met_at old awaited
met_same old new None same = refl
met_same old new (Some (h, dir)) same = ap (λ r. meets r (mask_of dir)) (same_bits old new h same)

-- The request of an operation that is pending.
asked_request : (asked : Option (Request Buffer Parts)) (P : Request Buffer Parts → Type 0) → IfAsked asked P
    → (request : Request Buffer Parts) × ((asked ≡ Some request) × P request)
asked_request None P is = absurd is
asked_request (Some request) P is = (request, (refl, is))

-- What a receive waits for; and one that would block is of a handle that isn't readable.
pub receive_reads : (request : Request Buffer Parts) (room from : ℕ) (world : List HandleState) → IsReceive room from request
    → (awaits request ≡ Some (from, towards.Read)) × (attempt world (call_of request) ≡ None → is_readable_at world from ≡ false)
receive_reads request room from world is = (
  ap awaits is.request_is,
  λ none. receive_unread world from (held_want (One (empty_buffer room))) (sym (ap (λ r. attempt world (call_of r)) is.request_is) ∙ none),
)

-- So it is of an accept.
pub accept_reads : (request : Request Buffer Parts) (listener : ℕ) (world : List HandleState) → IsAccept listener request
    → (awaits request ≡ Some (listener, towards.Read)) × (attempt world (call_of request) ≡ None → is_readable_at world listener ≡ false)
accept_reads request listener world is =
    (ap awaits is, λ none. accept_unread world listener (sym (ap (λ r. attempt world (call_of r)) is) ∙ none))

module _ {I : Type 0} (view : I → IoView) (tells memory : Bool) (told : IsTrue memory → IsTrue tells) (files : I → ℕ → Bool)
    (called : Called I) (law : Lawful view tells memory called) where
  -- A poll that is pending, though its call may be made, made a call that would block.
  pending_blocks : (old new : LegacyState I Buf) (op back : Op) (task : ℕ) (request : Request Buffer Parts)
      → LegacyPolls files built called view tells memory old new op task (Ok (Pending back)) → asked_at (ops_in old) op ≡ Some request
      → is_met_at old.handling.records (unless (files old.handling.io) (slot_awaits (map.get old.slots.values op.key))) ≡ true
      → IsTrue memory → attempt (world_of view old) (call_of request) ≡ None
  pending_blocks old new op back task request polls asked met memory_is =
      let slot = map.get old.slots.values op.key in
      let once = subst (λ b. CallsOnce b built called slot old.handling.io (map.get new.slots.values op.key) new.handling.io
      (Ok (Pending back))) met polls.ends.2 in
      let calls = law old.handling.io (plain_request built once.made.request) new.handling.io (plain_request built once.now) WouldBlock
      once.made.calls in
      let both : Some (plain_request built once.made.request) ≡ Some request =
      sym (ap (option_map (plain_request built)) (sym (same_asked slot) ∙ once.made.asked)) ∙ asked in
      let same : plain_request built once.made.request ≡ request = cc in
      sym (ap (λ r. attempt (world_of view old) (call_of r)) same) ∙ (calls.2 memory_is).0

  -- What a pending poll left of the bits of each handle.
  pending_left : (old new : LegacyState I Buf) (op back : Op) (task own : ℕ) (dir : Direction)
      → LegacyPolls files built called view tells memory old new op task (Ok (Pending back))
      → slot_awaits (map.get old.slots.values op.key) ≡ Some (own, dir) → (h : ℕ)
      → BitsFor (is_met_at old.handling.records (unless (files old.handling.io) (Some (own, dir)))) own dir old.handling.records
      new.handling.records h
  pending_left old new op back task own dir polls waits h =
      let handling = polls.ends.0 in
      let left = subst (λ w. LeavesFor {B = Buf} (unless (files old.handling.io) w) handling.records op.number task new.handling.records
      (Ok (Pending back))) waits handling.leaves in
      elim (pending_bits handling.records new.handling.records own op.number task dir Buf (files old.handling.io) back left h) [
        | inl same ↦ inl (same ∙ same_bits old.handling.records handling.records h handling.room)
        | inr gone ↦ inr (
          gone.0,
          sym (met_same old.handling.records handling.records (unless (files old.handling.io) (Some (own, dir)))
              handling.room) ∙ gone.1,
          gone.2 ∙ ap (λ r. without r (mask_of dir)) (same_bits old.handling.records handling.records h
              handling.room),
        )
      ]

  -- A poll that is pending of what waits to read keeps what the bits show.
  pub read_pends_seen : (old new : LegacyState I Buf) (op back : Op) (answer : PollOp Buf) (task own : ℕ)
      (P : Request Buffer Parts → Type 0) → answer ≡ Pending back
      → LegacyPolls files built called view tells memory old new op task (Ok answer) → IsPending (ops_in old) op P
      → ((request : Request Buffer Parts) → P request → (awaits request ≡ Some (own, towards.Read))
      × (attempt (world_of view old) (call_of request) ≡ None → is_readable_at (world_of view old) own ≡ false))
      → KeepsSeen view memory old new
  read_pends_seen old new op back answer task own P is polls pending reads memory_is h held stream seen =
      let asked = subst (λ a. LegacyPolls files built called view tells memory old new op task (Ok a)) is polls in
      let request = asked_request (asked_at (ops_in old) op) P pending.asks in
      let does = reads request.0 request.1.1 in
      let waits = flying_awaits (map.get old.slots.values op.key) request.0 pending.flies request.1.0 ∙ does.0 in
      let world = (pending_waits view tells memory files called law old new op back task asked).world (told memory_is) in
      let falls : is_readable_at (world_of view new) h ≡ true → is_readable_at (world_of view old) h ≡ true =
      λ now. ap (λ w. is_readable_at w h) (sym world) ∙ now in
      elim (pending_left old new op back task own towards.Read asked waits h) [
        | inl same ↦ shows_still (is_readable_at (world_of view old) h) (is_readable_at (world_of view new) h)
            (io_at old.handling.records h).ready (io_at new.handling.records h).ready same falls seen
        | inr gone ↦ shows_unread (is_readable_at (world_of view old) h) (is_readable_at (world_of view new) h)
            (io_at old.handling.records h).ready (io_at new.handling.records h).ready gone.2 falls
            (ap (is_readable_at (world_of view old)) gone.0 ∙ does.1 (pending_blocks old new op back task request.0 asked request.1.0
            (ap (λ w. is_met_at old.handling.records (unless (files old.handling.io) w)) waits ∙ gone.1) memory_is)) seen
      ]

  -- A send to a stream whose bits show that it can be written to isn't pending.
  send_goes : (old new : LegacyState I Buf) (op back : Op) (task to count : ℕ)
      → LegacyPolls files built called view tells memory old new op task (Ok (Pending back)) → IsPending (ops_in old) op (IsSend to count)
      → is_met_at old.handling.records (unless (files old.handling.io) (Some (to, towards.Write))) ≡ true → IsTrue memory
      → IsStream (world_of view old) to → ⊥
  send_goes old new op back task to count polls pending met memory_is stream =
      let request = asked_request (asked_at (ops_in old) op) (IsSend to count) pending.asks in
      let waits = flying_awaits (map.get old.slots.values op.key) request.0 pending.flies request.1.0
      ∙ ap awaits request.1.1.request_is in
      let blocks = pending_blocks old new op back task request.0 polls request.1.0
      (ap (λ w. is_met_at old.handling.records (unless (files old.handling.io) w)) waits ∙ met) memory_is in
      let makes = send_told (world_of view old) to (length (sent_of (Send to request.1.1.buf))) None stream
      (sym (ap (λ r. attempt (world_of view old) (call_of r)) request.1.1.request_is) ∙ blocks) in
      absurd cc

  -- A pending send keeps what the bits show.
  pub send_pends_seen : (old new : LegacyState I Buf) (op back : Op) (answer : PollOp Buf) (task to count : ℕ) → answer ≡ Pending back
      → LegacyPolls files built called view tells memory old new op task (Ok answer) → IsPending (ops_in old) op (IsSend to count)
      → KeepsSeen view memory old new
  send_pends_seen old new op back answer task to count is polls pending memory_is h held stream seen =
      let asked = subst (λ a. LegacyPolls files built called view tells memory old new op task (Ok a)) is polls in
      let request = asked_request (asked_at (ops_in old) op) (IsSend to count) pending.asks in
      let waits = flying_awaits (map.get old.slots.values op.key) request.0 pending.flies request.1.0
      ∙ ap awaits request.1.1.request_is in
      let world = (pending_waits view tells memory files called law old new op back task asked).world (told memory_is) in
      elim (pending_left old new op back task to towards.Write asked waits h) [
        | inl same ↦ shows_still (is_readable_at (world_of view old) h) (is_readable_at (world_of view new) h)
            (io_at old.handling.records h).ready (io_at new.handling.records h).ready same
            (λ now. ap (λ w. is_readable_at w h) (sym world) ∙ now) seen
        | inr gone ↦ absurd (send_goes old new op back task to count asked pending gone.1 memory_is
            (subst (IsStream (world_of view old)) gone.0 stream))
      ]

  -- A poll that memory ran out for keeps it.
  pub starved_seen : (old new : LegacyState I Buf) (op : Op) (error : NoMemory × Op) (task : ℕ)
      → (IsTrue tells → world_of view new ≡ world_of view old)
      → LegacyPolls files built called view tells memory old new op task (Err error) → KeepsSeen view memory old new
  starved_seen old new op error task world polls =
      let handling = polls.ends.0 in
      keeps_seen view tells memory told old new world (λ h held.
      starved_bits Buf handling.records new.handling.records op.number task _ error handling.leaves h
      ∙ same_bits old.handling.records handling.records h handling.room)

  -- One that returned its operation leaves the bits of each handle of the user.
  pub ended_bits : (old new : LegacyState I Buf) (op : Op) (done : Ended Buf) (task : ℕ)
      → LegacyPolls files built called view tells memory old new op task (Ok (Ready done)) → (h : ℕ)
      → is_users old.handling.table h ≡ true → (io_at new.handling.records h).ready ≡ (io_at old.handling.records h).ready
  ended_bits old new op done task polls h held =
      let ends = polls.ends in
      let mid_held = same_users old.handling.table ends.mid.table ends.polls.table h held in
      let handed_held = handed_users view tells memory ends.mid ends.handed (made_by done.outcome) ends.hands h mid_held in
      left_bits view tells memory told ends.handed new.handling (named done.request) ends.lets h handed_held
      ∙ (handed_bits view tells memory told ends.mid ends.handed (made_by done.outcome) ends.hands h mid_held
      ∙ (ready_bits Buf ends.polls.records ends.mid.records op.number task _ (record done { outcome = ends.call }) ends.polls.leaves h
      ∙ same_bits old.handling.records ends.polls.records h ends.polls.room))

  -- So it keeps what they show, if a stream is readable behind it only if it was.
  pub ended_seen : (old new : LegacyState I Buf) (op : Op) (answer : PollOp Buf) (done : Ended Buf) (task : ℕ) → answer ≡ Ready done
      → LegacyPolls files built called view tells memory old new op task (Ok answer)
      → (IsTrue tells → (h : ℕ) → IsStream (world_of view old) h → is_readable_at (world_of view new) h ≡ true
      → is_readable_at (world_of view old) h ≡ true) → KeepsSeen view memory old new
  ended_seen old new op answer done task is polls falls memory_is h held stream seen =
      let asked = subst (λ a. LegacyPolls files built called view tells memory old new op task (Ok a)) is polls in
      shows_still (is_readable_at (world_of view old) h) (is_readable_at (world_of view new) h) (io_at old.handling.records h).ready
      (io_at new.handling.records h).ready (ended_bits old new op done task asked h held) (falls (told memory_is) h stream) seen

  -- A receive that is pending on a stream whose bits show what it has took all: nothing waits.
  pub receive_waits_on : (old new : LegacyState I Buf) (op back : Op) (answer : PollOp Buf) (task room from to : ℕ) → answer ≡ Pending back
      → LegacyPolls files built called view tells memory old new op task (Ok answer) → IsPending (ops_in old) op (IsReceive room from)
      → IsTrue memory → CanForward view old from to → Forwards room (world_of view old) (world_of view new) from to [] []
  receive_waits_on old new op back answer task room from to is polls pending memory_is can = record {
    sends = λ some. absurd (some refl);
    takes = λ none. sym (ap (take room) (by (is_readable_at (world_of view old) from) refl) ∙ take-nil room);
  }
    where
      asked : LegacyPolls files built called view tells memory old new op task (Ok (Pending back))
      asked = subst (λ a. LegacyPolls files built called view tells memory old new op task (Ok a)) is polls

      by : (b : Bool) → is_readable_at (world_of view old) from ≡ b → input_at (world_of view old) from ≡ []
      by false unread = unread_none (world_of view old) from can.from_stream unread
      by true readable =
          let request = asked_request (asked_at (ops_in old) op) (IsReceive room from) pending.asks in
          let waits = flying_awaits (map.get old.slots.values op.key) request.0 pending.flies request.1.0 ∙ ap awaits
          request.1.1.request_is in
          let met = ap (λ w. is_met_at old.handling.records (unless (files old.handling.io) w)) waits
          ∙ met_at_hand (files old.handling.io) old.handling.records from towards.Read (can.from_seen.reads readable) in
          let blocks = pending_blocks old new op back task request.0 asked request.1.0 met memory_is in
          let unread = receive_unread (world_of view old) from (held_want (One (empty_buffer room)))
          (sym (ap (λ r. attempt (world_of view old) (call_of r)) request.1.1.request_is) ∙ blocks) in
          absurd (true≢false (sym readable ∙ unread))

  -- One that isn't polled, since no bit meets it, waits for nothing that is there.
  receive_unmet : (driver : LegacyState I Buf) (room from to : ℕ)
      → meets (io_at driver.handling.records from).ready (mask_of towards.Read) ≡ false → CanForward view driver from to
      → Forwards room (world_of view driver) (world_of view driver) from to [] []
  receive_unmet driver room from to unmet can = record {
    sends = λ some. absurd (some refl);
    takes = λ none. sym (ap (take room) (unread_none (world_of view driver) from can.from_stream
        (by (is_readable_at (world_of view driver) from) refl)) ∙ take-nil room);
  }
    where
      by : (b : Bool) → is_readable_at (world_of view driver) from ≡ b → is_readable_at (world_of view driver) from ≡ false
      by false unread = unread
      by true readable = absurd (true≢false (sym (can.from_seen.reads readable) ∙ unmet))

  -- There is no such send.
  send_unmet : (driver : LegacyState I Buf) (room from to : ℕ) (held now : List ℕ)
      → meets (io_at driver.handling.records to).ready (mask_of towards.Write) ≡ false → CanForward view driver from to
      → Forwards room (world_of view driver) (world_of view driver) from to held now
  send_unmet driver room from to held now unmet can = absurd (true≢false (sym can.to_seen.writes ∙ unmet))

  -- So a direction whose call can't be made yet has forwarded what it can.
  pub unmet_forwards : (driver : LegacyState I Buf) (room from to : ℕ) (s : Stage) → IsUnmetAt driver.handling.records from to s
      → CanForward view driver from to
      → Forwards room (world_of view driver) (world_of view driver) from to (held_in (ops_in driver) s) (held_in (ops_in driver) s)
  unmet_forwards driver room from to (stage.Idle spare) unmet can = absurd unmet
  unmet_forwards driver room from to (stage.Receiving op) unmet can = receive_unmet driver room from to unmet can
  unmet_forwards driver room from to (stage.Held buf) unmet can = absurd unmet
  unmet_forwards driver room from to (stage.Sending op count) unmet can =
      send_unmet driver room from to (held_in (ops_in driver) (stage.Sending op count))
      (held_in (ops_in driver) (stage.Sending op count)) unmet can

  -- A send that is pending there is none.
  pub send_waits_on : (old new : LegacyState I Buf) (op back : Op) (answer : PollOp Buf) (task room from to count : ℕ) (held now : List ℕ)
      → answer ≡ Pending back
      → LegacyPolls files built called view tells memory old new op task (Ok answer) → IsPending (ops_in old) op (IsSend to count)
      → IsTrue memory → CanForward view old from to → Forwards room (world_of view old) (world_of view new) from to held now
  send_waits_on old new op back answer task room from to count held now is polls pending memory_is can =
      absurd (send_goes old new op back task to count
      (subst (λ a. LegacyPolls files built called view tells memory old new op task (Ok a)) is polls) pending
      (met_at_hand (files old.handling.io) old.handling.records to towards.Write can.to_seen.writes) memory_is can.to_stream)

  -- A receive that ended, and didn't bring the end, brought what waits, as much as it has room for.
  pub receive_comes : (old new : LegacyState I Buf) (op : Op) (answer : PollOp Buf) (done : Ended Buf) (task room from to : ℕ) (buf : Buf)
      (s : Stage) → answer ≡ Ready done → LegacyPolls files built called view tells memory old new op task (Ok answer)
      → IsPending (ops_in old) op (IsReceive room from) → plain_request built done.request ≡ Recv from (built buf)
      → ReceivedAs done.outcome (content_of buf) s came.Goes → IsTrue memory → IsStream (world_of view old) from
      → Forwards room (world_of view old) (world_of view new) from to [] (held_in (ops_in new) s)
  receive_comes old new op answer done task room from to buf s is polls pending back ends memory_is stream = record {
    sends = λ some. absurd (some refl);
    takes = λ none. by done.outcome count ends (subst (λ b. Brings (view old.handling.io) (view new.handling.io) tells from done.outcome
        (shown b)) (sym same) brought.brings);
  }
    where
      asked : LegacyPolls files built called view tells memory old new op task (Ok (Ready done))
      asked = subst (λ a. LegacyPolls files built called view tells memory old new op task (Ok a)) is polls

      brought : Brought (view old.handling.io) (view new.handling.io) tells from done.outcome (plain_request built done.request)
      brought = (received view tells memory files called law old new op done task room from asked pending).0

      recv_same : (h : ℕ) (one other : Buffer) → ◌≡◌ {A = Request Buffer Parts} (Recv h one) (Recv h other) → one ≡ other
      recv_same h one other same = cc

      same : built buf ≡ brought.buf
      same = recv_same from (built buf) brought.buf (sym back ∙ brought.request_is)

      waiting : ℕ
      waiting = min room (length (input_at (world_of view old) from))

      count : done.outcome ≡ ended.Count waiting
      count =
          let ended_call = ready_ends view tells memory files called law old new op done task (IsReceive room from) asked pending in
          let own : IsReceive room from ended_call.request = subst (λ a. IfAsked a (IsReceive room from)) ended_call.asked pending.asks in
          let request = own.request_is in
          let whole = whole_room room own.roomy in
          let made = (ended_call.made.called memory_is).0 in
          let counted : made.told ≡ Count waiting = receive_told (world_of view old) from (held_want (One (empty_buffer room))) made.told
          stream (sym (ap (λ r. attempt (world_of view old) (call_of r)) request) ∙ made.made)
          ∙ ap (λ w. Count (min w (length (input_at (world_of view old) from)))) whole in
          let call : ended_call.call ≡ ended.Count waiting = made.outcome_is
          ∙ (ap (λ t. (call_effect (world_of view old) ended_call.request t).outcome) counted
          ∙ ap (λ r. (call_effect (world_of view old) r (Count waiting)).outcome) request) in
          (settles view tells memory files called law old new op done ended_call (ap made_by call)).outcome ∙ call

      by_count : (k : ℕ) → k ≡ waiting → CountsAs k (content_of buf) s came.Goes → length (content_of buf) ≡ k
          → content_of buf ++ input_at (world_of view new) from ≡ input_at (world_of view old) from
          → held_in (ops_in new) s ≡ take room (input_at (world_of view old) from)
      by_count zero is ends size parts = absurd cc
      by_count (suc k) is ends size parts = just_holds (ops_in new) s (content_of buf) ends.0
          ∙ came_first (content_of buf) (input_at (world_of view new) from) (input_at (world_of view old) from) room parts (size ∙ is)

      by : (outcome : Outcome) → outcome ≡ ended.Count waiting → ReceivedAs outcome (content_of buf) s came.Goes
          → Brings (view old.handling.io) (view new.handling.io) tells from outcome (content_of buf)
          → held_in (ops_in new) s ≡ take room (input_at (world_of view old) from)
      by (ended.Count k) is ends brings =
          let e : k ≡ waiting = cc in by_count k e ends brings.0 (brings.2 (told memory_is)).0
      by (ended.From k addr) is ends brings = absurd cc
      by (ended.Made h) is ends brings = absurd brings
      by (ended.Fail error) is ends brings = absurd cc

  -- A send that ended sent all that it had.
  pub send_comes : (old new : LegacyState I Buf) (op : Op) (answer : PollOp Buf) (done : Ended Buf) (task room from to count : ℕ)
      (buf : Buf)
      (s : Stage) → answer ≡ Ready done → LegacyPolls files built called view tells memory old new op task (Ok answer)
      → IsPending (ops_in old) op (IsSend to count) → plain_request built done.request ≡ Send to (built buf)
      → IsTrue memory → IsStream (world_of view old) to
      → Forwards room (world_of view old) (world_of view new) from to (bytes_sent (asked_at (ops_in old) op)) (held_in (ops_in new) s)
  send_comes old new op answer done task room from to count buf s is polls pending back memory_is stream = record {
    sends = λ some. by done.outcome outcome went.1.1.takes ∙ ap (λ bs. output_at (world_of view old) to ++ bs) (ap bytes_sent (sym
        went.1.0));
    takes = λ none.
        let size : length (shown went.0) ≡ 0 = ap length (sym (ap bytes_sent went.1.0) ∙ none) in
        let some = load.0 in
        absurd (omega (arith, size, some));
  }
    where
      asked : LegacyPolls files built called view tells memory old new op task (Ok (Ready done))
      asked = subst (λ a. LegacyPolls files built called view tells memory old new op task (Ok a)) is polls

      went : (buf : Buffer) × ((asked_at (ops_in old) op ≡ Some (Send to buf))
          × Took (view old.handling.io) (view new.handling.io) tells to buf done.outcome (plain_request built done.request)
          × (IsLater (view old.handling.io) (view new.handling.io) × KeepsUsers old.handling.table new.handling.table))
      went = sent view tells memory files called law old new op done task to count asked pending

      own : IsSend to count (Send to went.0)
      own = subst (λ a. IfAsked a (IsSend to count)) went.1.0 pending.asks

      size : length (shown went.0) ≡ count
      size = ap (λ r. length (bytes_sent (Some r))) own.request_is ∙ own.count_is

      load : (1 ≤ length (shown went.0)) × (length (shown went.0) ≤ MOST_ASKED)
      load = (
        let some = own.load.0 in let e = size in omega (arith, some, e),
        let most = own.load.1 in let e = size in omega (
          arith,
          most,
          e,
        ),
      )

      whole : take MOST_ASKED (shown went.0) ≡ shown went.0
      whole = take_all MOST_ASKED (shown went.0) load.1

      outcome : done.outcome ≡ ended.Count (length (shown went.0))
      outcome =
          let ended_call = ready_ends view tells memory files called law old new op done task (IsSend to count) asked pending in
          let both : Some ended_call.request ≡ Some (Send to went.0) = sym ended_call.asked ∙ went.1.0 in
          let request : ended_call.request ≡ Send to went.0 = cc in
          let made = (ended_call.made.called memory_is).0 in
          let counted : Some made.told ≡ Some (Count (length (sent_of (Send to went.0)))) =
          send_told (world_of view old) to (length (sent_of (Send to went.0))) (Some made.told) stream
          (sym (ap (λ r. attempt (world_of view old) (call_of r)) request) ∙ made.made) in
          let one : made.told ≡ Count (length (sent_of (Send to went.0))) = cc in
          let call : ended_call.call ≡ ended.Count (length (sent_of (Send to went.0))) = made.outcome_is
          ∙ (ap (λ t. (call_effect (world_of view old) ended_call.request t).outcome) one
          ∙ ap (λ r. (call_effect (world_of view old) r (Count (length (sent_of (Send to went.0))))).outcome) request) in
          (settles view tells memory files called law old new op done ended_call (ap made_by call)).outcome
          ∙ (call ∙ ap (λ bs. ended.Count (length bs)) whole)

      by : (o : Outcome) → o ≡ ended.Count (length (shown went.0))
          → Takes (view old.handling.io) (view new.handling.io) tells to o (shown went.0)
          → output_at (world_of view new) to ≡ output_at (world_of view old) to ++ shown went.0
      by (ended.Count k) is takes =
          let e : k ≡ length (shown went.0) = cc in
          let none : drop k (shown went.0) ≡ [] = drop_all k (shown went.0) (omega (arith, e)) in
          sym (append-nil (output_at (world_of view new) to)) ∙ (ap (λ bs. output_at (world_of view new) to ++ bs) (sym none)
          ∙ (takes (told memory_is)).0 stream)
      by (ended.From k addr) is takes = absurd cc
      by (ended.Made h) is takes = absurd takes
      by (ended.Fail error) is takes = absurd cc
