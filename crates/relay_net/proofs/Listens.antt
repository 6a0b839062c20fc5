-- A round accepts what arrives at a listener in memory.
use Rattle.std.proofs.Common.{ℕ, ◌≡◌, ◌∙◌, ap, sym, refl, subst, Bool, IsTrue, true, false, not, List, [], Option, Some, None}
use Rattle.std.proofs.Common.{Ok, Err, length}
use Rattle.std.specs.Prelude.{◌||◌, if◌then◌else◌, IsOk, OnOk, Result, is_some, nat_le, nat_lt, unwrap_or}
use Rattle.std.specs.FinMap as map
use Rattle.rent_buf.specs.Buf.{built}
use Rattle.rent_buf.specs.Buffer.{Buffer}
use Rattle.rent_buf.specs.Parts.{Parts}
use Rattle.rent_buf.specs.declared.plain.Buf.{Buf}
use Rattle.handle_core.specs.Table.{Table, nobody}
use Rattle.handle_core.specs.declared.table.Holders.{Holders}
use Rattle.machine.specs.Attempt.{answer_if, attempt, is_readable, is_readable_at, readable_by_kind, reads_at_once}
use Rattle.machine.specs.Lists.{passes}
use Rattle.machine.specs.Request.{call_of, named, plain_request}
use Rattle.machine.specs.World.{is_file, is_listener}
use Rattle.machine.specs.WorldCall.{call_effect}
use Rattle.machine.specs.declared.world.TheConstants.{MOST_HANDLES}
use Rattle.machine.specs.declared.request.Call.TheVariants as call
use Rattle.machine.specs.declared.request.Outcome.TheVariants as ended
use Rattle.machine.specs.declared.request.Request.{Request}
use Rattle.machine.specs.declared.request.Request.TheVariants.{Recv, ReadVec, Send, WriteVec, RecvMsg, SendMsg, Read, Write}
use Rattle.machine.specs.declared.request.Request.TheVariants.{SpliceTo, SpliceFrom, Accept, Open, Connect, Fsync, PollAdd, MkDir, Rename}
use Rattle.machine.specs.declared.request.Request.TheVariants.{Unlink}
use Rattle.machine.specs.declared.request.Told.TheVariants as told
use Rattle.machine.specs.declared.world.HandleState.{HandleState}
use Rattle.machine.specs.declared.world.call.TheConstants.{INVALID}
use Rattle.driver_core.specs.declared.op.Done.{Done as Ended}
use Rattle.driver_core.specs.declared.op.Op.{Op}
use Rattle.driver_core.specs.declared.op.PollOp.{PollOp}
use Rattle.driver_core.specs.declared.op.PollOp.TheVariants.{Pending, Ready}
use Rattle.driver_core.specs.declared.op.Stop.{Stop}
use Rattle.driver_core.specs.declared.op.Stop.TheVariants as stopped
use Rattle.driver_core.specs.declared.op.Turned.{Turned}
use Rattle.driver_core.specs.declared.operations.calls.CallAnswer.TheVariants.{Done, WouldBlock}
use Rattle.driver_core.specs.declared.slot.Slot.{Slot}
use Rattle.driver_core.specs.Slot.{flies_in}
use Rattle.ready_driver.specs.Awaits.{awaits, awaits_if, is_met_at, slot_awaits, unless}
use Rattle.ready_driver.specs.Calling.{Called, CallsOnce, request_in}
use Rattle.ready_driver.specs.Io.{IoView}
use Rattle.ready_driver.specs.LegacyPolls.{outcome_for, outcome_if}
use Rattle.ready_driver.specs.LegacyState.{LegacyState, ops_in}
use Rattle.ready_driver.specs.LegacyTurns.{LegacyTurns, TurnsBy, turning_in}
use Rattle.ready_driver.specs.Ready.{mask_of, meets}
use Rattle.ready_driver.specs.Records.{Kept, io_at}
use Rattle.ready_driver.specs.Registry.{is_known, is_old, is_users}
use Rattle.ready_driver.specs.declared.ready.Direction.{Direction}
use Rattle.ready_driver.specs.declared.ready.Direction.TheVariants as towards
use Rattle.ready_driver.proofs.Showing.{bits-registered}
use Rattle.op_driver.specs.Legacy.{LegacyPolls, LegacySubmits}
use Rattle.relay_net.specs.Flow.{IfAsked, IsPending}
use Rattle.relay_net.specs.Keeping.{world_of}
use Rattle.relay_net.specs.Listening.{IsAtHand, IsListener, IsMadeUnless, MayListen}
use Rattle.relay_net.specs.Opening.{AcceptedAs}
use Rattle.relay_net.specs.Relay.{IsAccept}
use Rattle.relay_net.specs.declared.opening.Accepted.{Accepted}
use Rattle.relay_net.specs.declared.opening.Accepted.TheVariants.{Made}
use Rattle.relay_net.specs.Relaying.{TurnStops}
use Rattle.relay_net.specs.declared.round.RelayError.{RelayError}
use Rattle.relay_net.proofs.Calls.{Lawful, plain_in}
use Rattle.relay_net.proofs.Polls.{ready_ends}

-- So does a submission.
pub submitted_bits : {I : Type 0} (view : I → IoView) (tells memory : Bool) (old new : LegacyState I Buf) (request : Request Buf Parts)
    (op : Op) → LegacySubmits view tells memory old new request (Ok op) → (h : ℕ)
    → (io_at new.handling.records h).ready ≡ (io_at old.handling.records h).ready
submitted_bits view tells memory old new request op joins h =
    ap (λ x. (io_at x.records h).ready) joins.handling
    ∙ (ap (λ r. (io_at r h).ready) joins.ready.records ∙ bits-registered (named request) old.handling.records h)

-- What is at hand is so behind a call that leaves handles and bits.
pub at_hand_kept : {I : Type 0} (view : I → IoView) (old new : LegacyState I Buf) (h : ℕ) → world_of view new ≡ world_of view old
    → (io_at new.handling.records h).ready ≡ (io_at old.handling.records h).ready → IsAtHand view old h → IsAtHand view new h
at_hand_kept view old new h world bits hand = record {
  listens = subst (λ w. IsListener w h) (sym world) hand.listens;
  bits = ap (λ r. meets r (mask_of towards.Read)) bits ∙ hand.bits;
}

-- What the user holds somebody holds.
pub users_known : (table : Table) (h : ℕ) → is_users table h ≡ true → is_known table h ≡ true
users_known table h held = by-found (map.get table.holders h) refl
  where
    by-found : (found : Option Holders) → map.get table.holders h ≡ found → is_known table h ≡ true
    by-found None is =
        let no : ◌≡◌ {A = Bool} false true = sym (ap (λ o. nat_lt 0 (unwrap_or o nobody).user) is) ∙ held in
        absurd cc
    by-found (Some holders) is = ap is_some is

-- A listener is readable.
listener_readable : (world : List HandleState) (h : ℕ) → IsListener world h → is_readable_at world h ≡ true
listener_readable world h listens =
    ap (passes is_readable) listens.there ∙ ap (λ k. readable_by_kind k listens.handle) listens.kind

-- Behind a turn that didn't stop a listener in memory is at hand.
pub turned_at_hand : {I : Type 0} (view : I → IoView) (tells reporting memory : Bool) (old new : LegacyState I Buf) (turned : Turned)
    (h : ℕ) → LegacyTurns view tells reporting memory old new turned → turned.stop ≡ None → IsTrue memory → IsTrue tells
    → is_users new.handling.table h ≡ true → MayListen view old h → IsAtHand view new h
turned_at_hand view tells reporting memory old new turned h turns on memory_is tells_is held may =
    let does = subst (TurnsBy view tells reporting memory (turning_in old old.asked) (turning_in new turns.tasks)) on turns.does in
    let listens = subst (λ w. IsListener w h) (sym (does.object.world tells_is)) may.listens in
    record {
      listens = listens;
      bits = (does.shows memory_is may.keyed h (users_known new.handling.table h held)).reads
          (listener_readable (world_of view new) h listens);
    }

-- An accept on a listener is made at once.
accept_attempt : (world : List HandleState) (h : ℕ) → IsListener world h → attempt world (call.Accept h) ≡ Some (told.Count 0)
accept_attempt world h listens =
    ap (λ found. answer_if (not (passes reads_at_once found)) None (answer_if (not (passes (λ x. is_listener x.kind) found))
    (Some (told.Fail INVALID)) (Some (told.Count 0)))) listens.there
    ∙ ap (λ k. answer_if (not (is_file k || readable_by_kind k listens.handle)) None (answer_if (not (is_listener k))
    (Some (told.Fail INVALID)) (Some (told.Count 0)))) listens.kind

-- What a request waits for is what it waits for as plain data.
pub plain_awaits : (request : Request Buf Parts) → awaits (plain_request built request) ≡ awaits request
plain_awaits (Recv fd buf) = refl
plain_awaits (ReadVec fd parts) = refl
plain_awaits (Send fd buf) = refl
plain_awaits (WriteVec fd parts) = refl
plain_awaits (RecvMsg fd buf) = refl
plain_awaits (SendMsg fd addr buf) = refl
plain_awaits (Read fd pos buf) = refl
plain_awaits (Write fd pos buf) = refl
plain_awaits (SpliceTo fd pipe len) = refl
plain_awaits (SpliceFrom pipe fd len) = refl
plain_awaits (Accept fd) = refl
plain_awaits (Open path flags mode) = refl
plain_awaits (Connect fd addr) = refl
plain_awaits (Fsync fd data_only) = refl
plain_awaits (PollAdd fd true) = refl
plain_awaits (PollAdd fd false) = refl
plain_awaits (MkDir path mode) = refl
plain_awaits (Rename from to) = refl
plain_awaits (Unlink path remove_dir) = refl

-- What the operation in a slot waits for is what its request does, while it is in flight.
pub flying_awaits : (slot : Option (Slot Buf)) (request : Request Buffer Parts) → flies_in slot ≡ true → plain_in slot ≡ Some request
    → slot_awaits slot ≡ awaits request
flying_awaits None request flies is = absurd cc
flying_awaits (Some slot) request flies is =
    let same : plain_request built slot.request ≡ request = cc in
    ap (λ b. awaits_if b slot.request) flies ∙ (sym (plain_awaits slot.request) ∙ ap awaits same)

-- So it is of an accept.
slot_accepts : (slot : Option (Slot Buf)) (h : ℕ) → flies_in slot ≡ true → IfAsked (plain_in slot) (IsAccept h)
    → slot_awaits slot ≡ Some (h, towards.Read)
slot_accepts slot h flies asks = by (plain_in slot) refl asks
  where
    by : (asked : Option (Request Buffer Parts)) → plain_in slot ≡ asked → IfAsked asked (IsAccept h)
        → slot_awaits slot ≡ Some (h, towards.Read)
    by None is asks = absurd asks
    by (Some request) is asks = flying_awaits slot request flies is ∙ ap awaits asks

-- The request that is called is that of the slot.
called_accept : (slot : Option (Slot Buf)) (request : Request Buf Parts) (h : ℕ) → IfAsked (plain_in slot) (IsAccept h)
    → request_in slot ≡ Some request → plain_request built request ≡ Accept h
called_accept None request h asks is = absurd cc
called_accept (Some slot) request h asks is =
    let e : slot.request ≡ request = cc in ap (plain_request built) (sym e) ∙ asks

-- A poll of what is at hand may call.
pub met_at_hand : (files : ℕ → Bool) (records : Kept) (h : ℕ) (dir : Direction) → meets (io_at records h).ready (mask_of dir) ≡ true
    → is_met_at records (unless files (Some (h, dir))) ≡ true
met_at_hand files records h dir bits = by-file (files h) refl
  where
    by-file : (b : Bool) → files h ≡ b → is_met_at records (unless files (Some (h, dir))) ≡ true
    by-file true is = ap (λ b. is_met_at records (if b then None else Some (h, dir))) is
    by-file false is = ap (λ b. is_met_at records (if b then None else Some (h, dir))) is ∙ bits

module _ {I : Type 0} (view : I → IoView) (tells memory : Bool) (files : I → ℕ → Bool) (called : Called I)
    (law : Lawful view tells memory called) where
  -- An accept of a listener in memory that is at hand doesn't wait.
  pub accept_goes : (old new : LegacyState I Buf) (op back : Op) (answer : PollOp Buf) (task listener : ℕ) → answer ≡ Pending back
      → LegacyPolls files built called view tells memory old new op task (Ok answer) → IsPending (ops_in old) op (IsAccept listener)
      → IsTrue memory → IsAtHand view old listener → ⊥
  accept_goes old new op back answer task listener is polls pending memory_is hand =
      let asked = subst (λ a. LegacyPolls files built called view tells memory old new op task (Ok a)) is polls in
      let slot = map.get old.slots.values op.key in
      let waits : slot_awaits slot ≡ Some (listener, towards.Read) = slot_accepts slot listener pending.flies pending.asks in
      let met : is_met_at old.handling.records (unless (files old.handling.io) (slot_awaits slot)) ≡ true =
      ap (λ w. is_met_at old.handling.records (unless (files old.handling.io) w)) waits
      ∙ met_at_hand (files old.handling.io) old.handling.records listener towards.Read hand.bits in
      let once = subst (λ b. CallsOnce b built called slot old.handling.io (map.get new.slots.values op.key) new.handling.io
      (Ok (Pending back))) met asked.ends.2 in
      let request = called_accept slot once.made.request listener pending.asks once.made.asked in
      let calls = law old.handling.io (plain_request built once.made.request) new.handling.io (plain_request built once.now) WouldBlock
      once.made.calls in
      let blocks : attempt (world_of view old) (call_of (plain_request built once.made.request)) ≡ None = (calls.2 memory_is).0 in
      let both : None ≡ Some (told.Count 0) = sym blocks
      ∙ (ap (λ r. attempt (world_of view old) (call_of r)) request ∙ accept_attempt (world_of view old) listener hand.listens) in
      absurd cc

  -- It makes a handle, if the number of the object's next handle can be new.
  pub accept_makes : ((before : I) (request : Request Buffer Parts) (after : I) (now : Request Buffer Parts) (h : ℕ)
      → called before request after now (Done (ended.Made h)) → h ≡ (view before).made)
      → (old new : LegacyState I Buf) (op : Op) (answer : PollOp Buf) (done : Ended Buf) (task listener : ℕ) (accepted : Accepted)
      → answer ≡ Ready done
      → LegacyPolls files built called view tells memory old new op task (Ok answer) → IsPending (ops_in old) op (IsAccept listener)
      → is_old old.handling.table (view old.handling.io).made ≡ false → AcceptedAs done.outcome accepted → IsTrue memory
      → IsAtHand view old listener → IsMadeUnless accepted
  accept_makes numbered old new op answer done task listener accepted is polls pending number answers memory_is hand =
      let asked = subst (λ a. LegacyPolls files built called view tells memory old new op task (Ok a)) is polls in
      let ends = ready_ends view tells memory files called law old new op done task (IsAccept listener) asked pending in
      let request : ends.request ≡ Accept listener = subst (λ a. IfAsked a (IsAccept listener)) ends.asked pending.asks in
      let made = (ends.made.called memory_is).0 in
      let both : Some made.told ≡ Some (told.Count 0) = sym made.made
      ∙ (ap (λ r. attempt (world_of view old) (call_of r)) request ∙ accept_attempt (world_of view old) listener hand.listens) in
      let count : made.told ≡ told.Count 0 = cc in
      let h = length (world_of view old) in
      let outcome : ends.call ≡ ended.Made h = made.outcome_is
      ∙ (ap (λ t. (call_effect (world_of view old) ends.request t).outcome) count
      ∙ ap (λ r. (call_effect (world_of view old) r (told.Count 0)).outcome) request) in
      let at : h ≡ (view old.handling.io).made = numbered old.handling.io ends.request ends.mid.io (plain_request built done.request) h
      (subst (λ o. called old.handling.io ends.request ends.mid.io (plain_request built done.request) (Done o)) outcome ends.calls) in
      let new_one : is_old ends.mid.table h ≡ false =
      ap (λ held. is_some (map.get held h) || nat_le MOST_HANDLES h) ends.table ∙ ap (is_old old.handling.table) at ∙ number in
      let returned : done.outcome ≡ ended.Made h = ends.outcome
      ∙ (ap (outcome_for ends.mid.table) outcome ∙ ap (λ b. outcome_if b (ended.Made h)) new_one) in
      let answered : accepted ≡ Made h = subst (λ o. AcceptedAs o accepted) returned answers in
      subst IsMadeUnless (sym answered) tt

-- What is so is so behind a call that is Ok, and what follows from what is so there.
pub on_ok : {T E : Type 0} (result : Result T E) (P : Type 0) → P → OnOk result P
on_ok (Ok done) P is = is
on_ok (Err error) P is = tt

-- What an Ok brings brings what follows from it.
pub map_ok : {T E : Type 0} (result : Result T E) (P Q : Type 0) → (P → Q) → OnOk result P → OnOk result Q
map_ok (Ok done) P Q gives is = gives is
map_ok (Err error) P Q gives is = tt

-- What follows from what a call gives if it is Ok.
pub ok_given : {T E : Type 0} (result : Result T E) (P : Type 0) → (((Q : Type 0) → OnOk result Q → Q) → P) → OnOk result P
ok_given (Ok done) P gives = gives (λ Q is. is)
ok_given (Err error) P gives = tt

-- A round that is Ok is one whose work was.
pub ok_through : {T U E F : Type 0} (result : Result T E) (worked : Result U F) (P : Type 0) → OnOk result (IsOk worked) → OnOk worked P
    → OnOk result P
ok_through (Ok done) (Ok work) P works is = is
ok_through (Ok done) (Err error) P works is = absurd cc
ok_through (Err error) worked P works is = tt

-- A turn behind which a round goes on didn't stop.
pub turned_ok : (stop : Option Stop) (result : Result Unit RelayError) (P : Type 0) → TurnStops stop result → (stop ≡ None → P)
    → OnOk result P
turned_ok None result P is gives = subst (λ r. OnOk r P) (sym is) (gives refl)
turned_ok (Some stopped.RingFault) result P is gives = subst (λ r. OnOk r P) (sym is) tt
turned_ok (Some stopped.Busy) result P is gives = subst (λ r. OnOk r P) (sym is) tt
turned_ok (Some (stopped.BadCompletion word)) result P is gives = subst (λ r. OnOk r P) (sym is) tt
turned_ok (Some (stopped.Os code)) result P is gives = subst (λ r. OnOk r P) (sym is) tt
turned_ok (Some stopped.OutOfMemory) result P is gives = subst (λ r. OnOk r P) (sym is) tt
