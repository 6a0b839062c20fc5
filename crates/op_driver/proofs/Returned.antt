-- What the readiness driver's poll does to the request of its operation.
use Rattle.std.proofs.Common.{ℕ, ◌≡◌, ◌∙◌, ap, sym, refl, subst, Bool, true, false, Option, Some, None, Ok, Err, inl, inr}
use Rattle.std.specs.Prelude.{Result}
use Rattle.std.specs.FinMap as map
use Rattle.rent_buf.specs.Buffer.{Buffer}
use Rattle.rent_buf.specs.Parts.{Parts}
use Rattle.rent_buf.specs.declared.fault.OutOfMemory.{OutOfMemory as NoMemory}
use Rattle.machine.specs.declared.request.Outcome.{Outcome}
use Rattle.machine.specs.declared.request.Outcome.TheVariants.{Count, From, Made, Fail}
use Rattle.machine.specs.declared.request.Request.{Request}
use Rattle.machine.specs.declared.request.Request.TheVariants.{Recv, ReadVec, Send, WriteVec, RecvMsg, SendMsg, Read, Write}
use Rattle.machine.specs.declared.request.Request.TheVariants.{SpliceTo, SpliceFrom, Accept, Open, Connect, Fsync, PollAdd, MkDir, Rename}
use Rattle.machine.specs.declared.request.Request.TheVariants.{Unlink}
use Rattle.machine.specs.declared.request.Way.{Way}
use Rattle.machine.specs.declared.request.Way.TheVariants.{Reads, Sends, Neither}
use Rattle.machine.specs.Request.{plain_request, shape_of, way_of}
use Rattle.driver_core.specs.declared.op.Op.{Op}
use Rattle.driver_core.specs.declared.op.PollOp.{PollOp}
use Rattle.driver_core.specs.declared.op.PollOp.TheVariants.{Pending, Ready}
use Rattle.driver_core.specs.declared.operations.calls.CallAnswer.{CallAnswer}
use Rattle.driver_core.specs.declared.operations.calls.CallAnswer.TheVariants.{Done, WouldBlock, OutOfMemory}
use Rattle.driver_core.specs.declared.slot.Slot.{Slot}
use Rattle.driver_core.specs.declared.op.Done.{Done as Ended}
use Rattle.driver_core.specs.Op.{Holds, PollsTokens}
use Rattle.driver_core.specs.Ops.{Ops}
use Rattle.driver_core.specs.Requests.{KeepsRequests, ReturnsRequest, request_at, request_in as asked_in}
use Rattle.driver_core.specs.Slot.{serial_of}
use Rattle.ready_driver.specs.Awaits.{is_met_at, slot_awaits, unless}
use Rattle.ready_driver.specs.Calling.{Called, CallsInSlot, CallsOnce, request_in}
use Rattle.ready_driver.specs.Io.{IoView, CallsFor, CountsFor, EndsFor}
use Rattle.ready_driver.specs.LegacyPolls.{EndsFor as PollEndsFor}
use Rattle.ready_driver.specs.LegacyState.{LegacyState, ops_in}
use Rattle.ready_driver.specs.Named.{PollsSlotFor}
use Rattle.op_driver.specs.Returned.{IsBack, IsBackOf, KeepsOthers, PollsRequest}

-- A request as plain data has its shape, and its way.
pub shape_plain : {B : Type 0} (buffer : B → Buffer) (request : Request B Parts)
    → shape_of (plain_request buffer request) ≡ shape_of request
shape_plain buffer (Recv fd buf) = refl
shape_plain buffer (ReadVec fd parts) = refl
shape_plain buffer (Send fd buf) = refl
shape_plain buffer (WriteVec fd parts) = refl
shape_plain buffer (RecvMsg fd buf) = refl
shape_plain buffer (SendMsg fd addr buf) = refl
shape_plain buffer (Read fd pos buf) = refl
shape_plain buffer (Write fd pos buf) = refl
shape_plain buffer (SpliceTo fd pipe len) = refl
shape_plain buffer (SpliceFrom pipe fd len) = refl
shape_plain buffer (Accept fd) = refl
shape_plain buffer (Open path flags mode) = refl
shape_plain buffer (Connect fd addr) = refl
shape_plain buffer (Fsync fd data_only) = refl
shape_plain buffer (PollAdd fd read) = refl
shape_plain buffer (MkDir path mode) = refl
shape_plain buffer (Rename from to) = refl
shape_plain buffer (Unlink path remove_dir) = refl

-- Its way is the same.
pub way_plain : {B : Type 0} (buffer : B → Buffer) (request : Request B Parts) → way_of (plain_request buffer request) ≡ way_of request
way_plain buffer (Recv fd buf) = refl
way_plain buffer (ReadVec fd parts) = refl
way_plain buffer (Send fd buf) = refl
way_plain buffer (WriteVec fd parts) = refl
way_plain buffer (RecvMsg fd buf) = refl
way_plain buffer (SendMsg fd addr buf) = refl
way_plain buffer (Read fd pos buf) = refl
way_plain buffer (Write fd pos buf) = refl
way_plain buffer (SpliceTo fd pipe len) = refl
way_plain buffer (SpliceFrom pipe fd len) = refl
way_plain buffer (Accept fd) = refl
way_plain buffer (Open path flags mode) = refl
way_plain buffer (Connect fd addr) = refl
way_plain buffer (Fsync fd data_only) = refl
way_plain buffer (PollAdd fd read) = refl
way_plain buffer (MkDir path mode) = refl
way_plain buffer (Rename from to) = refl
way_plain buffer (Unlink path remove_dir) = refl

-- The two ways to look up a request agree.
same_in : {B : Type 0} (slot : Option (Slot B)) → request_in slot ≡ asked_in slot
same_in None = refl
same_in (Some slot) = refl

-- Requests that are the same as plain data.
plain_back : {B : Type 0} (buffer : B → Buffer) (request now : Request B Parts) → plain_request buffer now ≡ plain_request buffer request
    → IsBack buffer request now
plain_back buffer request now same = record {
  shape = sym (shape_plain buffer now) ∙ (ap shape_of same ∙ shape_plain buffer request);
  sent = λ sends. same;
}

-- What a count left of a request, by its way.
counted_back : {B : Type 0} (buffer : B → Buffer) (request now : Request B Parts) (k : ℕ) (way : Way)
    → way_of (plain_request buffer request) ≡ way
    → CountsFor way (plain_request buffer request) (plain_request buffer now) k → IsBack buffer request now
counted_back buffer request now k Reads is counts = record {
  shape = sym (shape_plain buffer now) ∙ (counts.holds.shape ∙ shape_plain buffer request);
  sent = λ sends. absurd (reads-sends (sym is ∙ (way_plain buffer request ∙ sends)));
}
  where
    reads-sends : Reads ≡ Sends → ⊥
    reads-sends same = absurd cc
counted_back buffer request now k Sends is counts = plain_back buffer request now counts.1
counted_back buffer request now k Neither is counts = plain_back buffer request now counts.1

-- What an outcome left of a request.
ended_back : {B : Type 0} (buffer : B → Buffer) (request now : Request B Parts) (outcome : Outcome)
    → EndsFor (plain_request buffer request) (plain_request buffer now) outcome → IsBack buffer request now
ended_back buffer request now (Count k) ends = counted_back buffer request now k (way_of (plain_request buffer request)) refl ends
ended_back buffer request now (From k addr) ends = counted_back buffer request now k (way_of (plain_request buffer request)) refl ends
ended_back buffer request now (Made h) ends = plain_back buffer request now ends.1
ended_back buffer request now (Fail e) ends = plain_back buffer request now ends

-- What was looked up is back as this.
back_as : {B : Type 0} (buffer : B → Buffer) (slot : Option (Slot B)) (request now : Request B Parts) → request_in slot ≡ Some request
    → IsBack buffer request now → IsBackOf buffer (asked_in slot) (Some now)
back_as buffer slot request now asked back =
    subst (λ o. IsBackOf buffer o (Some now)) (sym asked ∙ same_in slot) back

-- A slot that is there has its request.
pub same_back : {B : Type 0} (buffer : B → Buffer) (slot : Option (Slot B)) (number : ℕ) → serial_of slot ≡ Some number
    → IsBackOf buffer (asked_in slot) (asked_in slot)
same_back buffer None number is = absurd cc
same_back buffer (Some slot) number is = plain_back buffer slot.request slot.request refl

module _ {I B : Type 0} (view : I → IoView) (tells memory : Bool) (buffer : B → Buffer) (called : Called I)
    (law : (old : I) (request : Request Buffer Parts) (new : I) (now : Request Buffer Parts) (answer : CallAnswer)
    → called old request new now answer → CallsFor tells memory (view old) request (view new) now answer) where
  -- A call that wasn't made left the request in its slot.
  unmade_back : (slot new : Option (Slot B)) (before after : I) (answer : CallAnswer)
      (calls : CallsInSlot buffer called slot new before after answer)
      → plain_request buffer calls.now ≡ plain_request buffer calls.made.request → IsBackOf buffer (asked_in slot) (asked_in new)
  unmade_back slot new before after answer calls same =
      subst (λ o. IsBackOf buffer (asked_in slot) o) (sym calls.stays ∙ same_in new)
      (back_as buffer slot calls.made.request calls.now calls.made.asked (plain_back buffer calls.made.request calls.now same))

  -- Where no call was made the slot is as it was.
  none_back : (slot new : Option (Slot B)) → IsBackOf buffer (asked_in slot) (asked_in slot) → new ≡ slot
      → IsBackOf buffer (asked_in slot) (asked_in new)
  none_back slot new there same = subst (λ s. IsBackOf buffer (asked_in slot) (asked_in s)) (sym same) there

  -- What a poll's call left of the request in its slot.
  pending_back : (b : Bool) (slot new : Option (Slot B)) (before after : I) (back : Op) → IsBackOf buffer (asked_in slot) (asked_in slot)
      → CallsOnce b buffer called slot before new after (Ok (Pending back)) → IsBackOf buffer (asked_in slot) (asked_in new)
  pending_back false slot new before after back there calls = none_back slot new there calls.slot_is
  pending_back true slot new before after back there calls =
      unmade_back slot new before after WouldBlock calls
      (law before (plain_request buffer calls.made.request) after (plain_request buffer calls.now) WouldBlock calls.made.calls).0.same

  starved_back : (b : Bool) (slot new : Option (Slot B)) (before after : I) (error : NoMemory × Op)
      → IsBackOf buffer (asked_in slot) (asked_in slot)
      → CallsOnce b buffer called slot before new after (Err error) → IsBackOf buffer (asked_in slot) (asked_in new)
  starved_back false slot new before after error there calls = none_back slot new there calls.slot_is
  starved_back true slot new before after error there (inl none) = none_back slot new there none.slot_is
  starved_back true slot new before after error there (inr calls) =
      unmade_back slot new before after OutOfMemory calls
      (law before (plain_request buffer calls.made.request) after (plain_request buffer calls.now) OutOfMemory calls.made.calls).0.same

  ready_back : (b : Bool) (slot new : Option (Slot B)) (before after : I) (done : Ended B)
      → CallsOnce b buffer called slot before new after (Ok (Ready done)) → IsBackOf buffer (asked_in slot) (Some done.request)
  ready_back false slot new before after done calls = absurd calls
  ready_back true slot new before after done (inl none) =
      back_as buffer slot done.request done.request none.2 (plain_back buffer done.request done.request refl)
  ready_back true slot new before after done (inr made) =
      back_as buffer slot made.request done.request made.asked
      (ended_back buffer made.request done.request done.outcome
      (law before (plain_request buffer made.request) after (plain_request buffer done.request) (Done done.outcome) made.calls).ends)

  -- The poll of a token whose slot has a request.
  pub legacy_back_of : (files : I → ℕ → Bool) (old new : LegacyState I B) (op : Op) (task : ℕ) (result : Result (PollOp B) (NoMemory × Op))
      → IsBackOf buffer (request_at (ops_in old) op) (request_at (ops_in old) op)
      → PollEndsFor files buffer called view tells memory old new op task result
      → PollsRequest buffer (ops_in old) (ops_in new) op result
  legacy_back_of files old new op task (Ok (Pending back)) there ends =
      pending_back (is_met_at old.handling.records (unless (files old.handling.io) (slot_awaits (map.get old.slots.values op.key))))
      (map.get old.slots.values op.key) (map.get new.slots.values op.key) old.handling.io new.handling.io back there ends.2
  legacy_back_of files old new op task (Ok (Ready done)) there ends =
      ready_back (is_met_at old.handling.records (unless (files old.handling.io) (slot_awaits (map.get old.slots.values op.key))))
      (map.get old.slots.values op.key) (map.get new.slots.values op.key) old.handling.io ends.mid.io (record done { outcome = ends.call })
      ends.calls
  legacy_back_of files old new op task (Err error) there ends =
      starved_back (is_met_at old.handling.records (unless (files old.handling.io) (slot_awaits (map.get old.slots.values op.key))))
      (map.get old.slots.values op.key) (map.get new.slots.values op.key) old.handling.io new.handling.io error there ends.2

  -- The poll of a token that the driver holds.
  pub legacy_back : (files : I → ℕ → Bool) (old new : LegacyState I B) (op : Op) (task : ℕ) (result : Result (PollOp B) (NoMemory × Op))
      → Holds (ops_in old) op → PollEndsFor files buffer called view tells memory old new op task result
      → PollsRequest buffer (ops_in old) (ops_in new) op result
  legacy_back files old new op task result holds ends =
      legacy_back_of files old new op task result (same_back buffer (map.get old.slots.values op.key) op.number holds) ends

-- Two tokens that operations hold and that have the same key are one.
same_token : {B : Type 0} (ops : Ops B) (op other : Op) → Holds ops op → Holds ops other → other.key ≡ op.key → other ≡ op
same_token ops op other holds held same =
    let numbers : Some other.number ≡ Some op.number = sym held ∙ (ap (λ k. serial_of (map.get ops.slots.values k)) same ∙ holds) in
    let number : other.number ≡ op.number = cc in
    ap (λ n. record { number = n; key = other.key }) number ∙ ap (λ k. record { number = op.number; key = k }) same

-- A poll of the readiness driver leaves each other operation's request.
pub legacy_others : {B : Type 0} (old new : Ops B) (op : Op) (result : Result (PollOp B) (NoMemory × Op)) → Holds old op
    → PollsSlotFor old new op result → KeepsOthers old new op
legacy_others old new op (Ok (Pending back)) holds slots other apart held =
    ap asked_in (slots.others other.key (λ same. apart (same_token old op other holds held same)))
legacy_others old new op (Ok (Ready done)) holds slots other apart held =
    ap asked_in (slots.others other.key (λ same. apart (same_token old op other holds held same)))
legacy_others old new op (Err error) holds slots other apart held =
    ap asked_in (slots.others other.key (λ same. apart (same_token old op other holds held same)))

-- So does one of the completion driver, whose slot keeps its request until it is returned.
pub uring_back : {B : Type 0} (buffer : B → Buffer) (old new : Ops B) (op : Op) (answer : PollOp B) → Holds old op
    → PollsTokens old new op answer → ReturnsRequest old op answer → KeepsRequests old new → PollsRequest buffer old new op (Ok answer)
uring_back buffer old new op (Pending back) holds tokens request keeps =
    subst (λ o. IsBackOf buffer (request_at old op) o) (sym (keeps op holds ((tokens.1 op).0 holds)))
    (same_back buffer (map.get old.slots.values op.key) op.number holds)
uring_back buffer old new op (Ready done) holds tokens request keeps =
    subst (λ o. IsBackOf buffer o (Some done.request)) (sym request) (plain_back buffer done.request done.request refl)

-- Each other operation that the completion driver held keeps its request in a poll.
pub uring_others : {B : Type 0} (old new : Ops B) (op : Op) (answer : PollOp B) → PollsTokens old new op answer → KeepsRequests old new
    → KeepsOthers old new op
uring_others old new op (Pending back) tokens keeps other apart held = keeps other held ((tokens.1 other).0 held)
uring_others old new op (Ready done) tokens keeps other apart held = keeps other held ((tokens other).1 (held, apart))
