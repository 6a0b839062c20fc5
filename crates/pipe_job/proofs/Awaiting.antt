-- A job that is pending is listed, for its pipe.
use Rattle.std.proofs.Common.{ℕ, ◌≡◌, ◌∙◌, ◌⊎◌, inl, inr, ap, sym, refl, subst, Bool, true, false, true≢false, Option, Some, None, Ok, List}
use Rattle.std.specs.Prelude.{if◌then◌else◌, is_some, IsTrue}
use Rattle.std.specs.FinMap as map
use Rattle.rent_buf.specs.Parts.{Parts}
use Rattle.rent_buf.specs.Rent.{Rented, buffer_of_rent}
use Rattle.op_slots.specs.declared.lifecycle.Lifecycle.{Lifecycle}
use Rattle.op_slots.specs.declared.lifecycle.Lifecycle.TheVariants.{Submitted, Waiting, Ignored, Completed}
use Rattle.machine.specs.declared.request.Outcome.{Outcome}
use Rattle.machine.specs.declared.request.Request.{Request}
use Rattle.machine.specs.declared.request.Request.TheVariants as request
use Rattle.machine.specs.Attempt.{attempt, is_file_at}
use Rattle.machine.specs.Request.{call_of, plain_request}
use Rattle.machine.specs.declared.world.HandleState.{HandleState}
use Rattle.driver_core.specs.declared.op.Op.{Op}
use Rattle.driver_core.specs.declared.op.PollOp.TheVariants as polled
use Rattle.driver_core.specs.declared.operations.calls.CallAnswer.TheVariants.{WouldBlock}
use Rattle.driver_core.specs.declared.slot.Slot.{Slot}
use Rattle.driver_core.specs.Slot.{flies_in, is_flying}
use Rattle.op_job.specs.Met.{IsWaiting}
use Rattle.op_job.proofs.Pending.{pending_leaves}
use Rattle.ready_driver.specs.declared.ready.Direction.{Direction}
use Rattle.ready_driver.specs.declared.ready.Direction.TheVariants.{Read, Write}
use Rattle.ready_driver.specs.Awaits.{LeavesFor, awaits, awaits_if, is_met_at, slot_awaits, unless}
use Rattle.ready_driver.specs.Calling.{Called, CallsOnce, request_in}
use Rattle.ready_driver.specs.Io.{IoView}
use Rattle.ready_driver.specs.LegacyPolls.{EndsFor as PollEndsFor}
use Rattle.ready_driver.specs.LegacyState.{LegacyState, ops_in}
use Rattle.ready_driver.specs.Named.{IsCompleted, PollsSlotFor}
use Rattle.ready_driver.specs.Records.{Kept, record_at}
use Rattle.ready_driver.specs.Registry.{AreRecorded, is_known}
use Rattle.pipe_job.specs.Awaits.{IsListed, IsUnreported}
use Rattle.pipe_job.specs.Course.{Coursed, IsNext}
use Rattle.pipe_job.specs.Waits.{NextIf}
use Rattle.pipe_job.proofs.Calls.{Lawful}
use Rattle.pipe_job.proofs.Moving.{file_receives, file_sends, next_is}

-- A job's next request waits for a direction of its pipe.
moves_awaits : (course : Coursed) (asked : Request Rented Parts) → IsNext course (plain_request buffer_of_rent asked)
    → (dir : Direction) × (awaits asked ≡ Some (course.pipe, dir))
moves_awaits course asked next = elim (next_is course asked next) [
  | inl receive ↦ (Read, ap awaits receive.1)
  | inr send ↦ (Write, ap awaits send.1)
]

-- What a request waits for is that of the plain one.
awaits_plain : (asked : Request Rented Parts) → awaits (plain_request buffer_of_rent asked) ≡ awaits asked
awaits_plain (request.Recv fd buf) = refl
awaits_plain (request.Send fd buf) = refl
awaits_plain (request.ReadVec fd parts) = refl
awaits_plain (request.WriteVec fd parts) = refl
awaits_plain (request.RecvMsg fd buf) = refl
awaits_plain (request.SendMsg fd addr buf) = refl
awaits_plain (request.Read fd pos buf) = refl
awaits_plain (request.Write fd pos buf) = refl
awaits_plain (request.SpliceTo fd to len) = refl
awaits_plain (request.SpliceFrom from fd len) = refl
awaits_plain (request.Accept fd) = refl
awaits_plain (request.Open path flags mode) = refl
awaits_plain (request.Connect fd addr) = refl
awaits_plain (request.Fsync fd data_only) = refl
awaits_plain (request.PollAdd fd true) = refl
awaits_plain (request.PollAdd fd false) = refl
awaits_plain (request.MkDir path mode) = refl
awaits_plain (request.Rename from to) = refl
awaits_plain (request.Unlink path remove_dir) = refl

-- What the operation of a slot in flight waits for is what its request does.
pub flying_awaits : (slot : Option (Slot Rented)) (asked : Request Rented Parts) → request_in slot ≡ Some asked → flies_in slot ≡ true
    → slot_awaits slot ≡ awaits asked
flying_awaits None asked is flies = absurd cc
flying_awaits (Some slot) asked is flies =
    let same : slot.request ≡ asked = cc in ap (λ b. awaits_if b slot.request) flies ∙ ap awaits same

-- One in flight isn't completed.
flying_lives : (slot : Option (Slot Rented)) (outcome : Outcome) → flies_in slot ≡ true → IsCompleted slot outcome → ⊥
flying_lives None outcome flies is = is
flying_lives (Some slot) outcome flies is = true≢false (sym flies ∙ ap is_flying is)

-- A slot is in flight still, if its operation wasn't completed.
flies_still : (slot new : Option (Slot Rented)) (now : Request Rented Parts) → request_in new ≡ Some now → flies_in slot ≡ true
    → ((outcome : Outcome) → IsCompleted new outcome → IsCompleted slot outcome) → flies_in new ≡ true
flies_still slot None now is flies completed = absurd cc
flies_still slot (Some one) now is flies completed = by one.life refl
  where
    by : (life : Lifecycle Outcome) → one.life ≡ life → flies_in (Some one) ≡ true
    by Submitted is = ap is_flying is
    by (Waiting t) is = ap is_flying is
    by Ignored is = ap is_flying is
    by (Completed outcome) is = absurd (flying_lives slot outcome flies (completed outcome is))

module _ {I : Type 0} (files : I → ℕ → Bool) (view : I → IoView) (tells memory : Bool) (called : Called I)
    (law : Lawful view tells memory called) where
  -- A call on a file of a world in memory doesn't block.
  file_made : IsTrue memory → (course : Coursed) (request : Request Rented Parts) (world : List HandleState)
      → IsNext course (plain_request buffer_of_rent request) → is_file_at world course.pipe ≡ true
      → attempt world (call_of (plain_request buffer_of_rent request)) ≡ None → ⊥
  file_made told course request world next one none = elim (next_is course request next) [
    | inl receive ↦ file_receives world course.pipe receive.0 one
        (subst (λ r. attempt world (call_of (plain_request buffer_of_rent r)) ≡ None) receive.1 none)
    | inr send ↦ file_sends world course.pipe send.0 one
        (subst (λ r. attempt world (call_of (plain_request buffer_of_rent r)) ≡ None) send.1 none)
  ]

  -- What a pending poll of an operation leaves, by whether its handle is a file: its call would have blocked; or it is listed.
  abbrev Behind : Bool → ℕ → ℕ → ℕ → Direction → I → I → Kept → Type 0
  Behind true h number task dir before after now = IsTrue memory → is_file_at (view before).world h ≡ true → ⊥
  Behind false h number task dir before after now = (record_at now h ≡ None) ⊎ IsWaiting now h number task dir

  by_file : (b : Bool) (h number task : ℕ) (dir : Direction) (slot new : Option (Slot Rented)) (before after : I)
      (records left now : Kept) (back : Op) (course : Coursed) → NextIf course (request_in slot)
      → CallsOnce (is_met_at records (if b then None else Some (h, dir))) buffer_of_rent called slot before new after
      (Ok (polled.Pending back))
      → LeavesFor {B = Rented} (if b then None else Some (h, dir)) left number task now (Ok (polled.Pending back)) → h ≡ course.pipe
      → Behind b h number task dir before after now
  by_file true h number task dir slot new before after records left now back course moves calls leaves same = λ told one.
      let does = law before (plain_request buffer_of_rent calls.made.request) after (plain_request buffer_of_rent calls.now) WouldBlock
      calls.made.calls in
      file_made told course calls.made.request (view before).world (subst (NextIf course) calls.made.asked moves)
      (ap (is_file_at (view before).world) (sym same) ∙ one) (does.2 told).0
  by_file false h number task dir slot new before after records left now back course moves calls leaves same =
      pending_leaves left now h number task dir Rented back leaves

  -- An operation of which a poll is pending is in flight.
  flies_pending : (slot new : Option (Slot Rented)) (before after : I) (records : Kept) (back : Op) → slot_awaits slot ≡ None
      → CallsOnce (is_met_at records (unless (files before) (slot_awaits slot))) buffer_of_rent called slot before new after
      (Ok (polled.Pending back)) → flies_in slot ≡ true
  flies_pending slot new before after records back none calls =
      (subst (λ a. CallsOnce (is_met_at records (unless (files before) a)) buffer_of_rent called slot before new after
      (Ok (polled.Pending back))) none calls).made.flies

  -- So one that moves bytes of a pipe waits for a direction of it.
  pipe_awaits : (slot new : Option (Slot Rented)) (course : Coursed) (before after : I) (records : Kept) (back : Op)
      → NextIf course (request_in slot)
      → CallsOnce (is_met_at records (unless (files before) (slot_awaits slot))) buffer_of_rent called slot before new after
      (Ok (polled.Pending back)) → (dir : Direction) × (slot_awaits slot ≡ Some (course.pipe, dir))
  pipe_awaits None new course before after records back moves calls = absurd moves
  pipe_awaits (Some slot) new course before after records back moves calls = by (is_flying slot.life) refl
    where
      by : (b : Bool) → is_flying slot.life ≡ b → (dir : Direction) × (slot_awaits (Some slot) ≡ Some (course.pipe, dir))
      by true flies = let way = moves_awaits course slot.request moves in (way.0, ap (λ b. awaits_if b slot.request) flies ∙ way.1)
      by false still =
          let flies = flies_pending (Some slot) new before after records back (ap (λ b. awaits_if b slot.request) still) calls in
          absurd (true≢false (sym flies ∙ still))

  -- It waits for that still.
  awaits_still : (b : Bool) (slot new : Option (Slot Rented)) (before after : I) (back : Op) (awaited : Option (ℕ × Direction))
      → CallsOnce b buffer_of_rent called slot before new after (Ok (polled.Pending back))
      → ((outcome : Outcome) → IsCompleted new outcome → IsCompleted slot outcome) → slot_awaits slot ≡ awaited → slot_awaits new ≡ awaited
  awaits_still false slot new before after back awaited calls completed is = ap slot_awaits calls.slot_is ∙ is
  awaits_still true slot new before after back awaited calls completed is =
      let does = law before (plain_request buffer_of_rent calls.made.request) after (plain_request buffer_of_rent calls.now) WouldBlock
      calls.made.calls in
      flying_awaits new calls.now calls.stays (flies_still slot new calls.now calls.stays calls.made.flies completed)
      ∙ sym (awaits_plain calls.now) ∙ ap awaits does.0.same ∙ awaits_plain calls.made.request
      ∙ sym (flying_awaits slot calls.made.request calls.made.asked calls.made.flies) ∙ is

  -- What a pending poll of a job's operation leaves.
  module _ (filed : IsTrue memory → (io : I) (h : ℕ) → files io h ≡ is_file_at (view io).world h) (old new : LegacyState I Rented)
      (op back : Op) (task : ℕ) (course : Coursed)
      (ends : PollEndsFor files buffer_of_rent called view tells memory old new op task (Ok (polled.Pending back)))
      (moves : NextIf course (request_in (map.get old.slots.values op.key))) where
    way : (dir : Direction) × (slot_awaits (map.get old.slots.values op.key) ≡ Some (course.pipe, dir))
    way = pipe_awaits (map.get old.slots.values op.key) (map.get new.slots.values op.key) course old.handling.io new.handling.io
        old.handling.records back moves ends.2

    behind : Behind (files old.handling.io course.pipe) course.pipe op.number task way.0 old.handling.io new.handling.io
        new.handling.records
    behind = by_file (files old.handling.io course.pipe) course.pipe op.number task way.0 (map.get old.slots.values op.key)
        (map.get new.slots.values op.key) old.handling.io new.handling.io old.handling.records ends.0.records new.handling.records back
        course moves
        (subst (λ a. CallsOnce (is_met_at old.handling.records (unless (files old.handling.io) a)) buffer_of_rent called
        (map.get old.slots.values op.key) old.handling.io (map.get new.slots.values op.key) new.handling.io (Ok (polled.Pending back)))
        way.1 ends.2)
        (subst (λ a. LeavesFor {B = Rented} (unless (files old.handling.io) a) ends.0.records op.number task new.handling.records
        (Ok (polled.Pending back))) way.1 ends.0.leaves) refl

    -- Where its pipe is no file, it is listed with the task; and where it is one, nothing is reported of it.
    listed : (b : Bool) → files old.handling.io course.pipe ≡ b
        → Behind b course.pipe op.number task way.0 old.handling.io new.handling.io new.handling.records
        → PollsSlotFor (ops_in old) (ops_in new) op (Ok (polled.Pending back)) → AreRecorded new.handling.table new.handling.records
        → is_known new.handling.table course.pipe ≡ true → IsListed new course.pipe op task ⊎ IsUnreported files memory course.pipe
    listed false none (inl gone) slots recorded known =
        absurd (true≢false (sym known ∙ sym (recorded course.pipe) ∙ ap is_some gone))
    listed false none (inr waits) slots recorded known = inl (record {
      direction = way.0;
      awaits = awaits_still (is_met_at old.handling.records (unless (files old.handling.io)
          (slot_awaits (map.get old.slots.values op.key)))) (map.get old.slots.values op.key) (map.get new.slots.values op.key)
          old.handling.io new.handling.io back (Some (course.pipe, way.0)) ends.2 (λ outcome. (slots.completed outcome).0) way.1;
      waits = waits;
    })
    listed true one blocked slots recorded known = inr (record {
      before = old.handling.io;
      is = one;
      never = λ told. blocked told (sym (filed told old.handling.io course.pipe) ∙ one);
    })

    pub pending_listed : PollsSlotFor (ops_in old) (ops_in new) op (Ok (polled.Pending back)) → back ≡ op
        → AreRecorded new.handling.table new.handling.records → is_known new.handling.table course.pipe ≡ true
        → IsListed new course.pipe back task ⊎ IsUnreported files memory course.pipe
    pending_listed slots own recorded known = subst (λ o. IsListed new course.pipe o task ⊎ IsUnreported files memory course.pipe) (sym own)
        (listed (files old.handling.io course.pipe) refl behind slots recorded known)
