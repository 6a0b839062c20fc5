-- How far a poll that returns a job's operation brings the job, and why it fails.
use Rattle.std.proofs.Common.{ℕ, ◌≡◌, ◌∙◌, ◌⊎◌, ap, sym, refl, subst, Bool, true, false, true≢false, IsTrue}
use Rattle.std.proofs.Common.{inl, inr, ◌++◌, Some, None, Ok}
use Rattle.std.specs.Prelude.{if◌then◌else◌}
use Rattle.std.specs.FinMap as map
use Rattle.driver_core.proofs.Holds.{user-left}
use Rattle.handle_core.specs.Table.{Table, holders_at, nobody}
use Rattle.std.specs.Prelude.{unwrap_or}
use Rattle.machine.specs.Request.{named}
use Rattle.rent_buf.specs.Buffer.{Buffer}
use Rattle.rent_buf.specs.Parts.{Parts}
use Rattle.rent_buf.specs.Rent.{Rented, buffer_of_rent}
use Rattle.rent_buf.specs.declared.fault.IoFault.{IoFault}
use Rattle.rent_buf.specs.declared.fault.IoFault.TheVariants as fault
use Rattle.machine.specs.declared.request.TheConstants.{CANCELED}
use Rattle.machine.specs.declared.request.Outcome.{Outcome}
use Rattle.machine.specs.declared.request.Outcome.TheVariants.{Count, From, Made, Fail}
use Rattle.machine.specs.declared.request.Request.{Request}
use Rattle.machine.specs.Attempt.{is_file_at}
use Rattle.machine.specs.Effect.{made_by}
use Rattle.machine.specs.Request.{plain_request}
use Rattle.machine.specs.World.{input_at}
use Rattle.driver_core.specs.declared.op.Done.{Done as Ended}
use Rattle.driver_core.specs.declared.op.Op.{Op}
use Rattle.driver_core.specs.declared.op.PollOp.TheVariants.{Ready}
use Rattle.driver_core.specs.declared.operations.calls.CallAnswer.TheVariants.{Done}
use Rattle.driver_core.specs.Op.{number_of}
use Rattle.ready_driver.specs.Awaits.{awaits, is_met_at, slot_awaits, unless}
use Rattle.ready_driver.specs.Calling.{Called, CallsOnce}
use Rattle.ready_driver.specs.Io.{EndsFor, IoView, IsMade}
use Rattle.ready_driver.specs.Errors.{FailsFor}
use Rattle.ready_driver.specs.LegacyPolls.{EndsOp, HandsOver, outcome_by, outcome_for}
use Rattle.ready_driver.specs.LegacyState.{LegacyState, ops_in}
use Rattle.ready_driver.specs.Others.{KeepsOthers}
use Rattle.pipe_job.specs.Causes.{HasEnded, PipeFaultFor}
use Rattle.pipe_job.specs.Course.{BringsOn, Coursed, FailsBy, IsNext, IsSameBytes}
use Rattle.pipe_job.specs.Moves.{HasOwn, MeetsBit, MovesOn, is_pipe_at}
use Rattle.pipe_job.specs.Rest.{SameUsers}
use Rattle.pipe_job.specs.Waits.{FitsWait, NextIf}
use Rattle.pipe_job.specs.declared.step.Wait.TheVariants.{Waiting}
use Rattle.pipe_job.proofs.Awaiting.{flying_awaits}
use Rattle.pipe_job.proofs.Calls.{Lawful, error_causes, moves_makes}
use Rattle.pipe_job.proofs.Moved.{Counts, ToldFault, counts, fault_told, which}

-- An error of a job is its operation's.
os_fails : (was : Coursed) (outcome : Outcome) (request : Request Rented Parts) (e : ℕ) → FailsBy was outcome request (fault.Os e)
    → outcome ≡ Fail e
os_fails was (Fail n) request e fails = let same : n ≡ e = cc in ap Fail same
os_fails was (From k addr) request e fails = absurd cc
os_fails was (Made h) request e fails = absurd cc
os_fails was (Count k) request e fails = absurd (elim (which request) [
  | inl back ↦ subst (λ r. FailsBy was (Count k) r (fault.Os e)) back.is fails
  | inr (inl back) ↦ subst (λ r. FailsBy was (Count k) r (fault.Os e)) back.is fails
  | inr (inr other) ↦ (let no = other.1 was k (fault.Os e) fails in absurd cc)
])

-- Only a count brings a job on.
brings_counts : (was is : Coursed) (outcome : Outcome) (request : Request Rented Parts) → BringsOn was is outcome request
    → (k : ℕ) × (outcome ≡ Count k)
brings_counts was is (Count k) request brings = (k, refl)
brings_counts was is (From k addr) request brings = absurd brings
brings_counts was is (Made h) request brings = absurd brings
brings_counts was is (Fail e) request brings = absurd brings

-- A call that made no handle has its own outcome.
same_outcome : (table : Table) (call : Outcome) → made_by call ≡ None → outcome_for table call ≡ call
same_outcome table call none = ap (outcome_by table call) none

-- That of a job's next request made none.
unmade : (was : Coursed) (call : Outcome) (request : Request Rented Parts) (now : Request Buffer Parts)
    → IsNext was (plain_request buffer_of_rent request) → EndsFor (plain_request buffer_of_rent request) now call → made_by call ≡ None
unmade was (Count k) request now next ends = refl
unmade was (From k addr) request now next ends = refl
unmade was (Fail e) request now next ends = refl
unmade was (Made h) request now next ends = absurd (true≢false (sym ends.0 ∙ moves_makes was request next))

module _ {I : Type 0} (files : I → ℕ → Bool) (view : I → IoView) (tells memory : Bool) (called : Called I)
    (law : Lawful view tells memory called) (filed : IsTrue memory → (io : I) (h : ℕ) → files io h ≡ is_file_at (view io).world h)
    (shows : IsTrue memory → IsTrue tells) (old new : LegacyState I Rented) (op : Op) (task : ℕ) (was : Coursed) (cancels : ℕ)
    (done : Ended Rented) (ends : EndsOp files buffer_of_rent called view tells memory old new op task done)
    (fits : FitsWait (ops_in old) was cancels (Waiting op)) where
  -- The call that a poll made, on the job's next request.
  record MadeOne : Type 0 where
    request : Request Rented Parts
    next : IsNext was (plain_request buffer_of_rent request)
    awaited : slot_awaits (map.get old.slots.values op.key) ≡ awaits request
    met : is_met_at old.handling.records (unless (files old.handling.io) (slot_awaits (map.get old.slots.values op.key))) ≡ true
    made : IsMade tells memory (view old.handling.io) (plain_request buffer_of_rent request) (view ends.mid.io)
        (plain_request buffer_of_rent done.request) ends.call

  -- It made one, if the operation wasn't canceled before.
  called_one : (ends.call ≡ Fail CANCELED) ⊎ MadeOne
  called_one =
      by (is_met_at old.handling.records (unless (files old.handling.io) (slot_awaits (map.get old.slots.values op.key)))) refl ends.calls
    where
      by : (b : Bool) → is_met_at old.handling.records (unless (files old.handling.io) (slot_awaits (map.get old.slots.values op.key))) ≡ b
          → CallsOnce b buffer_of_rent called (map.get old.slots.values op.key) old.handling.io
          (map.get new.slots.values op.key) ends.mid.io
          (Ok (Ready (record done { outcome = ends.call }))) → (ends.call ≡ Fail CANCELED) ⊎ MadeOne
      by false met calls = absurd calls
      by true met (inl none) = inl (fits.2.asked ends.call none.1).1
      by true met (inr made) = inr (record {
        request = made.request;
        next = subst (NextIf was) made.asked fits.2.moves;
        awaited = flying_awaits (map.get old.slots.values op.key) made.request made.asked made.flies;
        met = met;
        made = law old.handling.io (plain_request buffer_of_rent made.request) ends.mid.io (plain_request buffer_of_rent done.request)
            (Done ends.call) made.calls;
      })

  -- It made no handle.
  made_none : made_by ends.call ≡ None
  made_none = elim called_one [
    | inl canceled ↦ ap made_by canceled
    | inr one ↦ unmade was ends.call one.request (plain_request buffer_of_rent done.request) one.next
        one.made.ends
  ]

  out : done.outcome ≡ ends.call
  out = ends.outcome ∙ same_outcome ends.mid.table ends.call made_none

  handed_over : ends.handed ≡ ends.mid
  handed_over = subst (λ m. HandsOver view tells memory ends.mid m ends.handed) (ap made_by out ∙ made_none) ends.hands

  -- So the user holds each handle as often.
  pub returned_users : SameUsers old.handling.table new.handling.table
  returned_users = λ h. ap (λ t. (holders_at t h).user) ends.lets.holders ∙ user-left ends.handed.table (named done.request) h
      ∙ ap (λ s. (holders_at s.table h).user) handed_over
      ∙ ap (λ m. (unwrap_or (map.get m h) nobody).user) ends.polls.table

  -- Behind the call no bytes moved.
  left : IsTrue tells → (view new.handling.io).world ≡ (view ends.mid.io).world
  left = λ t. ends.lets.object.world t ∙ ap (λ h. (view h.io).world) handed_over

  -- How far it brought the job.
  pub brought : (is : Coursed) → IsSameBytes was is → BringsOn was is done.outcome done.request
      → KeepsOthers old.handling new.handling (number_of op) → MovesOn view tells memory was is old new
  brought is same brings others = elim called_one [
    | inl canceled ↦ absurd (let no : Count count.0 ≡ Fail CANCELED = sym count.1 ∙ out ∙ canceled in cc)
    | inr one ↦ by one (counts tells memory (view old.handling.io) (view ends.mid.io) was is same one.request done.request count.0 one.next
        (subst (λ c. IsMade tells memory (view old.handling.io) (plain_request buffer_of_rent one.request) (view ends.mid.io)
        (plain_request buffer_of_rent done.request) c) (sym out ∙ count.1) one.made)
        (subst (λ o. BringsOn was is o done.request) count.1 brings))
  ]
    where
      count : (k : ℕ) × (done.outcome ≡ Count k)
      count = brings_counts was is done.outcome done.request brings

      by : (one : MadeOne) → Counts tells memory (view old.handling.io) (view ends.mid.io) was is same one.request
          → MovesOn view tells memory was is old new
      by one c =
          let bit : IsTrue memory → MeetsBit old.handling.records was.pipe c.dir = λ told.
          subst (λ b. is_met_at old.handling.records (if b then None else Some (was.pipe, c.dir)) ≡ true)
          (filed told old.handling.io was.pipe ∙ c.counted.file (shows told))
          (subst (λ a. is_met_at old.handling.records (unless (files old.handling.io) a) ≡ true) (one.awaited ∙ c.awaited) one.met) in
          record {
            same = same;
            moves = record {
              sent = c.counted.sent;
              got = c.counted.got;
              writes = λ told some. subst (MeetsBit old.handling.records was.pipe) (c.counted.out some) (bit told);
              reads = λ told some. subst (MeetsBit old.handling.records was.pipe) (c.counted.into some) (bit told);
              line = λ t. c.counted.line t ∙ ap (λ w. c.counted.got ++ input_at w was.pipe) (sym (left t));
            };
            sends = c.counted.sends;
            gets = c.counted.gets;
            after = c.counted.after;
            kind = λ t. ap (λ w. is_pipe_at w was.pipe) (left t) ∙ c.counted.kind t;
            unmet = others.unmet was.pipe;
          }

  -- What is so of the pipe behind the call is so still.
  told_since : (why : IoFault) → ToldFault tells (view old.handling.io) (view ends.mid.io) was why
      → ToldFault tells (view old.handling.io) (view new.handling.io) was why
  told_since (fault.Os e) is = tt
  told_since fault.UnexpectedEof is = λ t. subst (λ w. HasEnded w was.pipe) (sym (left t)) (is t)
  told_since fault.WriteZero is = is
  told_since fault.InvalidData is = is
  told_since fault.ReadFault is = absurd is
  told_since fault.WriteFault is = absurd is
  told_since fault.OutOfMemory is = absurd is

  -- Why the job fails.
  why_told : (why : IoFault) → FailsBy was done.outcome done.request why
      → ToldFault tells (view old.handling.io) (view new.handling.io) was why
  why_told why fails = elim called_one [
    | inl canceled ↦ subst (ToldFault tells (view old.handling.io) (view new.handling.io) was)
        (sym (subst (λ o. FailsBy was o done.request why) (out ∙ canceled) fails)) tt
    | inr one ↦ told_since why (fault_told tells memory (view old.handling.io) (view ends.mid.io) was ends.call one.request done.request why
        one.next one.made (subst (λ o. FailsBy was o done.request why) out fails))
  ]

  pub ready_causes : (why : IoFault) → FailsFor view old new op (Ok (Ready done)) → FailsBy was done.outcome done.request why
      → PipeFaultFor view tells was.pipe cancels (HasOwn (view old.handling.io).world was) old new why
  ready_causes (fault.Os e) error fails =
      error_causes view tells memory called law files old new op task was cancels e (HasOwn
      (view old.handling.io).world was) done ends error
      fits (os_fails was done.outcome done.request e fails)
  ready_causes fault.UnexpectedEof error fails = why_told fault.UnexpectedEof fails
  ready_causes fault.WriteZero error fails = why_told fault.WriteZero fails
  ready_causes fault.InvalidData error fails = why_told fault.InvalidData fails
  ready_causes fault.ReadFault error fails = absurd (why_told fault.ReadFault fails)
  ready_causes fault.WriteFault error fails = absurd (why_told fault.WriteFault fails)
  ready_causes fault.OutOfMemory error fails = absurd (why_told fault.OutOfMemory fails)
