-- Jobs wait still behind calls on the operations of others.
use Rattle.std.proofs.Common.{ℕ, ◌≡◌, ◌≢◌, ◌∙◌, ◌⊎◌, inl, inr, ap, sym, refl, subst, Bool, true, false, true≢false, List, [], ◌∷◌}
use Rattle.std.proofs.Common.{Option, Some, None, Ok, Err, arith, eq-eqb}
use Rattle.std.specs.Prelude.{◌||◌, Result, is_some, option_map, option_to_list, unwrap_or}
use Rattle.std.specs.FinMap as map
use Rattle.std.specs.List.{Contains}
use Rattle.std.proofs.lemmas.List.Elements.{Contains-append_left, Contains-append_right}
use Rattle.rent_buf.specs.Parts.{Parts}
use Rattle.rent_buf.specs.Rent.{Rented}
use Rattle.rent_buf.specs.declared.fault.OutOfMemory.{OutOfMemory}
use Rattle.core_exec.specs.Job.{IfPending}
use Rattle.core_exec.specs.declared.job.JobStep.{JobStep}
use Rattle.core_exec.specs.declared.job.JobStep.TheVariants as job
use Rattle.machine.proofs.Numbers.{same-or-not}
use Rattle.machine.specs.Lists.{has_number}
use Rattle.machine.specs.Request.{named}
use Rattle.machine.specs.declared.request.Request.{Request}
use Rattle.driver_core.proofs.Maps.{gone-other, gone-same, put-other}
use Rattle.driver_core.specs.Holds.{named_in, unheld_by, without_ops}
use Rattle.driver_core.specs.Op.{AddsToken, Holds, number_of}
use Rattle.driver_core.specs.Operations.{new_slot}
use Rattle.driver_core.specs.Ops.{Ops}
use Rattle.driver_core.specs.declared.op.Op.{Op}
use Rattle.driver_core.specs.declared.op.PollOp.{PollOp}
use Rattle.driver_core.specs.declared.op.PollOp.TheVariants.{Pending, Ready}
use Rattle.driver_core.specs.declared.op.SubmitError.{SubmitError}
use Rattle.driver_core.specs.declared.op.Submitted.TheVariants as submission
use Rattle.driver_core.specs.declared.slot.Slot.{Slot}
use Rattle.ready_driver.specs.Awaits.{slot_awaits}
use Rattle.ready_driver.specs.Calling.{request_in}
use Rattle.ready_driver.specs.Io.{IoView}
use Rattle.ready_driver.specs.LegacyCalls.{JoinsOp, SubmitRefused, task_for, unwaited, unwaiting, waiting_task}
use Rattle.ready_driver.specs.LegacyState.{LegacyState, ops_in}
use Rattle.ready_driver.specs.Named.{PollsSlotFor, task_of}
use Rattle.ready_driver.specs.Others.{HasEntry, KeepsOthers, MeetsNone}
use Rattle.ready_driver.specs.Ready.{mask_of, meets}
use Rattle.ready_driver.specs.Records.{Kept, quiet, record_at, without_record}
use Rattle.ready_driver.specs.Registry.{AreRecorded, Handling, LetsGo, is_known, without_records}
use Rattle.ready_driver.specs.ScheduledIo.{waiter_of}
use Rattle.ready_driver.specs.declared.ready.Direction.{Direction}
use Rattle.ready_driver.specs.declared.scheduled_io.Waiter.{Waiter}
use Rattle.ready_driver.proofs.Others.{cancels-keep, entry-registered, entry-unwaiting, refused-keep, submits-keep, unmet-unwaiting}
use Rattle.ready_driver.proofs.Recorded.{none-meet}
use Rattle.op_driver.specs.Legacy.{LegacyCanceled, LegacyCancels}
use Rattle.pipe_job.specs.Awaits.{AwaitsJob, AwaitsPipe, IsListed, KeepsWaiting, WaitsPipe, WaitsWait}
use Rattle.pipe_job.specs.Course.{Coursed}
use Rattle.pipe_job.specs.PipeJob.{ApartPipes, AsksPipe, AsksWait, FitsPipe}
use Rattle.pipe_job.specs.Waits.{ApartWaits, FitsWait, NextIf}
use Rattle.pipe_job.specs.declared.pipe_job.PipeJob.{PipeJob}
use Rattle.pipe_job.specs.declared.step.Wait.{Wait}
use Rattle.pipe_job.specs.declared.step.Wait.TheVariants.{Room, Waiting}
use Rattle.pipe_job.proofs.Frames.{canceled-other, dropped_apart, other_key, polled_apart, submitted_key}
use Rattle.pipe_job.proofs.Submitting.{moves_named}

-- A job's operation names its pipe.
pub names_pipe : (course : Coursed) (slot : Option (Slot Rented)) → NextIf course (request_in slot)
    → has_number course.pipe (named_in slot) ≡ true
names_pipe course None moves = absurd moves
names_pipe course (Some slot) moves =
    ap (has_number course.pipe) (moves_named course slot.request moves) ∙ ap (λ b. b || false) (eq-eqb course.pipe course.pipe refl)

-- Somebody holds each handle that an operation of the driver names.
abbrev pub HoldsNamed : {I : Type 0} → LegacyState I Rented → Type 0
HoldsNamed driver = (key h : ℕ) → has_number h (named_in (map.get driver.slots.values key)) ≡ true → is_known driver.handling.table h ≡ true

-- So somebody holds the pipe of each job that waits for its operation.
pub known_pipe : {I : Type 0} (driver : LegacyState I Rented) → HoldsNamed driver → (course : Coursed) (cancels : ℕ) (op : Op)
    → FitsWait (ops_in driver) course cancels (Waiting op) → is_known driver.handling.table course.pipe ≡ true
known_pipe driver held course cancels op fits =
    held op.key course.pipe (names_pipe course (map.get driver.slots.values op.key) fits.2.moves)

-- A call leaves another operation its slot, and the entry that it has in the list of a handle.
pub record KeepsPlace {I : Type 0} (old new : LegacyState I Rented) (h : ℕ) (op : Op) : Type 0 where
  pub slot : map.get new.slots.values op.key ≡ map.get old.slots.values op.key
  pub entry : (entry : Waiter) → HasEntry old.handling.records h (number_of op) entry
      → HasEntry new.handling.records h (number_of op) entry

-- A call leaves jobs waiting that leaves their operations their places, brings no bit, and leaves whom the next turn is to name.
stays_by : {I : Type 0} (files : I → ℕ → Bool) (memory : Bool) (old new : LegacyState I Rented) (wait : Wait)
    → ((course : Coursed) (cancels : ℕ) (other : Op) → FitsWait (ops_in old) course cancels (Waiting other)
    → ApartWaits wait (Waiting other)
    → KeepsPlace old new course.pipe other)
    → ((h : ℕ) (dir : Direction) → MeetsNone old.handling.records h dir → MeetsNone new.handling.records h dir)
    → ((t : ℕ) → Contains old.asked t → Contains new.asked t)
    → KeepsWaiting files memory old new wait
stays_by files memory old new wait places unmet asked = record { keep = by }
  where
    by : (course : Coursed) (cancels task : ℕ) (other : Wait) → FitsWait (ops_in old) course cancels other → ApartWaits wait other
        → WaitsWait files memory old course.pipe task other → WaitsWait files memory new course.pipe task other
    by course cancels task (Room room) fits apart waits = absurd waits
    by course cancels task (Waiting other) fits apart (inl listed) =
        let place = places course cancels other fits apart in
        inl (record {
          direction = listed.direction;
          awaits = ap slot_awaits place.slot ∙ listed.awaits;
          waits = record {
            entry = place.entry _ listed.waits.entry;
            unmet = unmet course.pipe listed.direction listed.waits.unmet;
          };
        })
    by course cancels task (Waiting other) fits apart (inr (inl has)) = inr (inl (asked task has))
    by course cancels task (Waiting other) fits apart (inr (inr unreported)) = inr (inr unreported)

-- No call leaves all.
pub same_stays : {I : Type 0} (files : I → ℕ → Bool) (memory : Bool) (driver : LegacyState I Rented) (wait : Wait)
    → KeepsWaiting files memory driver driver wait
same_stays files memory driver wait = record { keep = λ course cancels task other fits apart waits. waits }

-- A poll leaves each other slot.
slot_others : (old new : Ops Rented) (op : Op) (result : Result (PollOp Rented) (OutOfMemory × Op)) → PollsSlotFor old new op result
    → (k : ℕ) → k ≢ op.key → map.get new.slots.values k ≡ map.get old.slots.values k
slot_others old new op (Ok (Pending back)) slots = slots.others
slot_others old new op (Ok (Ready done)) slots = slots.others
slot_others old new op (Err error) slots = slots.others

-- A poll leaves the others waiting.
pub polled_stays : {I : Type 0} (files : I → ℕ
    → Bool) (memory : Bool) (old new : LegacyState I Rented) (op : Op) (result : Result (PollOp Rented) (OutOfMemory × Op))
    → PollsSlotFor (ops_in old) (ops_in new) op result → new.given ≡ old.given → Holds (ops_in old) op
    → KeepsOthers old.handling new.handling (number_of op) → new.asked ≡ old.asked → HoldsNamed new
    → KeepsWaiting files memory old new (Waiting op)
polled_stays files memory old new op result slots given holds others asked held =
    let fit = polled_apart (ops_in old) (ops_in new) op result slots given holds in
    stays_by files memory old new (Waiting op) (λ course cancels other fits apart. record {
      slot = slot_others (ops_in old) (ops_in new) op result slots other.key (other_key (ops_in old) op other holds fits.0 apart);
      entry = λ entry has. others.entries course.pipe (number_of other) entry (λ same. apart (sym same))
          (known_pipe new held course cancels other (fit.keep course cancels (Waiting other) fits apart)) has;
    }) others.unmet (λ t has. subst (λ ts. Contains ts t) (sym asked) has)

module _ {I : Type 0} (files : I → ℕ → Bool) (view : I → IoView) (tells memory : Bool) where
  -- So does a submission,
  pub submitted_stays : (old new : LegacyState I Rented) (request : Request Rented Parts) (op : Op) (wait : Wait)
      → AddsToken (ops_in old) (ops_in new) op → JoinsOp view tells memory old new request None op → KeepsWaiting files memory old new wait
  submitted_stays old new request op wait adds joins = stays_by files memory old new wait (λ course cancels other fits apart. record {
    slot = ap (λ s. map.get s other.key) joins.slots ∙ put-other old.slots.values op.key (new_slot (ops_in old) request) other.key
        (submitted_key (ops_in old) (ops_in new) op other adds fits.0 fits.1);
    entry = λ entry has. subst (λ (s : Handling _). HasEntry s.records course.pipe (number_of other) entry) (sym joins.handling)
        (subst (λ k. HasEntry k course.pipe (number_of other) entry) (sym joins.ready.records)
        (entry-registered (named request) old.handling.records course.pipe (number_of other) entry has));
  }) (submits-keep view tells memory old new request None (submission.Op op) 0 joins).unmet
      (λ t has. subst (λ ts. Contains ts t) (sym joins.asked) has)

  -- and one that is refused.
  pub refused_stays : (old new : LegacyState I Rented) (request : Request Rented Parts) (refused : SubmitError Rented) (wait : Wait)
      → SubmitRefused view tells memory request old new refused → KeepsWaiting files memory old new wait
  refused_stays old new request refused wait is = stays_by files memory old new wait (λ course cancels other fits apart. record {
    slot = ap (λ s. map.get s other.key) is.same.slots;
    entry = λ entry has. subst (λ k. HasEntry k course.pipe (number_of other) entry) (sym is.handles.made.records)
        (entry-registered is.handles.front old.handling.records course.pipe (number_of other) entry has);
  }) (refused-keep view tells memory request old new refused 0 is).unmet (λ t has. subst (λ ts. Contains ts t) (sym is.same.asked) has)

-- So does a cancel.
pub canceled_stays : {I : Type 0} (files : I → ℕ
    → Bool) (memory : Bool) (old new : LegacyState I Rented) (op : Op) (result : Result Unit OutOfMemory)
    → LegacyCancels old new op result → Holds (ops_in old) op → KeepsWaiting files memory old new (Waiting op)
canceled_stays files memory old new op (Ok done) does holds =
    let slot = map.get old.slots.values op.key in
    stays_by files memory old new (Waiting op) (λ course cancels other fits apart. record {
      slot = ap (λ s. map.get s other.key) does.slots
          ∙ canceled-other old.slots.values op.key slot other.key (other_key (ops_in old) op other holds fits.0 apart);
      entry = λ entry has. subst (λ (s : Handling _). HasEntry s.records course.pipe (number_of other) entry) (sym does.waits)
          (entry-unwaiting old.handling.records (number_of op) (slot_awaits slot) course.pipe (number_of other) entry
          (λ same. apart (sym same)) has);
    }) (cancels-keep old.handling new.handling (number_of op) (slot_awaits slot) does.waits).unmet
    (λ t has. subst (λ ts. Contains ts t) (sym does.asked) (Contains-append_left old.asked _ t has))
canceled_stays files memory old new op (Err error) does holds = subst (λ d. KeepsWaiting files memory old d (Waiting op)) (sym does)
    (same_stays files memory old (Waiting op))

-- The record of a handle is gone with those of some, or it stays.
record_left : (handles : List ℕ) (records : Kept) (h : ℕ)
    → (record_at (without_records records handles) h ≡ None) ⊎ (record_at (without_records records handles) h ≡ record_at records h)
record_left [] records h = inr refl
record_left (n ∷ handles) records h = elim (record_left handles (without_record records n) h) [
  | inl gone ↦ inl gone
  | inr same ↦ elim (same-or-not h n) [
    | inl e ↦ inl (same ∙ ap (record_at (without_record records n)) e ∙ gone-same records.handles n)
    | inr e ↦ inr (same ∙ gone-other records.handles n h e)
  ]
]

-- The entry of an operation stays where the record of its handle does.
entry_left : (handles : List ℕ) (records : Kept) (h number : ℕ) (entry : Waiter)
    → is_some (record_at (without_records records handles) h) ≡ true → HasEntry records h number entry
    → HasEntry (without_records records handles) h number entry
entry_left handles records h number entry there has = elim (record_left handles records h) [
  | inl gone ↦ absurd (true≢false (sym there ∙ ap is_some gone))
  | inr same ↦ ap (λ x. waiter_of (unwrap_or (option_map (λ r. r.io) x) quiet).waiting number) same ∙ has
]

-- No bit comes where records go.
unmet_left : (handles : List ℕ) (records : Kept) (h : ℕ) (dir : Direction) → MeetsNone records h dir
    → MeetsNone (without_records records handles) h dir
unmet_left handles records h dir none = elim (record_left handles records h) [
  | inl gone ↦ ap (λ x. meets (unwrap_or (option_map (λ r. r.io) x) quiet).ready (mask_of dir)) gone ∙ none-meet dir
  | inr same ↦ ap (λ x. meets (unwrap_or (option_map (λ r. r.io) x) quiet).ready (mask_of dir)) same ∙ none
]

-- A drop leaves the others waiting.
module _ {I : Type 0} (files : I → ℕ → Bool) (view : I → IoView) (tells memory : Bool) (old new : LegacyState I Rented) (op : Op)
    (lets : LetsGo view tells memory (unwaited old.handling (number_of op) (map.get old.slots.values op.key))
    (without_ops old.handling.table (named_in (map.get old.slots.values op.key)))
    (unheld_by old.handling.table (named_in (map.get old.slots.values op.key))) new.handling) where
  pub dropped_stays : new.slots.values ≡ map.remove old.slots.values op.key → new.given ≡ old.given → new.asked ≡ old.asked
      → Holds (ops_in old) op → AreRecorded new.handling.table new.handling.records → HoldsNamed new
      → KeepsWaiting files memory old new (Waiting op)
  dropped_stays slots given asked holds recorded held =
      let slot = map.get old.slots.values op.key in
      let gone = unheld_by old.handling.table (named_in slot) in
      let mid = unwaiting old.handling.records (number_of op) (slot_awaits slot) in
      let fit = dropped_apart (ops_in old) (ops_in new) op slots given holds in
      stays_by files memory old new (Waiting op) (λ course cancels other fits apart. record {
        slot = ap (λ s. map.get s other.key) slots
            ∙ gone-other old.slots.values op.key other.key (other_key (ops_in old) op other holds fits.0 apart);
        entry = λ entry has. subst (λ k. HasEntry k course.pipe (number_of other) entry) (sym lets.records)
            (entry_left gone mid course.pipe (number_of other) entry
            (ap (λ k. is_some (record_at k course.pipe)) (sym lets.records) ∙ recorded course.pipe
            ∙ known_pipe new held course cancels other (fit.keep course cancels (Waiting other) fits apart))
            (entry-unwaiting old.handling.records (number_of op) (slot_awaits slot) course.pipe (number_of other) entry
            (λ same. apart (sym same)) has));
      }) (λ h dir none. subst (λ k. MeetsNone k h dir) (sym lets.records)
      (unmet_left gone mid h dir (unmet-unwaiting old.handling.records (number_of op) (slot_awaits slot) h dir none)))
      (λ t has. subst (λ ts. Contains ts t) (sym asked) has)

-- The cancel of a job leaves the others waiting.
asks_stay : {I : Type 0} (files : I → ℕ → Bool) (memory : Bool) (old new : LegacyState I Rented) (course : Coursed) (cancels : ℕ)
    (wait : Wait) (result : Result Unit OutOfMemory)
    → AsksWait old new wait result → FitsWait (ops_in old) course cancels wait → KeepsWaiting files memory old new wait
asks_stay files memory old new course cancels (Room room) result asks fits =
    subst (λ d. KeepsWaiting files memory old d (Room room)) (sym asks.0) (same_stays files memory old (Room room))
asks_stay files memory old new course cancels (Waiting op) result asks fits = canceled_stays files memory old new op result asks fits.0

-- Asking for the cancel of a job leaves what another one waits for.
pub asked_stays : {I : Type 0} (files : I → ℕ
    → Bool) (memory : Bool) (old new : LegacyState I Rented) (job : PipeJob) (result : Result Unit OutOfMemory)
    → AsksPipe old new job result → (s : ℕ) × FitsPipe old s job
    → (other : PipeJob) (s : ℕ) → FitsPipe old s other → ApartPipes job other → WaitsPipe files memory old s other
    → WaitsPipe files memory new s other
asked_stays files memory old new job result asks fits other s fit apart waits =
    (asks_stay files memory old new job.course job.cancels job.wait result asks fits.1).keep other.course other.cancels s other.wait fit
    apart
    waits

-- The next turn names the task of an operation that is listed, once its cancel was asked for.
cancel_names : {I : Type 0} (old new : LegacyState I Rented) (h task : ℕ) (op : Op) → LegacyCanceled old new op → IsListed old h op task
    → Contains new.asked task
cancel_names old new h task op does listed =
    let slot = map.get old.slots.values op.key in
    let names : waiting_task old.handling.records (number_of op) slot ≡ Some task =
    ap (λ a. task_for old.handling.records (number_of op) a (task_of slot)) listed.awaits
    ∙ ap (option_map (λ w. w.task)) listed.waits.entry in
    subst (λ ts. Contains ts task) (sym does.asked) (Contains-append_right old.asked _ task
    (subst (λ t. Contains (option_to_list t) task) (sym names) (0, omega arith, refl)))

-- So a job whose cancel was asked for waits still, if it waited.
asks_wait : {I : Type 0} (files : I → ℕ → Bool) (memory : Bool) (old new : LegacyState I Rented) (pipe task : ℕ) (wait : Wait)
    (result : Result Unit OutOfMemory)
    → AsksWait old new wait result → WaitsWait files memory old pipe task wait → WaitsWait files memory new pipe task wait
asks_wait files memory old new pipe task (Room room) result asks waits = absurd waits
asks_wait files memory old new pipe task (Waiting op) (Ok done) asks (inl listed) = inr (inl
    (cancel_names old new pipe task op asks listed))
asks_wait files memory old new pipe task (Waiting op) (Ok done) asks (inr (inl has)) =
    inr (inl (subst (λ ts. Contains ts task) (sym asks.asked) (Contains-append_left old.asked _ task has)))
asks_wait files memory old new pipe task (Waiting op) (Ok done) asks (inr (inr unreported)) = inr (inr unreported)
asks_wait files memory old new pipe task (Waiting op) (Err error) asks waits = subst (λ d. WaitsWait files memory d pipe task
    (Waiting op)) (sym asks) waits

-- And what the job itself waits for.
pub asked_waits : {I : Type 0} (files : I → ℕ
    → Bool) (memory : Bool) (old new : LegacyState I Rented) (job next : PipeJob) (result : Result Unit OutOfMemory)
    → AsksPipe old new job result → next.wait ≡ job.wait → next.course.pipe ≡ job.course.pipe → (s : ℕ) → WaitsPipe files memory old s job
    → WaitsPipe files memory new s next
asked_waits files memory old new job next result asks wait pipe s waits =
    subst (λ p. WaitsWait files memory new p s next.wait) (sym pipe) (subst (WaitsWait files memory new job.course.pipe s) (sym wait)
    (asks_wait files memory old new job.course.pipe s job.wait result asks waits))

-- A job that is pending waits.
listed_waits : {I : Type 0} (files : I → ℕ → Bool) (memory : Bool) (driver : LegacyState I Rented) (pipe task : ℕ) (wait : Wait)
    → AwaitsPipe files memory driver pipe task wait
    → WaitsWait files memory driver pipe task wait
listed_waits files memory driver pipe task (Room room) awaits = awaits
listed_waits files memory driver pipe task (Waiting op) (inl listed) = inl listed
listed_waits files memory driver pipe task (Waiting op) (inr unreported) = inr (inr unreported)

-- A job that is left pending waits as it says.
pub left_waits : {I O : Type 0} (files : I → ℕ
    → Bool) (memory : Bool) (driver : LegacyState I Rented) (task : ℕ) (result : JobStep PipeJob O)
    → AwaitsJob files memory driver task result
    → IfPending result (WaitsPipe files memory driver task)
left_waits files memory driver task (job.Done out) awaits = tt
left_waits files memory driver task (job.Pending next) awaits = listed_waits files memory driver next.course.pipe task next.wait awaits
left_waits files memory driver task (job.OutOfMemory next) awaits = tt
