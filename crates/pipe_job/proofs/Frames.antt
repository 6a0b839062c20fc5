-- What calls on operations leave of jobs that wait for others.
use Rattle.std.proofs.Common.{ℕ, ◌≡◌, ◌≢◌, ◌≤◌, ◌<◌, ◌+◌, ◌∙◌, ◌⊎◌, inl, inr, ap, sym, refl, subst, Bool, true, false, Option, Some, None}
use Rattle.std.proofs.Common.{Ok, Err, arith}
use Rattle.std.specs.Prelude.{OnOk, Result, option_map}
use Rattle.std.specs.FinMap as map
use Rattle.std.specs.Ordering.{nat_cmp}
use Rattle.rent_buf.specs.Parts.{Parts}
use Rattle.rent_buf.specs.Rent.{Rented, buffer_of_rent}
use Rattle.rent_buf.specs.declared.fault.OutOfMemory.{OutOfMemory}
use Rattle.op_slots.specs.declared.lifecycle.Lifecycle.TheVariants.{Submitted, Completed}
use Rattle.machine.specs.declared.request.Request.{Request}
use Rattle.machine.specs.declared.request.TheConstants.{CANCELED}
use Rattle.machine.specs.declared.request.Outcome.{Outcome}
use Rattle.machine.specs.declared.request.Outcome.TheVariants.{Fail}
use Rattle.machine.specs.Request.{plain_request}
use Rattle.driver_core.specs.declared.op.Op.{Op}
use Rattle.driver_core.specs.declared.op.PollOp.{PollOp}
use Rattle.driver_core.specs.declared.op.PollOp.TheVariants.{Pending, Ready}
use Rattle.driver_core.specs.declared.slot.Slot.{Slot}
use Rattle.driver_core.specs.Op.{AddsToken, Holds, KeepsTokens, number_of}
use Rattle.driver_core.specs.Operations.{new_slot}
use Rattle.driver_core.specs.Ops.{Ops}
use Rattle.driver_core.specs.Requests.{KeepsRequests}
use Rattle.driver_core.specs.Slot.{is_flying, number_at, serial_of}
use Rattle.driver_core.proofs.Maps.{gone-other, put-other, put-same}
use Rattle.core_exec.specs.Tasks.{AreSound, IsApart}
use Rattle.ready_driver.specs.Calling.{request_in}
use Rattle.ready_driver.specs.LegacyState.{LegacyState, ops_in}
use Rattle.ready_driver.specs.Named.{PollsSlotFor, IsCompleted, canceled_if, canceled_in, canceled_slots}
use Rattle.pipe_job.specs.Course.{Coursed, IsNext}
use Rattle.pipe_job.specs.PipeJob.{ApartPipes, FitsPipe, HoldsPipe}
use Rattle.pipe_job.specs.Waits.{ApartWaits, FitsWait, HoldsWait, IsOwn, KeepsApart, NextIf}
use Rattle.pipe_job.specs.declared.pipe_job.PipeJob.{PipeJob}
use Rattle.pipe_job.specs.declared.step.Wait.{Wait}
use Rattle.pipe_job.specs.declared.step.Wait.TheVariants.{Room, Waiting}

-- Two tokens of one key that are held are the same.
same_token : (ops : Ops Rented) (one other : Op) → Holds ops one → Holds ops other → other.key ≡ one.key → other ≡ one
same_token ops one other holds holds_other same =
    let there : number_at ops.slots.values one.key ≡ Some (number_of other) = ap (number_at ops.slots.values) (sym same) ∙ holds_other in
    let number : other.number ≡ one.number = (let both : Some (number_of other) ≡ Some (number_of one) = sym there ∙ holds in cc) in
    ap (λ n. record { number = n; key = other.key }) number ∙ ap (λ k. record { number = one.number; key = k }) same

-- An operation of another number that is held has another key.
pub other_key : (ops : Ops Rented) (op other : Op) → Holds ops op → Holds ops other → number_of op ≢ number_of other → other.key ≢ op.key
other_key ops op other holds held apart = λ same. apart (sym (ap number_of (same_token ops op other holds held same)))

-- What fits a driver is held by it.
pub fits_holds : (ops : Ops Rented) (course : Coursed) (cancels : ℕ) (wait : Wait) → FitsWait ops course cancels wait → HoldsWait ops wait
fits_holds ops course cancels (Room room) fits = tt
fits_holds ops course cancels (Waiting op) fits = fits.0

-- An operation whose slot stays is that of its job still.
stays_fit : (old new : Ops Rented) (other : Op) (course : Coursed) (cancels : ℕ)
    → map.get new.slots.values other.key ≡ map.get old.slots.values other.key
    → old.given ≤ new.given → FitsWait old course cancels (Waiting other) → FitsWait new course cancels (Waiting other)
stays_fit old new other course cancels same given fits =
    (ap serial_of same ∙ fits.0, let below = fits.1 in omega (arith, below, given), subst (IsOwn course cancels) (sym same) fits.2)

-- A call that leaves each slot but that of an operation keeps what each other job waits for.
beside_fit_at : (old new : Ops Rented) (op : Op) → ((k : ℕ) → k ≢ op.key → map.get new.slots.values k ≡ map.get old.slots.values k)
    → old.given ≤ new.given → Holds old op → (course : Coursed) (cancels : ℕ) (other : Wait) → FitsWait old course cancels other
    → ApartWaits (Waiting op) other → FitsWait new course cancels other
beside_fit_at old new op others given holds course cancels (Room room) fits apart = tt
beside_fit_at old new op others given holds course cancels (Waiting other) fits apart =
    stays_fit old new other course cancels (others other.key (other_key old op other holds fits.0 apart)) given fits

-- So it keeps what each other job waits for.
beside_fit : (old new : Ops Rented) (op : Op) → ((k : ℕ) → k ≢ op.key → map.get new.slots.values k ≡ map.get old.slots.values k)
    → old.given ≤ new.given → Holds old op → KeepsApart old new (Waiting op)
beside_fit old new op others given holds = record { keep = beside_fit_at old new op others given holds }

-- A call that leaves each slot keeps what each job waits for.
pub all_fit : (old new : Ops Rented) → new.slots.values ≡ old.slots.values → new.given ≡ old.given
    → (course : Coursed) (cancels : ℕ) (wait : Wait)
    → FitsWait old course cancels wait → FitsWait new course cancels wait
all_fit old new same given course cancels (Room room) fits = tt
all_fit old new same given course cancels (Waiting op) fits =
    stays_fit old new op course cancels (ap (λ slots. map.get slots op.key) same) (omega (arith, given)) fits

-- So it keeps what each other job waits for.
pub all_apart : (old new : Ops Rented) (wait : Wait) → new.slots.values ≡ old.slots.values → new.given ≡ old.given → KeepsApart old new wait
all_apart old new wait same given = record {
  keep = λ course cancels other fits apart. all_fit old new same given course cancels other
      fits;
}

-- No call keeps all.
pub same_fit : (ops : Ops Rented) (wait : Wait) → KeepsApart ops ops wait
same_fit ops wait = record { keep = λ course cancels other fits apart. fits }

-- A poll keeps what each other job waits for.
pub polled_apart : (old new : Ops Rented) (op : Op) (result : Result (PollOp Rented) (OutOfMemory × Op)) → PollsSlotFor old new op result
    → new.given ≡ old.given → Holds old op → KeepsApart old new (Waiting op)
polled_apart old new op (Ok (Pending back)) slots given holds = beside_fit old new op slots.others (omega (arith, given)) holds
polled_apart old new op (Ok (Ready done)) slots given holds = beside_fit old new op slots.others (omega (arith, given)) holds
polled_apart old new op (Err error) slots given holds = beside_fit old new op slots.others (omega (arith, given)) holds

-- A drop keeps what each other job waits for.
pub dropped_apart : (old new : Ops Rented) (op : Op) → new.slots.values ≡ map.remove old.slots.values op.key → new.given ≡ old.given
    → Holds old op → KeepsApart old new (Waiting op)
dropped_apart old new op slots given holds = beside_fit old new op
    (λ k other. ap (λ s. map.get s k) slots ∙ gone-other old.slots.values op.key k other) (omega (arith, given)) holds

-- The slots once a cancel was asked for: each other one stays.
canceled_if-other : (b : Bool) (slots : map.FinMap nat_cmp (Slot Rented)) (key : ℕ) (slot : Slot Rented) (k : ℕ) → k ≢ key
    → map.get (canceled_if b slots key slot) k ≡ map.get slots k
canceled_if-other true slots key slot k other = put-other slots key _ k other
canceled_if-other false slots key slot k other = refl

-- So it is where there may be no slot at the key.
pub canceled-other : (slots : map.FinMap nat_cmp (Slot Rented)) (key : ℕ) (slot : Option (Slot Rented)) (k : ℕ) → k ≢ key
    → map.get (canceled_in slots key slot) k ≡ map.get slots k
canceled-other slots key None k other = refl
canceled-other slots key (Some slot) k other = canceled_if-other (is_flying slot.life) slots key slot k other

-- A cancel keeps what each other job waits for.
pub canceled_apart : (old new : Ops Rented) (op : Op) → new.slots.values ≡ canceled_slots old.slots.values op.key → new.given ≡ old.given
    → Holds old op → KeepsApart old new (Waiting op)
canceled_apart old new op slots given holds = beside_fit old new op
    (λ k other. ap (λ s. map.get s k) slots ∙ canceled-other old.slots.values op.key (map.get old.slots.values op.key) k other)
    (omega (arith, given)) holds

-- What moves bytes in a slot is read off its request.
moves_at : (course : Coursed) (one other : Option (Slot Rented)) → option_map (λ s. s.request) other ≡ option_map (λ s. s.request) one
    → NextIf course (request_in one) → NextIf course (request_in other)
moves_at course None None same moves = moves
moves_at course None (Some other) same moves = absurd moves
moves_at course (Some one) None same moves = absurd cc
moves_at course (Some one) (Some other) same moves =
    let is : other.request ≡ one.request = cc in subst (λ r. IsNext course (plain_request buffer_of_rent r)) (sym is) moves

-- A slot is completed behind a cancel only if it was before, or with the error of a cancel.
canceled_if-ends : (b : Bool) (slots : map.FinMap nat_cmp (Slot Rented)) (key : ℕ) (slot : Slot Rented) (outcome : Outcome)
    → map.get slots key ≡ Some slot → IsCompleted (map.get (canceled_if b slots key slot) key) outcome
    → (outcome ≡ Fail CANCELED) ⊎ IsCompleted (Some slot) outcome
canceled_if-ends true slots key slot outcome there is =
    inl (let same : Completed outcome ≡ Completed (Fail CANCELED) = sym (subst (λ s. IsCompleted s outcome)
    (put-same slots key _) is) in cc)
canceled_if-ends false slots key slot outcome there is = inr (subst (λ s. IsCompleted s outcome) there is)

-- So it is where there may be no slot at the key.
canceled-ends : (slots : map.FinMap nat_cmp (Slot Rented)) (key : ℕ) (slot : Option (Slot Rented)) (outcome : Outcome)
    → map.get slots key ≡ slot → IsCompleted (map.get (canceled_in slots key slot) key) outcome
    → (outcome ≡ Fail CANCELED) ⊎ IsCompleted slot outcome
canceled-ends slots key None outcome there is = inr (subst (λ s. IsCompleted s outcome) there is)
canceled-ends slots key (Some slot) outcome there is = canceled_if-ends (is_flying slot.life) slots key slot outcome there is

-- A job whose cancel was asked for waits for its operation still.
canceled_fits : (old new : Ops Rented) (op : Op) (course : Coursed) (cancels : ℕ) → KeepsTokens old new → KeepsRequests old new
    → new.slots.values ≡ canceled_slots old.slots.values op.key → new.given ≡ old.given → FitsWait old course cancels (Waiting op)
    → FitsWait new course (cancels + 1) (Waiting op)
canceled_fits old new op course cancels tokens requests slots given fits =
    let held = (tokens op).0 fits.0 in (
      held,
      let below = fits.1 in omega (arith, below, given),
      record {
        moves = moves_at course (map.get old.slots.values op.key) (map.get new.slots.values op.key) (requests op fits.0 held) fits.2.moves;
        asked = λ outcome is. (
          λ none. omega (arith, none),
          elim (canceled-ends old.slots.values op.key (map.get old.slots.values op.key) outcome refl
              (subst (λ s. IsCompleted (map.get s op.key) outcome) slots is)) [
                | inl error ↦ error
                | inr before ↦ (fits.2.asked outcome before).1
              ],
        );
      },
    )

-- So it is if the cancel isn't refused.
pub canceled_fits_if : (old new : Ops Rented) (op : Op) (course : Coursed) (cancels : ℕ) (result : Result Unit OutOfMemory)
    → KeepsTokens old new → KeepsRequests old new → OnOk result (new.slots.values ≡ canceled_slots old.slots.values op.key)
    → new.given ≡ old.given → FitsWait old course cancels (Waiting op) → OnOk result (FitsWait new course (cancels + 1) (Waiting op))
canceled_fits_if old new op course cancels (Ok done) tokens requests slots given fits =
    canceled_fits old new op course cancels tokens requests slots given fits
canceled_fits_if old new op course cancels (Err error) tokens requests slots given fits = tt

-- A new slot isn't completed.
fresh_slot : (slot : Slot Rented) → slot.life ≡ Submitted → (outcome : Outcome) → IsCompleted (Some slot) outcome → ⊥
fresh_slot slot life outcome is = let both : Submitted ≡ Completed outcome = sym life ∙ is in cc

-- The slot of a new operation has another key than that of each job.
pub submitted_key : (old new : Ops Rented) (op other : Op) → AddsToken old new op → Holds old other → number_of other < old.given
    → other.key ≢ op.key
submitted_key old new op other adds holds below = other_key new op other adds.this (adds.kept other holds)
    (λ same. let number = adds.number in omega (arith, number, below, same))

-- A submission keeps what each job waits for.
pub submitted_fits : (old new : Ops Rented) (op : Op) (request : Request Rented Parts) → AddsToken old new op
    → new.slots.values ≡ map.insert old.slots.values op.key (new_slot old request) → (course : Coursed) (cancels : ℕ) (other : Wait)
    → FitsWait old course cancels other → FitsWait new course cancels other
submitted_fits old new op request adds slots course cancels (Room room) fits = tt
submitted_fits old new op request adds slots course cancels (Waiting other) fits =
    stays_fit old new other course cancels
    (ap (λ s. map.get s other.key) slots ∙ put-other old.slots.values op.key (new_slot old request) other.key
    (submitted_key old new op other adds fits.0 fits.1))
    (let next = adds.next in omega (arith, next)) fits

-- So it keeps what each job waits for.
pub submitted_keeps : (old new : Ops Rented) (op : Op) (request : Request Rented Parts) (wait : Wait) → AddsToken old new op
    → new.slots.values ≡ map.insert old.slots.values op.key (new_slot old request) → KeepsApart old new wait
submitted_keeps old new op request wait adds slots = record {
  keep = λ course cancels other fits apart. submitted_fits old new op request adds slots course cancels other fits;
}

-- The job that submitted it waits for its operation.
pub submitted_own : (old new : Ops Rented) (op : Op) (request : Request Rented Parts) (course : Coursed) (cancels : ℕ)
    → AddsToken old new op
    → new.slots.values ≡ map.insert old.slots.values op.key (new_slot old request) → IsNext course (plain_request buffer_of_rent request)
    → FitsWait new course cancels (Waiting op)
submitted_own old new op request course cancels adds slots moves =
    let there : map.get new.slots.values op.key ≡ Some (new_slot old request) =
    ap (λ s. map.get s op.key) slots ∙ put-same old.slots.values op.key (new_slot old request) in (
      adds.this,
      (let number = adds.number in let next = adds.next in omega (arith, number, next)),
      subst (IsOwn course cancels) (sym there) (record {
        moves = moves;
        asked = λ outcome is. absurd (fresh_slot (new_slot old request) refl outcome is);
      }),
    )

-- Its operation is no other job's.
pub submitted_apart : (old new : Ops Rented) (op : Op) → AddsToken old new op → (course : Coursed) (cancels : ℕ) (other : Wait)
    → FitsWait old course cancels other → ApartWaits (Waiting op) other
submitted_apart old new op adds course cancels (Room room) fits = tt
submitted_apart old new op adds course cancels (Waiting other) fits = λ same.
    let below = fits.1 in let number = adds.number in omega (arith, below, number, same)

-- Jobs that are sound over a driver are so behind a call that leaves each slot.
pub kept_sound : {I : Type 0} (old new : LegacyState I Rented) (jobs : ℕ → Option PipeJob) → new.slots ≡ old.slots → new.given ≡ old.given
    → AreSound FitsPipe ApartPipes old jobs → AreSound FitsPipe ApartPipes new jobs
kept_sound old new jobs slots given sound = record {
  all_fit = λ t job is. all_fit (ops_in old) (ops_in new) (ap (λ s. s.values) slots) given job.course job.cancels job.wait
      (sound.all_fit t job is);
  all_apart = sound.all_apart;
}

-- Jobs are sound behind the drop of one that was apart from them.
pub abandoned_sound : {I : Type 0} (old new : LegacyState I Rented) (jobs : ℕ → Option PipeJob) (task : ℕ) (job : PipeJob)
    → AreSound FitsPipe ApartPipes old jobs → IsApart FitsPipe ApartPipes old jobs task job
    → ((other : PipeJob) → HoldsPipe old other → ApartPipes job other → HoldsPipe new other) → AreSound FitsPipe ApartPipes new jobs
abandoned_sound old new jobs task job sound apart others = record {
  all_fit = λ t other is. others other (sound.all_fit t other is) (apart.from t other is);
  all_apart = sound.all_apart;
}
