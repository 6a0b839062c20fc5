-- What calls on operations leave of jobs that wait for others.
use Rattle.std.proofs.Common.{ℕ, ◌≡◌, ap, sym, subst, Ok, Err, Some, arith}
use Rattle.std.specs.Prelude.{Option, Result}
use Rattle.rent_buf.specs.declared.fault.OutOfMemory.{OutOfMemory}
use Rattle.driver_core.specs.declared.op.Op.{Op}
use Rattle.driver_core.specs.declared.op.PollOp.{PollOp}
use Rattle.driver_core.specs.declared.op.PollOp.TheVariants.{Pending, Ready}
use Rattle.driver_core.specs.Op.{AddsToken, DropsToken, KeepsTokens, number_of}
use Rattle.driver_core.specs.Ops.{Ops}
use Rattle.driver_core.specs.Slot.{number_at}
use Rattle.ready_driver.specs.Awaits.{TokensFor}
use Rattle.ready_driver.specs.LegacyState.{LegacyState, ops_in}
use Rattle.op_job.specs.declared.op_job.State.{State}
use Rattle.op_job.specs.declared.op_job.State.TheVariants.{Unsent, Waiting}
use Rattle.core_exec.specs.Tasks.{AreSound, IsApart}
use Rattle.op_job.specs.declared.op_job.OpJob.{OpJob}
use Rattle.op_job.specs.OpJob.{ApartOps, ApartStates, FitsOps, FitsState, HoldsOps, KeepsApart}

module _ {B : Type 0} where
  -- A call that keeps every token keeps each state.
  pub kept_fits : (old new : Ops B) → KeepsTokens old new → new.given ≡ old.given → (state : State B) → FitsState old state
      → FitsState new state
  kept_fits old new keeps given (Unsent request) fits = tt
  kept_fits old new keeps given (Waiting op) fits = ((keeps op).0 fits.0, let below = fits.1 in omega (arith, below, given))

  -- A call that spends one token keeps each state that waits for another.
  pub dropped_fits : (old new : Ops B) (op : Op) → DropsToken old new op → new.given ≡ old.given → (state : State B) → FitsState old state
      → ApartStates {B = B} (Waiting op) state → FitsState new state
  dropped_fits old new op drops given (Unsent request) fits apart = tt
  dropped_fits old new op drops given (Waiting other) fits apart =
      ((drops other).1 (fits.0, λ same. apart (sym (ap number_of same))), let below = fits.1 in omega (arith, below, given))

  -- A poll keeps each state that waits for another.
  pub polled_others : (old new : Ops B) (op : Op) (result : Result (PollOp B) (OutOfMemory × Op)) → TokensFor old new op result
      → new.given ≡ old.given → KeepsApart old new (Waiting op)
  polled_others old new op (Ok (Pending back)) tokens given = λ other fits apart. kept_fits old new tokens.1 given other fits
  polled_others old new op (Ok (Ready done)) tokens given = λ other fits apart. dropped_fits old new op tokens given other fits apart
  polled_others old new op (Err error) tokens given = λ other fits apart. kept_fits old new tokens.1 given other fits

  -- A submission keeps each state.
  pub submitted_fits : (old new : Ops B) (op : Op) → AddsToken old new op → (state : State B) → FitsState old state → FitsState new state
  submitted_fits old new op adds (Unsent request) fits = tt
  submitted_fits old new op adds (Waiting other) fits =
      (adds.kept other fits.0, let below = fits.1 in let next = adds.next in omega (arith, below, next))

  -- Its operation is no other's.
  pub submitted_apart : (old new : Ops B) (op : Op) → AddsToken old new op → (other : State B) → FitsState old other
      → ApartStates {B = B} (Waiting op) other
  submitted_apart old new op adds (Unsent request) fits = tt
  submitted_apart old new op adds (Waiting other) fits = λ same.
      let below = fits.1 in let number = adds.number in absurd (omega (arith, below, number, same))

-- Jobs that are sound over a driver are so behind a call that keeps every token.
pub kept_sound : {D B F : Type 0} (ops : D → Ops B) (old new : D) (jobs : ℕ → Option (OpJob B F)) → KeepsTokens (ops old) (ops new)
    → (ops new).given ≡ (ops old).given → AreSound (FitsOps ops) ApartOps old jobs → AreSound (FitsOps ops) ApartOps new jobs
kept_sound ops old new jobs keeps given sound = record {
  all_fit = λ t job is. kept_fits (ops old) (ops new) keeps given job.state (sound.all_fit t job is);
  all_apart = sound.all_apart;
}

-- Where the slots' values are the same, every token is held as before.
same_tokens : {I B : Type 0} (old new : LegacyState I B) → new.slots.values ≡ old.slots.values → KeepsTokens (ops_in old) (ops_in new)
same_tokens old new same op = (
  (λ held. subst (λ v. number_at v op.key ≡ Some (number_of op)) (sym same) held),
  (λ held. subst (λ v. number_at v op.key ≡ Some (number_of op)) same held),
)

-- Over a readiness driver they are so behind a call that leaves each slot.
pub slots_sound : {I B F : Type 0} (old new : LegacyState I B) (jobs : ℕ → Option (OpJob B F)) → new.slots ≡ old.slots
    → new.given ≡ old.given → AreSound (FitsOps ops_in) ApartOps old jobs → AreSound (FitsOps ops_in) ApartOps new jobs
slots_sound old new jobs slots given sound = kept_sound ops_in old new jobs (same_tokens old new (ap (λ s. s.values) slots)) given sound

-- Jobs are sound behind the drop of one that was apart from them.
pub abandoned_sound : {D B F : Type 0} (ops : D → Ops B) (old new : D) (jobs : ℕ → Option (OpJob B F)) (task : ℕ) (job : OpJob B F)
    → AreSound (FitsOps ops) ApartOps old jobs → IsApart (FitsOps ops) ApartOps old jobs task job
    → ((other : OpJob B F) → HoldsOps ops old other → ApartOps job other → HoldsOps ops new other) → AreSound (FitsOps ops) ApartOps new jobs
abandoned_sound ops old new jobs task job sound apart others = record {
  all_fit = λ t other is. others other (sound.all_fit t other is) (apart.from t other is);
  all_apart = sound.all_apart;
}
