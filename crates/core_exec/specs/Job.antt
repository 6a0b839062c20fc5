-- What a poll of a job does. Cited by `Job`.
use Rattle.std.specs.Prelude.{ℕ, suc, ◌≡◌, List}
use Rattle.core_exec.specs.declared.job.JobStep.{JobStep}
use Rattle.core_exec.specs.declared.job.JobStep.TheVariants.{Done, Pending, OutOfMemory}

-- A fact of the job that a poll gave back, if it gave it back.
abbrev pub IfBack : {J O : Type 0} → JobStep J O → (J → Type 0) → Type 0
IfBack (Done out) P = Unit {0}
IfBack (Pending job) P = P job
IfBack (OutOfMemory job) P = P job

-- A fact of the job that a poll left pending, if it did.
abbrev pub IfPending : {J O : Type 0} → JobStep J O → (J → Type 0) → Type 0
IfPending (Done out) P = Unit {0}
IfPending (Pending job) P = P job
IfPending (OutOfMemory job) P = Unit {0}

-- A poll counts as one, and leaves the cancels and the aim; an output meets it.
pub record IsNext {J : Type 0} (polls cancels : J → ℕ) (aim : J → List ℕ) (job next : J) : Type 0 where
  pub polled : polls next ≡ suc (polls job)
  pub canceled : cancels next ≡ cancels job
  pub same_aim : aim next ≡ aim job

abbrev pub Steps : {J O : Type 0} → (J → ℕ) → (J → ℕ) → (J → List ℕ) → (List ℕ → O → Type 0) → J → JobStep J O → Type 0
Steps polls cancels aim meets job (Done out) = meets (aim job) out
Steps polls cancels aim meets job (Pending next) = IsNext polls cancels aim job next
Steps polls cancels aim meets job (OutOfMemory next) = IsNext polls cancels aim job next
