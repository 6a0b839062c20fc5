-- States that are polled with a stream, and the cancel group that their calls are put under.
use Rattle.std.specs.Prelude.{ℕ, ◌≡◌, ◌+◌, ◌<◌, ◌⊎◌, Option, None, Some}
use Rattle.rent_io.specs.declared.poll.Step.{Step}
use Rattle.rent_io.specs.declared.poll.Step.TheVariants.{Ready, Pending, Again}
use Rattle.rent_io.specs.Completeness.{IsQuiet}
use Rattle.rent_io.specs.Counts.{Counts, Rose}

-- A state, and the group, if any.
pub record Called (S : Type 0) : Type 0 where
  pub state : S
  pub group : Option ℕ

-- A state whose calls are plain, and one whose calls are put under a group.
abbrev pub plain : {S : Type 0} → S → Called S
plain state = record { state = state; group = None }

abbrev pub under : {S : Type 0} → ℕ → S → Called S
under group state = record { state = state; group = Some group }

-- An answer of it as one of the state.
abbrev pub plainly : {S R : Type 0} → Step (Called S) R → Step S R
plainly (Ready end) = Ready end
plainly (Pending next) = Pending next.state
plainly (Again next) = Again next.state

-- Polls, the last of which was the end, or none.
abbrev pub Ran : {S R : Type 0} → (R → Type 0) → (S → Type 0) → Step S R → Type 0
Ran ended goes (Ready end) = ended end
Ran ended goes (Pending next) = goes next
Ran ended goes (Again next) = goes next

-- A fact of a state that isn't done.
abbrev pub IfGoesOn : {S R : Type 0} → Step S R → (S → Type 0) → Type 0
IfGoesOn (Ready end) P = Unit {0}
IfGoesOn (Pending next) P = P next
IfGoesOn (Again next) P = P next

-- A state that comes back is under the same group.
abbrev pub KeepsGroup : {S R : Type 0} → Option ℕ → Step (Called S) R → Type 0
KeepsGroup group step = IfGoesOn step (λ next. next.group ≡ group)

-- A poll ends so where no count of faults, pauses or interrupts rose; the state is as it was, since the stream paused or was interrupted;
-- or the poll moved something.
abbrev pub Advances : {S R : Type 0} → (S → ℕ) → (S → ℕ) → (R → Type 0) → Counts → Counts → S → Step S R → Type 0
Advances moved due ends before now s (Ready end) = IsQuiet before now → ends end
Advances moved due ends before now s (Pending next) = (next ≡ s) × Rose before.pauses now.pauses
Advances moved due ends before now s (Again next) =
    ((next ≡ s) × Rose before.interrupts now.interrupts) ⊎ (moved s + due next < moved next + due s)
