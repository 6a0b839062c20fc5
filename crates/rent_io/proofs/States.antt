-- Polls of a state, one behind the other.
use Rattle.std.proofs.Common.{◌≡◌, ℕ, ◌+◌, ◌<◌, ◌≤◌, ◌⊎◌, inl, inr, ap, subst, arith}
use Rattle.rent_io.specs.declared.poll.Step.{Step}
use Rattle.rent_io.specs.declared.poll.Step.TheVariants.{Ready, Pending, Again}
use Rattle.rent_io.specs.Completeness.{Completes}
use Rattle.rent_io.specs.Counts.{Counts, Rose}
use Rattle.rent_io.specs.Runs.{AreUsed}
use Rattle.rent_io.specs.State.{Advances}

-- A poll gets on where none of the counts rose.
gets_on : {S R : Type 0} (moved due : S → ℕ) (ends : R → Type 0) (before now : Counts) (s : S) (step : Step S R)
    → Advances moved due ends before now s step → Completes before now step ends (λ next. moved s + due next < moved next + due s)
gets_on moved due ends before now s (Ready end) is quiet = is quiet
gets_on moved due ends before now s (Pending next) is quiet = quiet.1 is.1
gets_on moved due ends before now s (Again next) (inl broken) quiet = absurd (quiet.2 broken.1)
gets_on moved due ends before now s (Again next) (inr further) quiet = further

-- The same of the state that it is seen as.
pub completes : {S R : Type 0} (moved due : S → ℕ) (ends : S → R → Type 0) (before now : Counts) (s seen : S) → s ≡ seen → (step : Step S R)
    → Advances moved due (ends s) before now s step
    → Completes before now step (ends seen) (λ next. moved seen + due next < moved next + due seen)
completes moved due ends before now s seen same step is =
    subst (λ x. Completes before now step (ends x) (λ next. moved x + due next < moved next + due x)) same
    (gets_on moved due (ends s) before now s step is)

module _ {S : Type 0} (moved due : S → ℕ) (polls : ℕ) (s t next : S) (before mid now : Counts)
    (used : AreUsed polls (moved s + due t) (moved t + due s) before mid)
    (pauses : mid.pauses ≤ now.pauses) (interrupts : mid.interrupts ≤ now.interrupts) where
  -- A poll that paused is used.
  pub used_paused : next ≡ t → Rose mid.pauses now.pauses → AreUsed (polls + 1) (moved s + due next) (moved next + due s) before now
  used_paused same rose = record {
    paused = used.paused + 1;
    interrupted = used.interrupted;
    each = omega (arith, used.each, ap moved same, ap due same);
    pauses = omega (arith, used.pauses, rose);
    interrupts = omega (arith, used.interrupts, interrupts);
  }

  -- And one that was interrupted, or moved something.
  pub used_again : ((next ≡ t) × Rose mid.interrupts now.interrupts) ⊎ (moved t + due next < moved next + due t)
      → AreUsed (polls + 1) (moved s + due next) (moved next + due s) before now
  used_again (inl broken) = record {
    paused = used.paused;
    interrupted = used.interrupted + 1;
    each = omega (arith, used.each, ap moved broken.0, ap due broken.0);
    pauses = omega (arith, used.pauses, pauses);
    interrupts = omega (arith, used.interrupts, broken.1);
  }
  used_again (inr further) = record {
    paused = used.paused;
    interrupted = used.interrupted;
    each = omega (arith, used.each, further);
    pauses = omega (arith, used.pauses, pauses);
    interrupts = omega (arith, used.interrupts, interrupts);
  }
