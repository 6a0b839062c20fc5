-- Polls of an exact read, one behind the other.
use Rattle.std.proofs.Common.{◌≡◌, ◌∙◌, ℕ, ◌+◌, ◌-◌, ◌≤◌, inl, inr, List, [], ◌++◌, Bool, length, take, sym, ap, arith, add-zero}
use Rattle.std.proofs.Common.{length-append}
use Rattle.std.specs.Prelude.{Result, IfErr}
use Rattle.std.proofs.lemmas.List.{length-take, length-drop}
use Rattle.rent_buf.specs.Buffer.{Buffer, BufferBounds, room, put, shown}
use Rattle.rent_buf.specs.Parts.{Parts}
use Rattle.rent_buf.specs.declared.fault.IoFault.{IoFault}
use Rattle.rent_io.specs.declared.poll.Step.{Step}
use Rattle.rent_io.specs.Completeness.{IsShort}
use Rattle.rent_io.specs.Reader.{Reader}
use Rattle.rent_io.specs.ReadExact.{Filling, lacks, with_more, filled_with, Fills, FillsOn, IsFilled, StopsFilling, ReadsExact, HasFilled}
use Rattle.rent_io.specs.ReadExact.{EndsExact}
use Rattle.rent_io.specs.State.{Advances, Ran}
use Rattle.rent_io.proofs.ReadStates.{early_later, early_short, gave_none, read_advances, read_ends, read_more, read_short}
use Rattle.rent_io.proofs.Runs.{fails_later}
use Rattle.rent_io.proofs.Stored.{more_twice, filled_twice, nothing_behind, room_more}

module _ (f g : Filling) (u : List ℕ) (bound : f.buffer.begin + f.filled ≤ length f.buffer.bytes) (has : Fills f g u) where
  -- What is lacking behind u.
  lacks_behind : lacks g ≡ lacks f - length u
  lacks_behind = ap lacks has.1 ∙ omega (arith, room_more f u)

  -- A poll that goes on adds its bytes.
  fill_adds : (next : Filling) (v : List ℕ) → FillsOn g next v → Fills f next (u ++ v)
  fill_adds next v goes = (
    omega (arith, has.0, goes.1, lacks_behind, length-append u v),
    goes.2 ∙ ap (λ x. filled_with x v) has.1 ∙ filled_twice f u v bound,
  )

  -- One that fills the range ends a full range.
  fill_is_done : (back : Buffer) (n : ℕ) (v : List ℕ) → IsFilled g back n v → IsFilled f back n (u ++ v)
  fill_is_done back n v done = (
    omega (arith, has.0, done.0, lacks_behind, length-append u v),
    done.1 ∙ ap (λ x. room x.buffer) has.1 ∙ room_more f u,
    done.2 ∙ ap (λ x. with_more x v) has.1 ∙ more_twice f u v bound,
  )

  -- What a fault leaves.
  fill_stops : (tells : Bool) (before mid now : Reader) (back : Buffer) (fault : IoFault) → before.counts.faults ≤ mid.counts.faults
      → before.counts.zeros ≤ mid.counts.zeros → StopsFilling tells mid now g back fault [] → StopsFilling tells before now f back fault u
  fill_stops tells before mid now back fault stay zeros (inl failed) =
      inl (failed.0 ∙ ap (λ x. x.buffer) has.1, fails_later before.counts mid.counts now.counts fault stay failed.1)
  fill_stops tells before mid now back fault stay zeros (inr early) = inr (
    early_later tells before mid now fault zeros early.0,
    omega (arith, early.1, lacks_behind),
    early.2 ∙ ap (λ (x : Filling). put x.buffer (x.buffer.begin + x.filled) []) has.1 ∙ nothing_behind f u bound,
  )

-- No polls of an exact read.
pub fill_none : (tells : Bool) (reader : Reader) (f : Filling) → HasFilled tells reader reader f f
fill_none tells reader f =
    gave_none tells reader (Fills f f) (omega arith, ap (λ n. record f { filled = n }) (sym (add-zero f.filled)))

module _ {T : Type 0} (tells : Bool) (task : ℕ) (before mid now : Reader) (buffer : T → Buffer) (under : T → List (ℕ × ℕ))
    (beside : T → Parts) (f g : Filling) (step : Step Filling (Result ℕ IoFault × T)) where
  -- One poll more of an exact read.
  pub fill_more : f.buffer.begin + f.filled ≤ length f.buffer.bytes → before.counts.faults ≤ mid.counts.faults
      → before.counts.zeros ≤ mid.counts.zeros → HasFilled tells before mid f g → ReadsExact tells task mid now buffer under beside g step
      → Ran (EndsExact tells before now buffer under beside f) (HasFilled tells before now f) step
  fill_more bound stay zeros has is =
      read_more tells before mid now task g (Fills f) (FillsOn g) _ (EndsExact tells before now buffer under beside f) step has
      (λ next u v it goes. fill_adds f g u bound it next v goes)
      (λ end is. (
        read_ends tells before mid now (Fills f g) (IsFilled g (buffer end.1)) (IsFilled f (buffer end.1))
            (StopsFilling tells mid now g (buffer end.1)) (StopsFilling tells before now f (buffer end.1)) end.0 has
            (λ n u v it done front. fill_is_done f g u bound it (buffer end.1) n v done)
            (λ fault u it stops. fill_stops f g u bound it tells before mid now (buffer end.1) fault stay zeros stops) is.0,
        is.1 ∙ ap (λ (x : Filling). x.under) has.is.1,
        is.2 ∙ ap (λ (x : Filling). x.beside) has.is.1,
      )) is

  -- A poll of it waits for a cause, or moves something; and how it ends where no count rose.
  pub exact_advances : ReadsExact tells task mid now buffer under beside g step
      → Advances (λ f. f.filled) (λ f. 0) (λ end. IfErr end.0 (IsShort tells mid now (lacks g))) mid.counts now.counts g step
  exact_advances is =
      read_advances tells mid now task (λ f. f.filled) g _ (λ end. IfErr end.0 (IsShort tells mid now (lacks g))) (FillsOn g) step
      (λ end is quiet. read_short tells mid now (IsFilled g (buffer end.1)) (StopsFilling tells mid now g (buffer end.1))
      (IsShort tells mid now (lacks g)) end.0 is.0 (λ fault same stops. elim stops [
        | inl failed ↦ absurd (quiet.0 failed.1.0)
        | inr early ↦ early_short tells mid now (lacks g) fault same early.1 early.0
      ]))
      (λ next got goes. omega (arith, goes.0, ap (λ x. x.filled) goes.2)) is

-- Bytes that a range shows are among the buffer's.
pub filled_within : (b : Buffer) (n : ℕ) → BufferBounds b → n ≤ length (shown b) → b.begin + n ≤ length b.bytes
filled_within b n bounds among =
    omega (arith, bounds.within, among, length-drop b.begin (take b.end b.bytes), length-take b.end b.bytes)

-- What holds of every exact read.
pub ruleset laws = (filled_within, fill_none, exact_advances)
