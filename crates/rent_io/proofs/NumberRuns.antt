-- Polls of a read of a number, one behind the other.
use Rattle.std.proofs.Common.{◌≡◌, ◌∙◌, ℕ, ◌-◌, ◌≤◌, inl, inr, List, [], ◌++◌, Bool, length, sym, ap, arith, append_assoc, append-nil}
use Rattle.std.proofs.Common.{length-append}
use Rattle.std.specs.Prelude.{Result, IfErr}
use Rattle.rent_buf.specs.declared.fault.IoFault.{IoFault}
use Rattle.rent_io.specs.declared.poll.Step.{Step}
use Rattle.rent_io.specs.Completeness.{IsShort}
use Rattle.rent_io.specs.Reader.{Reader}
use Rattle.rent_io.specs.ReadNumber.{Numbering, with_digits, HasMore, IsNumber, StopsNumber, ReadsNumber, HasDigits, NumberRunEnd}
use Rattle.rent_io.specs.State.{Advances, Ran}
use Rattle.rent_io.proofs.ReadStates.{early_later, early_short, gave_none, read_advances, read_ends, read_more, read_short}
use Rattle.rent_io.proofs.Runs.{fails_later}

-- No polls of a read of a number.
pub number_none : (tells : Bool) (reader : Reader) (r : Numbering) → HasDigits tells reader reader r r
number_none tells reader r =
    gave_none tells reader (λ got. r ≡ with_digits r got) (ap (λ b. record r { bytes = b }) (sym (append-nil r.bytes)))

module _ (r g : Numbering) (u : List ℕ) (has : g ≡ with_digits r u) where
  -- Bytes that come in two steps come in one.
  digits_twice : (v : List ℕ) → with_digits g v ≡ with_digits r (u ++ v)
  digits_twice v = ap (λ x. with_digits x v) has ∙ ap (λ b. record r { bytes = b }) (append_assoc r.bytes u v)

  -- How many bytes it had.
  digits_had : length g.bytes ≡ length (r.bytes ++ u)
  digits_had = ap (λ x. length x.bytes) has

  -- Where all bytes are there, the number is that of all.
  number_is_done : {N : Type 0} (value : Bool → List ℕ → N) (n : N) (v : List ℕ) → IsNumber value g n v → IsNumber value r n (u ++ v)
  number_is_done value n v done = (
    omega (arith, done.0, digits_had, length-append r.bytes u, length-append u v, ap (λ x. x.size) has),
    done.1 ∙ ap (λ x. value x.little x.bytes) (digits_twice v),
  )

  -- What a fault leaves.
  number_stops : (tells : Bool) (before mid now : Reader) (fault : IoFault) → before.counts.faults ≤ mid.counts.faults
      → before.counts.zeros ≤ mid.counts.zeros → StopsNumber tells mid now g fault [] → StopsNumber tells before now r fault u
  number_stops tells before mid now fault stay zeros (inl failed) =
      inl (fails_later before.counts mid.counts now.counts fault stay failed)
  number_stops tells before mid now fault stay zeros (inr early) = inr (
    early_later tells before mid now fault zeros early.0,
    omega (arith, early.1, digits_had, length-append r.bytes u, ap (λ x. x.size) has),
  )

module _ {N : Type 0} (tells : Bool) (task : ℕ) (before mid now : Reader) (value : Bool → List ℕ → N) (r g : Numbering)
    (step : Step Numbering (Result N IoFault)) where
  -- One poll more of a read of a number.
  pub number_more : before.counts.faults ≤ mid.counts.faults → before.counts.zeros ≤ mid.counts.zeros → HasDigits tells before mid r g
      → ReadsNumber tells task mid now value g step → Ran (NumberRunEnd tells before now value r) (HasDigits tells before now r) step
  number_more stay zeros has is =
      read_more tells before mid now task g (λ next got. next ≡ with_digits r got) (HasMore g) _ (NumberRunEnd tells before now value r)
      step has (λ next u v it more. more.2 ∙ digits_twice r g u it v)
      (λ end is. read_ends tells before mid now (λ got. g ≡ with_digits r got) (IsNumber value g) (IsNumber value r)
      (StopsNumber tells mid now g) (StopsNumber tells before now r) end has
      (λ n u v it done front. number_is_done r g u it value n v done)
      (λ fault u it stops. number_stops r g u it tells before mid now fault stay zeros stops) is) is

  -- A poll of it waits for a cause, or moves something; and how it ends where no count rose.
  pub number_advances : ReadsNumber tells task mid now value g step
      → Advances (λ r. length r.bytes) (λ r. 0) (λ end. IfErr end (IsShort tells mid now (g.size - length g.bytes)))
      mid.counts now.counts g step
  number_advances is =
      read_advances tells mid now task (λ r. length r.bytes) g _ (λ end. IfErr end (IsShort tells mid now (g.size - length g.bytes)))
      (HasMore g) step
      (λ end is quiet. read_short tells mid now (IsNumber value g) (StopsNumber tells mid now g)
      (IsShort tells mid now (g.size - length g.bytes)) end is (λ fault same stops. elim stops [
        | inl failed ↦ absurd (quiet.0 failed.0)
        | inr early ↦ early_short tells mid now (g.size - length g.bytes) fault same (omega (arith, early.1)) early.0
      ]))
      (λ next got more. omega (arith, more.0, ap (λ x. length x.bytes) more.2, length-append g.bytes got)) is

-- What holds of every read of a number.
pub ruleset laws = (number_none, number_more, number_advances)
