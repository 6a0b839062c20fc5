-- Calls of a stream, one behind the other.
use Rattle.std.proofs.Common.{◌≡◌, ◌∙◌, ℕ, ◌+◌, ◌<◌, ◌≤◌, ◌⊎◌, inl, inr, arith}
use Rattle.std.specs.Prelude.{Option, Result, Ok, Err}
use Rattle.rent_buf.specs.declared.fault.IoFault.{IoFault}
use Rattle.rent_io.specs.Counts.{Counts, AfterCall, Rose}
use Rattle.rent_io.specs.Polls.{Fails, IsFlushCaused}
use Rattle.rent_io.specs.declared.poll.PollCount.TheVariants.{Ready}
use Rattle.rent_io.specs.Runs.{AfterCalls}

-- The group of the last call that was made.
under_more : (group before mid now : Option ℕ) → (mid ≡ before) ⊎ (mid ≡ group) → (now ≡ mid) ⊎ (now ≡ group)
    → (now ≡ before) ⊎ (now ≡ group)
under_more group before mid now first (inr is) = inr is
under_more group before mid now (inl same) (inl is) = inl (is ∙ same)
under_more group before mid now (inr same) (inl is) = inr (is ∙ same)

-- One call more.
pub one_more : (group : Option ℕ) (i most : ℕ) (before mid now : Counts) → i + 1 ≤ most → AfterCalls group i before mid
    → AfterCall group mid now → AfterCalls group most before now
one_more group i most before mid now less calls call = record {
  faults_stay = omega (arith, calls.faults_stay, call.faults_stay);
  pauses_stay = omega (arith, calls.pauses_stay, call.pauses_stay);
  interrupts_stay = omega (arith, calls.interrupts_stay, call.interrupts_stay);
  zeros_stay = omega (arith, calls.zeros_stay, call.zeros_stay);
  most_calls = omega (arith, calls.most_calls, call.one_call, less);
  under = under_more group before.group mid.group now.group calls.under call.under;
}

-- Faults that rose later rose.
pub rose_later : (before mid now : ℕ) → before ≤ mid → Rose mid now → Rose before now
rose_later before mid now stay rose = omega (arith, stay, rose)

-- Faults that came later came.
pub fails_later : (before mid now : Counts) (fault : IoFault) → before.faults ≤ mid.faults → Fails mid now fault → Fails before now fault
fails_later before mid now fault stay is = (rose_later before.faults mid.faults now.faults stay is.0, is.1)

-- A flush that ends with a fault counted one, where no write took none of some bytes.
pub fault_counted : (task : ℕ) (before now : Counts) (result : Result ℕ IoFault) (fault : IoFault) → result ≡ Err fault → now.zeros ≡ 0
    → IsFlushCaused task before now (Ready result) → 0 < now.faults
fault_counted task before now (Ok n) fault is none cause = (let never : ◌≡◌ {A = Result ℕ IoFault} (Ok n) (Err fault) = is in cc)
fault_counted task before now (Err other) fault is none (inl failed) = omega (arith, failed.0)
fault_counted task before now (Err other) fault is none (inr zero) = absurd (omega (arith, zero.1, none))
