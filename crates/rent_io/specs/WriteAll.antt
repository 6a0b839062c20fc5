-- A write of all bytes: what each poll of it does.
use Rattle.std.specs.Prelude.{ℕ, ◌≡◌, ◌<◌, ◌⊎◌, Bool, IsTrue, List, ◌++◌, length, sum_by, Result, Ok, Err}
use Rattle.std.specs.List.{concat}
use Rattle.rent_buf.specs.declared.fault.IoFault.{IoFault}
use Rattle.rent_buf.specs.declared.fault.IoFault.TheVariants.{WriteZero}
use Rattle.rent_io.specs.declared.poll.Step.{Step}
use Rattle.rent_io.specs.declared.poll.Step.TheVariants.{Ready, Pending, Again}
use Rattle.rent_io.specs.Counts.{Rose}
use Rattle.rent_io.specs.Polls.{Fails, Pauses}
use Rattle.rent_io.specs.Writer.{Writer}

-- Such a write is its buffer, the bytes that are still to be written, and how many bytes the buffer has.
pub record Sending (T : Type 0) : Type 0 where
  pub buf : T
  pub rest : List ℕ
  pub total : ℕ

-- A write that starts, of one buffer's bytes, and of the bytes of parts, in order.
abbrev pub sending : {T : Type 0} → T → List ℕ → Sending T
sending buf bytes = record { buf = buf; rest = bytes; total = length bytes }

abbrev pub sending_parts : {T : Type 0} → T → List (List ℕ) → Sending T
sending_parts buf parts = record { buf = buf; rest = concat parts; total = sum_by length parts }

-- It wrote some bytes, and more are to be written.
pub record SendsOn {T : Type 0} (tells : Bool) (before now : List ℕ) (s next : Sending T) : Type 0 where
  pub sent : List ℕ
  pub some : 0 < length sent
  pub more : 0 < length next.rest
  pub cut : s.rest ≡ sent ++ next.rest
  pub same_buf : next.buf ≡ s.buf
  pub same_total : next.total ≡ s.total
  pub joined : IsTrue tells → now ≡ before ++ sent

-- How it ends: all bytes are delivered, or at a fault, at which this poll wrote nothing.
abbrev pub IsAllEnd : {T : Type 0} → Bool → Writer → Writer → Sending T → Result ℕ IoFault → Type 0
IsAllEnd tells before now s (Ok n) = (n ≡ s.total) × (IsTrue tells → now.delivered ≡ before.delivered ++ s.rest)
IsAllEnd tells before now s (Err fault) =
    (IsTrue tells → now.delivered ≡ before.delivered)
    × (Fails before.counts now.counts fault
    ⊎ ((fault ≡ WriteZero) × (0 < length s.rest) × Rose before.counts.zeros now.counts.zeros))

-- It is as it was, since the stream paused, and will wake this task.
abbrev pub WaitsAll : {T : Type 0} → Bool → ℕ → Writer → Writer → Sending T → Sending T → Type 0
WaitsAll tells task before now s next = (next ≡ s) × (IsTrue tells → now.delivered ≡ before.delivered)
    × Pauses task before.counts now.counts

-- It is as it was, since the stream was interrupted.
abbrev pub BreaksAll : {T : Type 0} → Bool → Writer → Writer → Sending T → Sending T → Type 0
BreaksAll tells before now s next = (next ≡ s) × (IsTrue tells → now.delivered ≡ before.delivered)
    × Rose before.counts.interrupts now.counts.interrupts

-- A poll of it.
abbrev pub WritesAll : {T : Type 0} → Bool → ℕ → Writer → Writer → Sending T → Step (Sending T) (Result ℕ IoFault × T) → Type 0
WritesAll tells task before now s (Ready end) = IsAllEnd tells before now s end.0 × (end.1 ≡ s.buf)
WritesAll tells task before now s (Pending next) = WaitsAll tells task before now s next
WritesAll tells task before now s (Again next) = BreaksAll tells before now s next ⊎ SendsOn tells before.delivered now.delivered s next
