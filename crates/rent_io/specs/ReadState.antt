-- States that read a stream: what a poll of one does, and what many polls have done. Each kind of read says what its bytes do to it.
use Rattle.std.specs.Prelude.{ℕ, ◌≡◌, ◌⊎◌, Bool, IsTrue, List, [], Result, Ok, Err}
use Rattle.rent_buf.specs.declared.fault.IoFault.{IoFault}
use Rattle.rent_buf.specs.declared.fault.IoFault.TheVariants.{UnexpectedEof}
use Rattle.rent_io.specs.declared.poll.Step.{Step}
use Rattle.rent_io.specs.declared.poll.Step.TheVariants.{Ready, Pending, Again}
use Rattle.rent_io.specs.Counts.{Rose}
use Rattle.rent_io.specs.Polls.{Pauses}
use Rattle.rent_io.specs.Reader.{Reader, WasFront}

-- Bytes left the stream, the first of those that were left, and this is so of them.
pub record Gave (tells : Bool) (before now : Reader) (P : List ℕ → Type 0) : Type 0 where
  pub got : List ℕ
  pub is : P got
  pub front : WasFront tells before.left got now.left

-- It is as it was, since the stream paused, and will wake this task.
abbrev pub Paused : {S : Type 0} → Bool → ℕ → Reader → Reader → S → S → Type 0
Paused tells task before now s next = (next ≡ s) × (IsTrue tells → before.left ≡ now.left) × Pauses task before.counts now.counts

-- It is as it was, since the stream was interrupted.
abbrev pub Interrupted : {S : Type 0} → Bool → Reader → Reader → S → S → Type 0
Interrupted tells before now s next =
    (next ≡ s) × (IsTrue tells → before.left ≡ now.left) × Rose before.counts.interrupts now.counts.interrupts

-- A poll: it ends so; or it is as it was; or the stream gave bytes with which it goes on so.
abbrev pub ReadPoll : {S R : Type 0} → Bool → ℕ → Reader → Reader → S → (R → Type 0) → (S → List ℕ → Type 0) → Step S R → Type 0
ReadPoll tells task before now s ends goes (Ready end) = ends end
ReadPoll tells task before now s ends goes (Pending next) = Paused tells task before now s next
ReadPoll tells task before now s ends goes (Again next) = Interrupted tells before now s next ⊎ Gave tells before now (goes next)

-- How a poll ends: with bytes of which this is so; or at a fault, at which it gave none.
abbrev pub ReadEnd : {N : Type 0} → Bool → Reader → Reader → (N → List ℕ → Type 0) → (IoFault → List ℕ → Type 0) → Result N IoFault
    → Type 0
ReadEnd tells before now done stops (Ok n) = Gave tells before now (done n)
ReadEnd tells before now done stops (Err fault) = (IsTrue tells → before.left ≡ now.left) × stops fault []

-- How many polls end: the same, with all bytes that they gave.
abbrev pub ReadRunEnd : {N : Type 0} → Bool → Reader → Reader → (N → List ℕ → Type 0) → (IoFault → List ℕ → Type 0) → Result N IoFault
    → Type 0
ReadRunEnd tells before now done stops (Ok n) = Gave tells before now (done n)
ReadRunEnd tells before now done stops (Err fault) = Gave tells before now (stops fault)

-- A fault since a read gave none of some room: nothing is left, where the reader tells that, and it is counted.
abbrev pub EndsEarly : Bool → Reader → Reader → IoFault → Type 0
EndsEarly tells before now fault =
    (fault ≡ UnexpectedEof) × (IsTrue tells → now.left ≡ []) × Rose before.counts.zeros now.counts.zeros
