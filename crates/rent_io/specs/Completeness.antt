-- What a poll answers while its stream neither fails nor pauses: it doesn't wait, and each fault that is left has a reason. The clause
-- `complete` of `poll` cites `Completes`, with the faults that its state may still end with.
use Rattle.std.specs.Prelude.{ℕ, ◌≡◌, ◌<◌, ◌⊎◌, Bool, true, IsTrue, List, ◌++◌, length, IsUtf8, IfErr}
use Rattle.rent_buf.specs.declared.fault.IoFault.{IoFault}
use Rattle.rent_buf.specs.declared.fault.IoFault.TheVariants.{UnexpectedEof, OutOfMemory, InvalidData}
use Rattle.rent_io.specs.declared.poll.Step.{Step}
use Rattle.rent_io.specs.declared.poll.Step.TheVariants.{Ready, Pending, Again}
use Rattle.rent_io.specs.declared.poll.PollCount.{PollCount}
use Rattle.rent_io.specs.declared.poll.PollCount.TheVariants.{Ready as CountReady, Pending as CountPending, Again as CountAgain}
use Rattle.rent_io.specs.Counts.{Counts, Rose}
use Rattle.rent_io.specs.Reader.{Reader}
use Rattle.rent_io.specs.ReadUntil.{IsWholeLine}

-- None of the counts of faults, of pauses and of interrupts rose.
abbrev pub IsQuiet : Counts → Counts → Type 0
IsQuiet before now =
    (¬ Rose before.faults now.faults) × (¬ Rose before.pauses now.pauses) × (¬ Rose before.interrupts now.interrupts)

-- A poll got on: it ended so; or it answers Again, with a state that is further. It didn't wait.
abbrev pub GetsOn : {S R : Type 0} → Step S R → (R → Type 0) → (S → Type 0) → Type 0
GetsOn (Ready end) ends further = ends end
GetsOn (Pending next) ends further = ⊥
GetsOn (Again next) ends further = further next

-- A poll in which none of them rose got on.
abbrev pub Completes : {S R : Type 0} → Counts → Counts → Step S R → (R → Type 0) → (S → Type 0) → Type 0
Completes before now step ends further = IsQuiet before now → GetsOn step ends further

-- A poll of a flush or a shutdown got on: it is done, or ended with one of these faults; or it answers Again, and this is so.
abbrev pub CountGetsOn : PollCount → (IoFault → Type 0) → Type 0 → Type 0
CountGetsOn (CountReady end) faults further = IfErr end faults
CountGetsOn CountPending faults further = ⊥
CountGetsOn CountAgain faults further = further

-- Reading: a read gave none of some room, and a stream that tells its bytes had fewer left than were wanted. So one that has enough left
-- never ends a read with a fault.
abbrev pub IsShort : Bool → Reader → Reader → ℕ → IoFault → Type 0
IsShort tells before now wanted fault = (fault ≡ UnexpectedEof) × (IsTrue tells → length before.left < wanted)
    × Rose before.counts.zeros now.counts.zeros

-- The line that these bytes begin is UTF-8: they, and those that are left, up to and with the first newline, or all where there is none.
abbrev pub BeginText : List ℕ → List ℕ → Type 0
BeginText bytes left = (line rest : List ℕ) → left ≡ line ++ rest → IsWholeLine true 10 line rest → IsUtf8 (bytes ++ line)

-- Reading a line: memory ran out; or the line isn't UTF-8, where the stream tells its bytes. An end before a newline is no fault.
abbrev pub IsNoLine : Bool → List ℕ → List ℕ → IoFault → Type 0
IsNoLine tells bytes left fault = (fault ≡ OutOfMemory) ⊎ ((fault ≡ InvalidData) × (IsTrue tells → ¬ BeginText bytes left))
