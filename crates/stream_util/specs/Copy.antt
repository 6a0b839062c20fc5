-- A copy from a reader to a writer: what each poll of it does, and what many do.
use Rattle.std.specs.Prelude.{ℕ, ◌≡◌, ◌+◌, ◌-◌, ◌^◌, ◌<◌, ◌≤◌, ◌⊎◌, min, Bool, IsTrue, List, [], ◌++◌, length, None, Result, Ok, Err, IfErr}
use Rattle.rent_buf.specs.declared.fault.IoFault.{IoFault}
use Rattle.rent_io.specs.declared.poll.Step.{Step}
use Rattle.rent_io.specs.declared.poll.Step.TheVariants.{Ready, Pending, Again}
use Rattle.rent_io.specs.Completeness.{IsQuiet, GetsOn}
use Rattle.rent_io.specs.Counts.{AfterCall, Rose}
use Rattle.rent_io.specs.Polls.{Fails, Pauses, TookNone}
use Rattle.rent_io.specs.Reader.{AtEnd, Reader, WasFront}
use Rattle.rent_io.specs.Runs.{AfterCalls}
use Rattle.rent_io.specs.Writer.{Writer}
use Rattle.stream_util.specs.declared.copy.Copied.{Copied}

-- A copy is the bytes that it read and did not deliver, and how many it delivered, or the last `u64` if there were more.
pub record Copying : Type 0 where
  pub held : List ℕ
  pub count : ℕ

-- A number, and so many more: at most the last `u64`.
abbrev pub count_more : ℕ → ℕ → ℕ
count_more count n = min (count + n) (2 ^ 64 - 1)

-- The two ends of a copy.
pub record Ends : Type 0 where
  pub reader : Reader
  pub writer : Writer

-- A poll makes one call at most, of one of the ends, under no group.
pub record OneCall (before now : Ends) : Type 0 where
  pub reader : AfterCall None before.reader.counts now.reader.counts
  pub writer : AfterCall None before.writer.counts now.writer.counts
  pub one : now.reader.counts.calls + now.writer.counts.calls ≤ before.reader.counts.calls + before.writer.counts.calls + 1

-- So many polls make so many calls at most, of both ends together, under no group, and no count falls.
pub record RunCalls (turns : ℕ) (before now : Ends) : Type 0 where
  pub reader : AfterCalls None turns before.reader.counts now.reader.counts
  pub writer : AfterCalls None turns before.writer.counts now.writer.counts
  pub most : now.reader.counts.calls + now.writer.counts.calls ≤ before.reader.counts.calls + before.writer.counts.calls + turns

-- No byte moved, where the reader and the writer tell that.
abbrev pub NothingMoved : Bool → Bool → Ends → Ends → Type 0
NothingMoved reads writes before now =
    (IsTrue reads → now.reader.left ≡ before.reader.left) × (IsTrue writes → now.writer.delivered ≡ before.writer.delivered)

-- The reader or the writer paused, and will wake this task.
abbrev pub HasPaused : ℕ → Ends → Ends → Type 0
HasPaused task before now = Pauses task before.reader.counts now.reader.counts ⊎ Pauses task before.writer.counts now.writer.counts

-- The copy is as it was, since the reader or the writer paused.
abbrev pub Waits : Bool → Bool → ℕ → Ends → Ends → Copying → Copying → Type 0
Waits reads writes task before now copy next = (next ≡ copy) × NothingMoved reads writes before now × HasPaused task before now

-- The copy is as it was, since the reader or the writer was interrupted.
abbrev pub Breaks : Bool → Bool → Ends → Ends → Copying → Copying → Type 0
Breaks reads writes before now copy next = (next ≡ copy) × NothingMoved reads writes before now
    × (Rose before.reader.counts.interrupts now.reader.counts.interrupts
    ⊎ Rose before.writer.counts.interrupts now.writer.counts.interrupts)

-- It read bytes and delivered bytes: those that it held and those that it read, joined, are those that it delivered and those that it
-- holds now.
pub record Moves (reads writes : Bool) (before now : Ends) (copy next : Copying) : Type 0 where
  pub got : List ℕ
  pub sent : List ℕ
  pub front : WasFront reads before.reader.left got now.reader.left
  pub delivered : IsTrue writes → now.writer.delivered ≡ before.writer.delivered ++ sent
  pub kept : copy.held ++ got ≡ sent ++ next.held
  pub counted : next.count ≡ count_more copy.count (length sent)

-- It moved at least one byte.
pub record MovesSome (reads writes : Bool) (before now : Ends) (copy next : Copying) : Type 0 where
  pub moves : Moves reads writes before now copy next
  pub some : 0 < length moves.got + length moves.sent

-- The cause of a fault: it is the last one of the reader or of the writer, or a write took none of what is held.
abbrev pub CopyFails : Ends → Ends → List ℕ → IoFault → Type 0
CopyFails before now held fault = Fails before.reader.counts now.reader.counts fault
    ⊎ Fails before.writer.counts now.writer.counts fault
    ⊎ (0 < length held) × TookNone before.writer.counts now.writer.counts fault

-- How it ends: Ok only where nothing is held and a read gave none of some room; and a fault has its cause.
abbrev pub IsCopyEnd : Bool → Ends → Ends → Copying → Result ℕ IoFault → Type 0
IsCopyEnd reads before now copy (Ok n) = (n ≡ copy.count) × (copy.held ≡ []) × AtEnd reads before.reader now.reader
IsCopyEnd reads before now copy (Err fault) = CopyFails before now copy.held fault

-- A poll that may end so, where nothing moved: else the copy waits, was interrupted, or moved some bytes.
abbrev pub CopyPoll : Bool → Bool → ℕ → Ends → Ends → Copying → (Result ℕ IoFault → Type 0) → Step Copying Copied → Type 0
CopyPoll reads writes task before now copy ends (Ready copied) =
    (copied.rest ≡ copy.held) × NothingMoved reads writes before now × ends copied.result
CopyPoll reads writes task before now copy ends (Pending next) = Waits reads writes task before now copy next
CopyPoll reads writes task before now copy ends (Again next) =
    Breaks reads writes before now copy next ⊎ MovesSome reads writes before now copy next

-- A poll of it.
abbrev pub Copies : Bool → Bool → ℕ → Ends → Ends → Copying → Step Copying Copied → Type 0
Copies reads writes task before now copy step =
    CopyPoll reads writes task before now copy (IsCopyEnd reads before now copy) step

-- A poll in which no count of the reader and of the writer rose got on: it is done, or ended with one of these faults, or bytes moved.
abbrev pub CopyCompletes : Bool → Bool → Ends → Ends → Copying → Step Copying Copied → (IoFault → Type 0) → Type 0
CopyCompletes reads writes before now copy step faults = IsQuiet before.reader.counts now.reader.counts
    → IsQuiet before.writer.counts now.writer.counts
    → GetsOn step (λ copied. IfErr copied.result faults) (λ next. MovesSome reads writes before now copy next)

-- What an answer holds: what was read and not delivered.
abbrev pub held_in : Step Copying Copied → List ℕ
held_in (Ready copied) = copied.rest
held_in (Pending next) = next.held
held_in (Again next) = next.held

-- The bytes that were delivered, those that the copy holds and those that are left, joined, are the same list before and after, where
-- the reader and the writer tell them.
abbrev pub IsSameJoined : Bool → Bool → Ends → Ends → List ℕ → List ℕ → Type 0
IsSameJoined reads writes before now held later = IsTrue reads → IsTrue writes
    → now.writer.delivered ++ later ++ now.reader.left ≡ before.writer.delivered ++ held ++ before.reader.left

-- How many polls end: Ok only where nothing is held and a read gave none of some room; and a fault has its cause.
abbrev pub IsRunEnd : Bool → Ends → Ends → ℕ → List ℕ → Result ℕ IoFault → Type 0
IsRunEnd reads before now count rest (Ok n) = (n ≡ count) × (rest ≡ []) × (IsTrue reads → now.reader.left ≡ [])
    × Rose before.reader.counts.zeros now.reader.counts.zeros
IsRunEnd reads before now count rest (Err fault) = CopyFails before now rest fault

-- Many polls that are done: what they moved, and how they ended.
pub record HasCopied (reads writes : Bool) (before now : Ends) (copy : Copying) (copied : Copied) : Type 0 where
  pub count : ℕ
  pub moves : Moves reads writes before now copy (record { held = copied.rest; count = count })
  pub ends : IsRunEnd reads before now count copied.rest copied.result

-- All of so many polls are used: each moved a byte at least, or the interrupts of the reader or of the writer rose, as far as a `u64`
-- counts. So none of them had to wait.
pub record UsesAll (turns : ℕ) (reads writes : Bool) (before now : Ends) (copy next : Copying) : Type 0 where
  pub moves : Moves reads writes before now copy next
  pub reader : ℕ
  pub writer : ℕ
  pub each : turns ≤ length moves.got + length moves.sent + reader + writer
  pub reads_break : min (before.reader.counts.interrupts + reader) (2 ^ 64 - 1) ≤ now.reader.counts.interrupts
  pub writes_break : min (before.writer.counts.interrupts + writer) (2 ^ 64 - 1) ≤ now.writer.counts.interrupts

-- So many polls at most: it waits for a pause of one of the ends, or all of them are used.
abbrev pub Runs : Bool → Bool → ℕ → ℕ → Ends → Ends → Copying → Step Copying Copied → Type 0
Runs reads writes task turns before now copy (Ready copied) = HasCopied reads writes before now copy copied
Runs reads writes task turns before now copy (Pending next) = Moves reads writes before now copy next × HasPaused task before now
Runs reads writes task turns before now copy (Again next) = UsesAll turns reads writes before now copy next

-- A copy that ends Ok delivered what it held and all that was left, and its number grew by their number.
abbrev pub HasAll : Ends → Ends → Copying → Result ℕ IoFault → Type 0
HasAll before now copy (Ok n) = (now.writer.delivered ≡ before.writer.delivered ++ (copy.held ++ before.reader.left))
    × (n ≡ count_more copy.count (length (copy.held ++ before.reader.left)))
HasAll before now copy (Err fault) = Unit {0}

-- The same of an answer, where the reader and the writer tell their bytes.
abbrev pub CopiesAll : Bool → Bool → Ends → Ends → Copying → Step Copying Copied → Type 0
CopiesAll reads writes before now copy (Ready copied) = IsTrue reads → IsTrue writes → HasAll before now copy copied.result
CopiesAll reads writes before now copy (Pending next) = Unit {0}
CopiesAll reads writes before now copy (Again next) = Unit {0}
