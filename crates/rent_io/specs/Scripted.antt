-- A scripted stream as a value.
use Rattle.std.specs.Prelude.{ℕ, ◌≡◌, ◌-◌, ◌^◌, ◌⊎◌, min, max, Option, List, [], ◌∷◌, Ok, Err}
use Rattle.rent_buf.specs.declared.fault.IoFault.TheVariants.{Os, OutOfMemory}
use Rattle.rent_io.specs.declared.poll.PollBuf.{PollBuf}
use Rattle.rent_io.specs.declared.poll.PollBuf.TheVariants.{Ready, Pending, Again}
use Rattle.rent_io.specs.declared.poll.PollCount.{PollCount}
use Rattle.rent_io.specs.declared.poll.PollCount.TheVariants.{Ready as CountReady, Pending as CountPending, Again as CountAgain}
use Rattle.rent_io.specs.declared.scripted.Turned1.{Turned1}
use Rattle.rent_io.specs.declared.scripted.Turned1.TheVariants.{Grant, Pause, Interrupt, Fault}
use Rattle.rent_io.specs.Counts.{Counts, AfterCall, Rose, no_counts, once_more}
use Rattle.rent_io.specs.Polls.{Fails, Pauses}
use Rattle.rent_io.specs.Reader.{Reader}
use Rattle.rent_io.specs.Writer.{Writer}

-- It is the turns that its script still has, the bytes that are left, those that were delivered, its counts, and how many flushes and
-- shutdowns succeeded.
pub record Scripted : Type 0 where
  pub script : List Turned1
  pub left : List ℕ
  pub delivered : List ℕ
  pub counts : Counts
  pub flushes : ℕ
  pub shutdowns : ℕ

-- A new one over some input, with a script.
abbrev pub fresh : List ℕ → List Turned1 → Scripted
fresh input script = record { script = script; left = input; delivered = []; counts = no_counts; flushes = 0; shutdowns = 0 }

-- It as a reader, and as a writer.
abbrev pub as_reader : Scripted → Reader
as_reader s = record { left = s.left; counts = s.counts }

abbrev pub as_writer : Scripted → Writer
as_writer s = record { delivered = s.delivered; counts = s.counts; flushes = s.flushes; shutdowns = s.shutdowns }

-- What a turn of the script makes of the counts: a fault is counted, and is the last; a pause is counted, for the task of the call; and an
-- interrupt is counted.
abbrev pub Rises : Turned1 → ℕ → Counts → Counts → Type 0
Rises (Grant most) task before now = Unit {0}
Rises Pause task before now = Pauses task before now
Rises Interrupt task before now = Rose before.interrupts now.interrupts
Rises (Fault error) task before now = Fails before now (Os error)

-- The next turn of a script: its first one, or one that grants all, where it is used up.
abbrev pub IsNext : List Turned1 → List Turned1 → Turned1 → Type 0
IsNext [] later turn = (later ≡ []) × (turn ≡ Grant (2 ^ 64 - 1))
IsNext (first ∷ script) later turn = (later ≡ script) × (turn ≡ first)

-- What a read that could move so many bytes answers at a turn: at least one byte of some where it grants any number.
abbrev pub ReadsBy : {T : Type 0} → Turned1 → ℕ → PollBuf T → Type 0
ReadsBy turn could (Ready (Ok n) back) = (most : ℕ) × (turn ≡ Grant most) × (n ≡ min (max most 1) could)
ReadsBy turn could (Ready (Err fault) back) = (error : ℕ) × (turn ≡ Fault error) × (fault ≡ Os error)
ReadsBy turn could (Pending back) = turn ≡ Pause
ReadsBy turn could (Again back) = turn ≡ Interrupt

-- What a write that could move so many bytes answers at a turn. Where it grants any number, memory may run out.
abbrev pub WritesBy : {T : Type 0} → Turned1 → ℕ → PollBuf T → Type 0
WritesBy turn could (Ready (Ok n) back) = (most : ℕ) × (turn ≡ Grant most) × (n ≡ min most could)
WritesBy turn could (Ready (Err fault) back) =
    ((error : ℕ) × (turn ≡ Fault error) × (fault ≡ Os error)) ⊎ ((most : ℕ) × (turn ≡ Grant most) × (fault ≡ OutOfMemory))
WritesBy turn could (Pending back) = turn ≡ Pause
WritesBy turn could (Again back) = turn ≡ Interrupt

-- What a flush or a shutdown answers at a turn: it is done where any number is granted.
abbrev pub EndsBy : Turned1 → PollCount → Type 0
EndsBy turn (CountReady (Ok n)) = (most : ℕ) × (turn ≡ Grant most)
EndsBy turn (CountReady (Err fault)) = (error : ℕ) × (turn ≡ Fault error) × (fault ≡ Os error)
EndsBy turn CountPending = turn ≡ Pause
EndsBy turn CountAgain = turn ≡ Interrupt

-- A call, plain or under this cancel group, took the next turn of the script, and answered by it. It is counted, and the group is
-- remembered.
pub record Follows (group : Option ℕ) (before now : Scripted) (answers : Turned1 → Type 0) : Type 0 where
  pub turn : Turned1
  pub next : IsNext before.script now.script turn
  pub called : now.counts.calls ≡ once_more before.counts.calls
  pub under : now.counts.group ≡ group
  pub answer : answers turn

-- What taking the next turn of the script does, for a call of this task, plain or under this cancel group.
pub record Turns (task : ℕ) (group : Option ℕ) (before now : Scripted) (turn : Turned1) : Type 0 where
  pub same : now ≡ record before { script = now.script; counts = now.counts }
  pub counts : AfterCall group before.counts now.counts
  pub rises : Rises turn task before.counts now.counts
  pub next : IsNext before.script now.script turn
  pub called : now.counts.calls ≡ once_more before.counts.calls
  pub under : now.counts.group ≡ group
