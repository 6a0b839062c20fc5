-- What an execution answers, of a driver that stands for a ledger, and of every driver.
use Rattle.std.specs.Prelude.{ℕ, ◌≡◌, ◌≤◌, true, false, length, Some, None, Result, Ok, Err}
use Rattle.rent_buf.specs.Buffer.{Buffer}
use Rattle.machine.specs.declared.request.Told.{Told}
use Rattle.machine.specs.declared.ledger.Event.TheVariants.{Exec}
use Rattle.machine.specs.declared.ledger.Reply.TheVariants.{ExecutedOp, ExecutedClose}
use Rattle.machine.specs.declared.ledger.Refusal.TheVariants.{NotFlying as NoFlight, Waiting as WaitsStill}
use Rattle.machine.specs.declared.ledger.Refusal.TheVariants.{BadOutcome as WrongOutcome}
use Rattle.ring_core.specs.declared.mem_ring.ExecRefusal.{ExecRefusal}
use Rattle.ring_core.specs.declared.mem_ring.ExecRefusal.TheVariants.{NotFlying, Waiting, BadOutcome, OutOfMemory}
use Rattle.machine.specs.Refusal.{cause}
use Rattle.machine.specs.Ledger.{Ledger}
use Rattle.ring_core.specs.Ring.{RingView}
use Rattle.driver_core.specs.declared.op.Executed.{Executed}
use Rattle.driver_core.specs.declared.op.Executed.TheVariants.{Op, Close}
use Rattle.machine.specs.declared.completion.Completion.{Completion}
use Rattle.ring_core.specs.declared.entry.Target.{Target}
use Rattle.ring_core.specs.declared.entry.Target.TheVariants.{Slot as Keyed, Handle, Reserved}
use Rattle.ring_core.specs.Entry.{target}
use Rattle.ring_core.specs.MemRing.{IsExecuted, IsForbidden, MayRunOut, is_bound}
use Rattle.driver_core.specs.Operations.{offered, StoresAt}
use Rattle.uring_driver.specs.declared.uring.IoUringDriver.{IoUringDriver}
use Rattle.uring_driver.specs.Uring.{ring_in}
use Rattle.uring_driver.specs.Op.{ops_in}
use Rattle.uring_driver.specs.Stands.{Answers}

-- Why an execution was refused: by the machine's cause, or memory ran out and the machine names none.
abbrev pub RefusedFor : Ledger → ℕ → Told → ExecRefusal → Type 0
RefusedFor L place told NotFlying = cause L (Exec place told) ≡ Some NoFlight
RefusedFor L place told Waiting = cause L (Exec place told) ≡ Some WaitsStill
RefusedFor L place told BadOutcome = cause L (Exec place told) ≡ Some WrongOutcome
RefusedFor L place told OutOfMemory = cause L (Exec place told) ≡ None

-- An execution answers what the machine does.
abbrev pub ExecutesFor : {B : Type 0} → (B → Buffer) → Ledger → ℕ → Told → IoUringDriver RingView B → Result Executed ExecRefusal → Type 0
ExecutesFor buffer L place told new (Ok (Op number)) = Answers (λ r. r) buffer L (Exec place told) (ExecutedOp number) new
ExecutesFor buffer L place told new (Ok (Close h)) = Answers (λ r. r) buffer L (Exec place told) (ExecutedClose h) new
ExecutesFor buffer L place told new (Err why) = RefusedFor L place told why

-- What was executed, by what the completion's word names: the close of a handle, or an operation, by its serial.
abbrev pub executed_as : Completion → Target → Executed
executed_as completion (Handle h) = Close h
executed_as completion (Keyed key) = Op completion.serial
executed_as completion (Reserved word) = Op completion.serial

-- What is in flight at a place was executed by the ring over the driver's operations, and became the completion that is answered.
pub record IsExecutedOver {B : Type 0} (buffer : B → Buffer) (old : IoUringDriver RingView B) (place : ℕ) (told : Told)
    (new : IoUringDriver RingView B) (answer : Executed) : Type 0 where
  pub completion : Completion
  pub named : answer ≡ executed_as completion (target completion.word)
  pub executed : IsExecuted (offered buffer) (StoresAt buffer) (ring_in old) place told (ring_in new) (ops_in old) (ops_in new) completion

-- Why nothing was executed: there is nothing at the place, it is bound, the outcome isn't allowed to it, or bytes are sent and memory ran
-- out.
abbrev pub NotExecuted : RingView → ℕ → Told → ExecRefusal → Type 0
NotExecuted ring place told NotFlying = length ring.flying ≤ place
NotExecuted ring place told Waiting = is_bound ring.flying place ≡ true
NotExecuted ring place told BadOutcome = IsForbidden ring place told
NotExecuted ring place told OutOfMemory = MayRunOut (λ count. false) ring place told

-- What an execution does over every driver.
abbrev pub ExecutesOver : {B : Type 0} → (B → Buffer) → IoUringDriver RingView B → ℕ → Told →
    IoUringDriver RingView B → Result Executed ExecRefusal → Type 0
ExecutesOver buffer old place told new (Ok answer) = IsExecutedOver buffer old place told new answer
ExecutesOver buffer old place told new (Err why) = NotExecuted (ring_in old) place told why
