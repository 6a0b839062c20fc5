-- How calls are counted: those that failed as a whole, would have blocked, and ended with an error. Cited by `Counts` and `MioIo`.
use Rattle.std.specs.Prelude.{ℕ, ◌≡◌, ◌≤◌, ◌+◌, ◌-◌, ◌^◌, min, Result, Ok, Err}
use Rattle.machine.specs.declared.request.Outcome.TheVariants.{Count, From, Made, Fail}
use Rattle.driver_core.specs.declared.operations.calls.CallAnswer.{CallAnswer}
use Rattle.driver_core.specs.declared.operations.calls.CallAnswer.TheVariants.{Done, WouldBlock as Blocks, OutOfMemory as NoMemory}
use Rattle.socket_io.specs.declared.mio_io.socket.Refusal.{Refusal}
use Rattle.socket_io.specs.declared.mio_io.socket.Refusal.TheVariants.{WouldBlock, Error}
use Rattle.socket_io.specs.declared.mio_io.counts.Counts.{Counts}
use Rattle.ready_driver.specs.declared.non_block.NonBlockError.{NonBlockError}
use Rattle.ready_driver.specs.declared.non_block.NonBlockError.TheVariants.{Fault, OutOfMemory}

-- A count is one more, or stays the last value of a `u64`.
pub record Raises (before now : ℕ) : Type 0 where
  pub later : before ≤ now
  pub value : now ≡ min (before + 1) (2 ^ 64 - 1)

-- What the system refused, as an answer.
abbrev pub answer_of : Refusal → CallAnswer
answer_of WouldBlock = Blocks
answer_of (Error e) = Done (Fail e)

-- A call is counted by its answer: that it would block, or its error. Nothing else is counted.
abbrev pub IsCounted : Counts → Counts → CallAnswer → Type 0
IsCounted old new Blocks = Raises old.blocks new.blocks × (new ≡ record old { blocks = new.blocks })
IsCounted old new (Done (Fail e)) = Raises old.fails new.fails × (new ≡ record old { fails = new.fails })
IsCounted old new (Done (Count k)) = new ≡ old
IsCounted old new (Done (From k addr)) = new ≡ old
IsCounted old new (Done (Made h)) = new ≡ old
IsCounted old new NoMemory = new ≡ old

-- An answer says that nothing moved.
abbrev pub SaysNothing : CallAnswer → Type 0
SaysNothing Blocks = Unit {0}
SaysNothing (Done (Fail e)) = Unit {0}
SaysNothing (Done (Count k)) = ⊥
SaysNothing (Done (From k addr)) = ⊥
SaysNothing (Done (Made h)) = ⊥
SaysNothing NoMemory = Unit {0}

-- A call that failed as a whole is counted, and its number is kept. One for which memory ran out isn't.
abbrev pub ErrorCounted : NonBlockError → Counts → Counts → Type 0
ErrorCounted (Fault code) old new = Raises old.faults new.faults × (new ≡ record old { faults = new.faults; last_fault = code })
ErrorCounted OutOfMemory old new = new ≡ old

-- So is any call that may fail as a whole.
abbrev pub ResultCounted : {A : Type 0} → Counts → Counts → Result A NonBlockError → Type 0
ResultCounted old new (Ok x) = new ≡ old
ResultCounted old new (Err why) = ErrorCounted why old new
