-- What a session replies to an execution.
use Rattle.std.specs.Prelude.{◌≡◌, Result, Ok, IsErr}
use Rattle.rent_buf.specs.declared.fault.OutOfMemory.{OutOfMemory as NoMemory}
use Rattle.machine.specs.declared.ledger.Reply.{Reply}
use Rattle.machine.specs.declared.ledger.Reply.TheVariants.{ExecutedOp, ExecutedClose, Refused}
use Rattle.machine.specs.declared.ledger.Refusal.TheVariants.{NotFlying as NoFlight, Waiting as Waits, BadOutcome as WrongOutcome}
use Rattle.ring_core.specs.declared.mem_ring.ExecRefusal.{ExecRefusal}
use Rattle.ring_core.specs.declared.mem_ring.ExecRefusal.TheVariants.{NotFlying, Waiting, BadOutcome, OutOfMemory}
use Rattle.driver_core.specs.declared.op.Executed.{Executed}
use Rattle.driver_core.specs.declared.op.Executed.TheVariants.{Op, Close}

-- The reply to what was executed.
abbrev pub reply_to : Executed → Reply
reply_to (Op n) = ExecutedOp n
reply_to (Close h) = ExecutedClose h

-- A refused execution is answered with its name; if memory runs out there is no reply.
abbrev pub AnswersRefusal : ExecRefusal → Result Reply NoMemory → Type 0
AnswersRefusal NotFlying result = result ≡ Ok (Refused NoFlight)
AnswersRefusal Waiting result = result ≡ Ok (Refused Waits)
AnswersRefusal BadOutcome result = result ≡ Ok (Refused WrongOutcome)
AnswersRefusal OutOfMemory result = IsErr result
