-- How far a job came, and what an operation that ended brings it. Cited by `Course`.
use Rattle.std.specs.Prelude.{ℕ, ◌≡◌, ◌≤◌, ◌<◌, ◌+◌, ◌-◌, List, [], ◌++◌, length, take, drop}
use Rattle.rent_buf.specs.Buffer.{Buffer}
use Rattle.rent_buf.specs.Parts.{Parts}
use Rattle.rent_buf.specs.Rent.{Rented}
use Rattle.rent_buf.specs.declared.held.Held.TheVariants.{One}
use Rattle.rent_buf.specs.declared.fault.IoFault.{IoFault}
use Rattle.rent_buf.specs.declared.fault.IoFault.TheVariants.{Os, UnexpectedEof, WriteZero, InvalidData}
use Rattle.machine.specs.declared.request.Outcome.{Outcome}
use Rattle.machine.specs.declared.request.Outcome.TheVariants.{Count, Fail}
use Rattle.machine.specs.declared.request.Request.{Request}
use Rattle.machine.specs.declared.request.Request.TheVariants.{Recv, Send}
use Rattle.machine.specs.Request.{held_want, sent_of}
use Rattle.pipe_job.specs.declared.course.TheConstants.{MOST_MOVED}

-- The pipe and the bytes of a job, how many of these it has sent, and how many of them it has received.
pub record Coursed : Type 0 where
  pub pipe : ℕ
  pub bytes : List ℕ
  pub sent : ℕ
  pub received : ℕ

-- The bytes that it has sent.
abbrev pub sent_in : Coursed → List ℕ
sent_in c = take c.sent c.bytes

-- Those that it has received.
abbrev pub received_in : Coursed → List ℕ
received_in c = take c.received c.bytes

-- The pipe and the bytes stay.
pub record IsSameBytes (old new : Coursed) : Type 0 where
  pub pipe : new.pipe ≡ old.pipe
  pub bytes : new.bytes ≡ old.bytes

-- How many bytes are to be sent or received.
abbrev pub left_of : Coursed → ℕ
left_of c = (length c.bytes - c.sent) + (length c.bytes - c.received)

-- All bytes were sent and received.
pub record IsWhole (c : Coursed) : Type 0 where
  pub all_sent : c.sent ≡ length c.bytes
  pub all_received : c.received ≡ length c.bytes

-- A request is a job's next one: it sends the next bytes that weren't sent to the job's pipe, `MOST_MOVED` at most; or, once all are sent,
-- it receives one at least.
abbrev pub IsNext : Coursed → Request Buffer Parts → Type 0
IsNext c (Recv fd buf) = (fd ≡ c.pipe) × (c.sent ≡ length c.bytes) × (1 ≤ held_want (One buf))
IsNext c (Send fd buf) =
    (fd ≡ c.pipe) × (c.sent < length c.bytes) × (sent_of (Send fd buf) ≡ take MOST_MOVED (drop c.sent c.bytes))
IsNext c _ = ⊥

-- The buffer of it: it has those bytes, or room for one at least.
pub record IsRoom (c : Coursed) (buf : Rented) : Type 0 where
  pub some : 1 ≤ buf.total
  pub most : buf.total ≤ MOST_MOVED
  pub sends : c.sent < length c.bytes → buf.bytes ≡ take MOST_MOVED (drop c.sent c.bytes)
  pub fits : length buf.bytes ≤ buf.total

-- What an operation that ended brings a job: a send that it counts has sent as many of the next bytes, and a receive has received those of
-- its buffer.
abbrev pub BringsOn : Coursed → Coursed → Outcome → Request Rented Parts → Type 0
BringsOn old new (Count k) (Send fd buf) =
    (old.sent + k ≤ length old.bytes) × (new.sent ≡ old.sent + k) × (new.received ≡ old.received)
BringsOn old new (Count k) (Recv fd buf) = (received_in new ≡ received_in old ++ buf.bytes) × (new.sent ≡ old.sent)
BringsOn old new _ _ = ⊥

-- A send is a fault where it took nothing, or more than there was.
abbrev pub SendFault : Coursed → ℕ → IoFault → Type 0
SendFault c k WriteZero = k ≡ 0
SendFault c k InvalidData = length c.bytes < c.sent + k
SendFault c k _ = ⊥

-- A receive is one where it brought nothing, or other bytes than the next of those that were sent.
abbrev pub ReceiveFault : Coursed → List ℕ → IoFault → Type 0
ReceiveFault c bytes UnexpectedEof = bytes ≡ []
ReceiveFault c bytes InvalidData = (rest : List ℕ) → sent_in c ≡ received_in c ++ (bytes ++ rest) → ⊥
ReceiveFault c bytes _ = ⊥

-- Why a job fails as an operation ends: an error is the operation's, and what it moved may be a fault; else it ended as none of a job does.
abbrev pub FailsBy : Coursed → Outcome → Request Rented Parts → IoFault → Type 0
FailsBy c (Fail e) request why = why ≡ Os e
FailsBy c (Count k) (Send fd buf) why = SendFault c k why
FailsBy c (Count k) (Recv fd buf) why = ReceiveFault c buf.bytes why
FailsBy c _ _ why = why ≡ InvalidData
