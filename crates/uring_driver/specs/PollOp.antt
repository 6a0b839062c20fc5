-- What a poll answers.
use Rattle.std.specs.Prelude.{ℕ, ◌≡◌, Bool, IsTrue, ◌⊎◌, List, [], map, Option, Some, None, slice_get}
use Rattle.rent_buf.specs.Buffer.{Buffer}
use Rattle.machine.specs.Ledger.{Ledger, Operation, Place, InQueue, InFlight, InDone, Reaped, Gone}
use Rattle.ring_core.specs.Ring.{RingView}
use Rattle.driver_core.specs.declared.op.Op.{Op}
use Rattle.driver_core.specs.declared.op.PollOp.{PollOp}
use Rattle.driver_core.specs.declared.op.PollOp.TheVariants.{Pending, Ready}
use Rattle.driver_core.specs.Holds.{unheld_by}
use Rattle.driver_core.specs.Members.{leaves}
use Rattle.ring_core.specs.declared.entry.Entry.{Entry}
use Rattle.ring_core.specs.Entry.{close_entry}
use Rattle.machine.specs.Request.{named}
use Rattle.driver_core.specs.Answers.{PollsFor as PollsBy}
use Rattle.driver_core.specs.Operations.{PollsOp as PollsIn}
use Rattle.driver_core.specs.Op.{PollsTokens as PollsTokensIn}
use Rattle.driver_core.specs.Requests.{ReturnsRequest as ReturnsIn}
use Rattle.uring_driver.specs.declared.uring.IoUringDriver.{IoUringDriver}
use Rattle.uring_driver.specs.Op.{ops_in, number_of}
use Rattle.uring_driver.specs.Stands.{Stands}
use Rattle.driver_core.specs.declared.op.Done.{Done}
use Rattle.machine.specs.Effect.{made_by}
use Rattle.uring_driver.specs.Holding.{Holding, ops_left}
use Rattle.uring_driver.specs.Making.{handed_if}
pub use Rattle.driver_core.specs.Op.{IsPending}

-- A poll answers what the machine does. What is ready has its outcome, and its own request with its buffer.
abbrev pub PollsFor : {R B : Type 0} → (R → RingView) → (B → Buffer) → Ledger → Op → ℕ → IoUringDriver R B → PollOp B → Type 0
PollsFor view buffer L op task new result = PollsBy (Stands view buffer) buffer L op task new result

-- What a poll does over any ring to the slot at its token's key: Pending exactly while it isn't completed, and then its task is the
-- one that polled; what is ready is that slot's own request and outcome, and the slot goes.
abbrev pub PollsOp : {R B : Type 0} → IoUringDriver R B → IoUringDriver R B → Op → ℕ → PollOp B → Type 0
PollsOp old new op task result = PollsIn (ops_in old) (ops_in new) op task result

-- A poll that is pending returns its token, and keeps all. One that is ready keeps all but this one.
abbrev pub PollsTokens : {R B : Type 0} → IoUringDriver R B → IoUringDriver R B → Op → PollOp B → Type 0
PollsTokens old new op result = PollsTokensIn (ops_in old) (ops_in new) op result

-- What a poll returns, where it is ready, is the request of the token's operation, with what it holds.
abbrev pub ReturnsRequest : {R B : Type 0} → IoUringDriver R B → Op → PollOp B → Type 0
ReturnsRequest old op result = ReturnsIn (ops_in old) op result

-- A place before the reap.
abbrev pub IsUnreapedPlace : Place → Type 0
IsUnreapedPlace InQueue = Unit {0}
IsUnreapedPlace InFlight = Unit {0}
IsUnreapedPlace (InDone outcome) = Unit {0}
IsUnreapedPlace (Reaped outcome) = ⊥
IsUnreapedPlace Gone = ⊥

-- The operation that was looked up isn't reaped.
abbrev pub IsUnreapedOp : Option Operation → Type 0
IsUnreapedOp None = ⊥
IsUnreapedOp (Some operation) = IsUnreapedPlace operation.place

-- The operation of a number was given and isn't reaped.
abbrev pub IsUnreaped : Ledger → ℕ → Type 0
IsUnreaped L number = IsUnreapedOp (slice_get L.ops number)

-- Who holds handles once the one that an operation made became its user's, where it made one.
abbrev pub handed_by : {B : Type 0} → Holding → Done B → Holding
handed_by holding done = handed_if holding (made_by done.outcome)

-- What a poll leaves of who holds handles, over any ring: one that is pending keeps all; one that is ready hands over what its operation
-- made, which is gone.
abbrev pub PollsHandles : {R B : Type 0} → IoUringDriver R B → IoUringDriver R B → PollOp B → Type 0
PollsHandles old new (Pending back) = new.holding ≡ old.holding
PollsHandles old new (Ready done) = new.holding ≡ ops_left (handed_by old.holding done) (named done.request)

-- What a poll leaves of cancel groups, over any ring: one that is pending keeps all; one that is ready takes its operation out.
abbrev pub PollsMembers : {R B : Type 0} → IoUringDriver R B → IoUringDriver R B → Op → PollOp B → Type 0
PollsMembers old new op (Pending back) = new.members ≡ old.members
PollsMembers old new op (Ready done) = new.members ≡ leaves old.members (number_of op)

-- The closes that a poll makes pending: of each handle that the operation named which is gone, and that nobody holds any more.
abbrev pub closes_of_poll : {R B : Type 0} → IoUringDriver R B → PollOp B → List Entry
closes_of_poll old (Pending back) = []
closes_of_poll old (Ready done) = map close_entry (unheld_by (handed_by old.holding done).table (named done.request))

-- A poll leaves the ring's lists as the machine's push does: the ring always takes its whole queue, or the poll is pending and
-- queues nothing.
abbrev pub IsExactPoll : {B : Type 0} → Bool → PollOp B → Type 0
IsExactPoll steady result = IsTrue steady ⊎ IsPending result
