-- What the calls of a driver answer, by the relation that says when it stands for a ledger: the same for every driver.
use Rattle.std.specs.Prelude.{ℕ, ◌≡◌, Bool, List, length, Option, None, Some, slice_get}
use Rattle.rent_buf.specs.Buffer.{Buffer}
use Rattle.rent_buf.specs.Parts.{Parts}
use Rattle.machine.specs.declared.request.Request.{Request}
use Rattle.machine.specs.declared.ledger.Event.{Event}
use Rattle.machine.specs.declared.ledger.Event.TheVariants.{Submit, Poll, NewCanceller, NewHandle, CancelAll}
use Rattle.machine.specs.declared.ledger.Reply.{Reply}
use Rattle.machine.specs.declared.ledger.Reply.TheVariants.{Submitted as Given, CanceledAtOnce, Pending as Waits, Handed}
use Rattle.machine.specs.declared.ledger.Reply.TheVariants.{Canceller, CancelHandle, Cancels}
use Rattle.machine.specs.Request.{plain_request, held_of, IsHolding}
use Rattle.machine.specs.Ledger.{Ledger, Operation, group_under}
use Rattle.machine.specs.Step.{step}
use Rattle.driver_core.specs.declared.op.Op.{Op as Token}
use Rattle.driver_core.specs.declared.op.PollOp.{PollOp}
use Rattle.driver_core.specs.declared.op.PollOp.TheVariants.{Pending, Ready}
use Rattle.driver_core.specs.declared.op.Submitted.{Submitted}
use Rattle.driver_core.specs.declared.op.Submitted.TheVariants.{Op, Canceled}
use Rattle.driver_core.specs.Op.{number_of}

-- A call's answer is the machine's reply to its event, and the driver stands for the machine's next ledger.
pub record Answers {D : Type 0} (relation : D → Ledger → Type 0) (L : Ledger) (event : Event) (reply : Reply) (new : D) : Type 0 where
  pub reply_is : (step L event).1 ≡ reply
  pub stands : relation new (step L event).0

-- The machine submits under the group that a driver submits under, or under none: by a cancel handle of that group, or by none.
abbrev pub IsUnder : Ledger → Option ℕ → Option ℕ → Type 0
IsUnder L None handle = handle ≡ None
IsUnder L (Some group) handle = group_under L handle ≡ Some group

-- A submission, linked or not, got the machine's next number; under a canceled group what its request holds comes back, as the machine's
-- reply has it.
abbrev pub SubmitsFor : {D B : Type 0} → (D → Ledger → Type 0) → (B → Buffer) → Bool → Ledger → Request B Parts → Option ℕ → D →
    Submitted B → Type 0
SubmitsFor relation buffer linked L request handle new (Op op) =
    Answers relation L (Submit (plain_request buffer request) handle linked) (Given (number_of op)) new
SubmitsFor relation buffer linked L request handle new (Canceled back) =
    Answers relation L (Submit (plain_request buffer request) handle linked) (CanceledAtOnce (held_of (plain_request buffer back))) new

-- A new canceller is the machine's next one, and is of the machine's fresh group.
pub record CancellerFor {D : Type 0} (relation : D → Ledger → Type 0) (L : Ledger) (group : ℕ) (new : D) : Type 0 where
  pub answers : Answers relation L NewCanceller (Canceller (length L.cancellers)) new
  pub fresh : group ≡ length L.groups

-- A cancel handle of a canceller's group is the machine's next one, for each canceller of the machine with that group.
abbrev pub HandleFor : {D : Type 0} → (D → Ledger → Type 0) → Ledger → ℕ → D → Type 0
HandleFor relation L group new = (canceller : ℕ) → slice_get L.cancellers canceller ≡ Some group →
    Answers relation L (NewHandle canceller) (CancelHandle (length L.cancel_handles)) new

-- A cancel of a group is the machine's, for each canceller of the machine with that group: it names the machine's members, and the
-- canceller is of the machine's fresh group from then on.
pub record CancelsFor {D : Type 0} (relation : D → Ledger → Type 0) (L : Ledger) (group : ℕ) (numbers : List ℕ) (fresh : ℕ) (new : D)
    : Type 0 where
  pub answers :
      (canceller : ℕ) → slice_get L.cancellers canceller ≡ Some group → Answers relation L (CancelAll canceller) (Cancels numbers) new
  pub renewed : fresh ≡ length L.groups

-- A request is that of the machine's operation of a number, with what it holds.
pub record IsOwnRequest {B : Type 0} (buffer : B → Buffer) (L : Ledger) (number : ℕ) (request : Request B Parts) : Type 0 where
  pub operation : Operation
  pub there : slice_get L.ops number ≡ Some operation
  pub own : IsHolding operation.request operation.buffer (plain_request buffer request)

-- A poll answers what the machine does. What is ready has its outcome, and its own request with what it holds.
abbrev pub PollsFor : {D B : Type 0} → (D → Ledger → Type 0) → (B → Buffer) → Ledger → Token → ℕ → D → PollOp B → Type 0
PollsFor relation buffer L op task new (Pending back) = Answers relation L (Poll (number_of op) task) Waits new
PollsFor relation buffer L op task new (Ready done) =
    Answers relation L (Poll (number_of op) task) (Handed done.outcome (held_of (plain_request buffer done.request))) new
    × IsOwnRequest buffer L (number_of op) done.request
