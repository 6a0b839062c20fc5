-- When a readiness driver over a world in memory is one as plain data, and what its calls answer then. Cited by `LegacyDriver`.
use Rattle.std.specs.Prelude.{ℕ, ◌≡◌, ◌≤◌, ◌<◌, ◌==◌, ◌⊎◌, Bool, true, false, List, length, map as list_map, Option, Some, slice_get}
use Rattle.std.specs.Prelude.{Result, Ok, Err}
use Rattle.std.specs.FinMap as map
use Rattle.rent_buf.specs.Buffer.{Buffer}
use Rattle.rent_buf.specs.Parts.{Parts}
use Rattle.rent_buf.specs.declared.fault.OutOfMemory.{OutOfMemory}
use Rattle.cancel_core.specs.Group.{group_at}
use Rattle.machine.specs.declared.world.TheConstants.{MOST_HANDLES}
use Rattle.machine.specs.declared.request.Request.{Request}
use Rattle.machine.specs.declared.ledger.Event.{Event}
use Rattle.machine.specs.declared.ledger.Event.TheVariants.{Submit, Poll, Close, NewCanceller, NewHandle, CancelAll}
use Rattle.machine.specs.declared.ledger.Reply.{Reply}
use Rattle.machine.specs.declared.ledger.Reply.TheVariants.{Submitted as Given, CanceledAtOnce, Pending as Waits, Handed, Released}
use Rattle.machine.specs.declared.ledger.Reply.TheVariants.{Canceller, CancelHandle, Cancels}
use Rattle.machine.specs.Request.{plain_request, held_of}
use Rattle.driver_core.specs.declared.op.Op.{Op as Token}
use Rattle.driver_core.specs.declared.op.PollOp.{PollOp}
use Rattle.driver_core.specs.declared.op.PollOp.TheVariants.{Pending, Ready}
use Rattle.driver_core.specs.declared.op.Submitted.{Submitted}
use Rattle.driver_core.specs.declared.op.Submitted.TheVariants.{Op, Canceled}
use Rattle.driver_core.specs.Members.{Membership}
use Rattle.driver_core.specs.Op.{number_of}
use Rattle.ready_driver.specs.Awaits.{IsWorldUnmet}
use Rattle.ready_driver.specs.Io.{IoView}
use Rattle.ready_driver.specs.HandlesStand.{HandlesStand}
use Rattle.ready_driver.specs.Legacy.{Legacy, live_at, members_at}
use Rattle.ready_driver.specs.LegacyState.{LegacyState, ops_in}
use Rattle.ready_driver.specs.LegacyStep.{legacy_step}
use Rattle.ready_driver.specs.Polling.{PartsStand}

-- Groups are those of a driver as plain data: each has the mark of that driver's group, and its members.
pub record GroupsStand (m : Membership) (D : Legacy) : Type 0 where
  pub marks : list_map (λ group. group.canceled) m.groups ≡ D.groups
  pub members : (group : ℕ) → (group_at m.groups group).members ≡ members_at D group

-- A driver is one as plain data: its operations, the handles of its world, who holds them, and its groups are that one's. `view` reads its
-- object, and `buffer` its buffers. It has no more handles than there are numbers of handles.
pub record LegacyStands {I B : Type 0} (view : I → IoView) (buffer : B → Buffer) (driver : LegacyState I B) (D : Legacy) : Type 0 where
  pub parts : PartsStand buffer (ops_in driver) (view driver.handling.io).world D
  pub live : map.len driver.slots.values ≡ length (live_at D)
  pub handles : HandlesStand driver.handling.table (view driver.handling.io).keys D
  pub groups : GroupsStand driver.members D
  pub few : length D.world ≤ MOST_HANDLES

-- A call's answer is the driver's reply to its event as plain data, and the driver is the next one.
pub record LegacyAnswers {I B : Type 0} (view : I → IoView) (buffer : B → Buffer) (D : Legacy) (event : Event) (reply : Reply)
    (new : LegacyState I B) : Type 0 where
  pub reply_is : (legacy_step D event).1 ≡ reply
  pub stands : LegacyStands view buffer new (legacy_step D event).0

-- A submission got the next number; under a canceled group what its request holds comes back.
abbrev pub SubmitsFor : {I B : Type 0} → (I → IoView) → (B → Buffer) → Legacy → Request B Parts → Option ℕ → LegacyState I B →
    Submitted B → Type 0
SubmitsFor view buffer D request handle new (Op op) =
    LegacyAnswers view buffer D (Submit (plain_request buffer request) handle false) (Given (number_of op)) new
SubmitsFor view buffer D request handle new (Canceled back) =
    LegacyAnswers view buffer D (Submit (plain_request buffer request) handle false)
    (CanceledAtOnce (held_of (plain_request buffer back))) new

-- A poll answers what the driver as plain data does, but that it may also be Pending where no bit meets the direction that its operation
-- waits for; a driver with as many handles as there are numbers of handles makes none. Pending, and where memory runs out, it is as it was.
abbrev pub PollsFor : {I B : Type 0} → (I → IoView) → (B → Buffer) → LegacyState I B → Legacy → Token → ℕ → LegacyState I B →
    Result (PollOp B) (OutOfMemory × Token) → Type 0
PollsFor view buffer old D op task new (Ok (Pending back)) =
    (IsWorldUnmet old.handling.records (view old.handling.io).world (map.get old.slots.values op.key)
    ⊎ ((legacy_step D (Poll (number_of op) task)).1 ≡ Waits)) × LegacyStands view buffer new D
PollsFor view buffer old D op task new (Ok (Ready done)) =
    length D.world < MOST_HANDLES → LegacyAnswers view buffer D (Poll (number_of op) task)
    (Handed done.outcome (held_of (plain_request buffer done.request))) new
PollsFor view buffer old D op task new (Err error) = LegacyStands view buffer new D

-- A poll that is Pending is the driver's as plain data.
abbrev pub WaitsFor : {I B : Type 0} → (I → IoView) → (B → Buffer) → Legacy → Token → ℕ → LegacyState I B →
    Result (PollOp B) (OutOfMemory × Token) → Type 0
WaitsFor view buffer D op task new (Ok (Pending back)) = LegacyAnswers view buffer D (Poll (number_of op) task) Waits new
WaitsFor view buffer D op task new (Ok (Ready done)) = Unit {0}
WaitsFor view buffer D op task new (Err error) = Unit {0}

-- The user dropped one of its holds: where that was its only one this is the event, else the driver is as it was.
abbrev pub ReleasesIf : {I B : Type 0} → (I → IoView) → (B → Buffer) → Legacy → ℕ → Bool → LegacyState I B → Type 0
ReleasesIf view buffer D h true new = LegacyAnswers view buffer D (Close h) Released new
ReleasesIf view buffer D h false new = LegacyStands view buffer new D

-- So it is of one of its so many holds.
abbrev pub ReleasesFor : {I B : Type 0} → (I → IoView) → (B → Buffer) → Legacy → ℕ → ℕ → LegacyState I B → Type 0
ReleasesFor view buffer D h count new = ReleasesIf view buffer D h (count == 1) new

-- A new canceller is the next one, and is of a fresh group.
pub record CancellerFor {I B : Type 0} (view : I → IoView) (buffer : B → Buffer) (D : Legacy) (group : ℕ) (new : LegacyState I B)
    : Type 0 where
  pub answers : LegacyAnswers view buffer D NewCanceller (Canceller (length D.cancellers)) new
  pub fresh : group ≡ length D.groups

-- A cancel handle of a canceller's group is the next one, for each canceller with that group.
abbrev pub HandleFor : {I B : Type 0} → (I → IoView) → (B → Buffer) → Legacy → ℕ → LegacyState I B → Type 0
HandleFor view buffer D group new = (canceller : ℕ) → slice_get D.cancellers canceller ≡ Some group →
    LegacyAnswers view buffer D (NewHandle canceller) (CancelHandle (length D.cancel_handles)) new

-- A cancel of a group is that of each canceller with that group: it names its members, and the canceller is of a fresh group from then on.
pub record CancelsFor {I B : Type 0} (view : I → IoView) (buffer : B → Buffer) (D : Legacy) (group : ℕ) (numbers : List ℕ) (fresh : ℕ)
    (new : LegacyState I B) : Type 0 where
  pub answers : (canceller : ℕ) → slice_get D.cancellers canceller ≡ Some group →
      LegacyAnswers view buffer D (CancelAll canceller) (Cancels numbers) new
  pub renewed : fresh ≡ length D.groups
