-- What the calls of the readiness driver do, over any object: its own clauses. Cited by its `OpDriver`.
use Rattle.std.specs.Prelude.{ℕ, ◌≡◌, ◌↔◌, ◌++◌, Bool, true, None, Some, Result, Ok, Err, option_to_list}
use Rattle.std.specs.FinMap as map
use Rattle.rent_buf.specs.Buffer.{Buffer}
use Rattle.rent_buf.specs.Parts.{Parts}
use Rattle.rent_buf.specs.declared.fault.OutOfMemory.{OutOfMemory}
use Rattle.machine.specs.declared.request.Request.{Request}
use Rattle.machine.specs.Lists.{has_number}
use Rattle.handle_core.specs.declared.table.Released.{Released}
use Rattle.handle_core.specs.declared.table.Released.TheVariants.{Last}
use Rattle.handle_core.specs.Table.{holders_at, without_user}
use Rattle.driver_core.specs.Holds.{is_nobody, named_in, settled, without_ops, unheld_by}
use Rattle.driver_core.specs.Members.{leaves}
use Rattle.driver_core.specs.declared.op.Op.{Op as Token}
use Rattle.driver_core.specs.declared.op.PollOp.{PollOp}
use Rattle.driver_core.specs.declared.op.SubmitError.{SubmitError}
use Rattle.driver_core.specs.declared.op.Submitted.{Submitted}
use Rattle.driver_core.specs.declared.op.Submitted.TheVariants.{Op}
use Rattle.ready_driver.specs.Awaits.{BlocksUnless, IsSlotUnmet}
use Rattle.ready_driver.specs.Calling.{Called}
use Rattle.ready_driver.specs.Errors.{FailsFor}
use Rattle.ready_driver.specs.Io.{IoView}
use Rattle.ready_driver.specs.LegacyCalls.{JoinsFor, SubmitRefused, waiting_task, unwaited}
use Rattle.ready_driver.specs.LegacyPolls.{EndsFor}
use Rattle.ready_driver.specs.LegacyState.{LegacyState, SameOps, ops_in}
use Rattle.ready_driver.specs.Named.{PollsSlotFor, canceled_slots}
use Rattle.ready_driver.specs.Others.{KeepsOthers}
use Rattle.ready_driver.specs.Registry.{AreRecorded, LetsGo, is_known, unheld_if}

-- A submission under no group: the handles that its request names are registered, and the new operation holds them. One that is refused
-- says why, and what it left.
abbrev pub LegacySubmits : {I B : Type 0} → (I → IoView) → Bool → Bool → LegacyState I B → LegacyState I B → Request B Parts →
    Result Token (SubmitError B) → Type 0
LegacySubmits view tells memory old new request (Ok op) = JoinsFor view tells memory old new request None (Op op)
LegacySubmits view tells memory old new request (Err refused) = SubmitRefused view tells memory request old new refused

-- The same under a group. Under a canceled one nothing changes, and the request comes back.
abbrev pub LegacyJoins : {I B : Type 0} → (I → IoView) → Bool → Bool → LegacyState I B → LegacyState I B → Request B Parts → ℕ →
    Result (Submitted B) (SubmitError B) → Type 0
LegacyJoins view tells memory old new request group (Ok submitted) = JoinsFor view tells memory old new request (Some group) submitted
LegacyJoins view tells memory old new request group (Err refused) = SubmitRefused view tells memory request old new refused

-- A poll: what it did to the slot at the token's key, to handles and to groups, and which call it made; when it is pending, and when it
-- ends with an error. What the other operations wait for stays, and so does what the next turn is asked to name. Behind it only handles
-- that somebody holds have records, and somebody holds each handle that an operation names.
pub record LegacyPolls {I B : Type 0} (files : I → ℕ → Bool) (buffer : B → Buffer) (called : Called I) (view : I → IoView)
    (tells memory : Bool) (old new : LegacyState I B) (op : Token) (task : ℕ) (result : Result (PollOp B) (OutOfMemory × Token))
    : Type 0 where
  pub slot : PollsSlotFor (ops_in old) (ops_in new) op result
  pub ends : EndsFor files buffer called view tells memory old new op task result
  pub blocks : BlocksUnless (IsSlotUnmet old.handling.records (map.get old.slots.values op.key)) (view old.handling.io)
      (view new.handling.io) result
  pub fails : FailsFor view old new op result
  pub others : KeepsOthers old.handling new.handling op.number
  pub asked : new.asked ≡ old.asked
  pub recorded : AreRecorded new.handling.table new.handling.records
  pub held : (key h : ℕ) → has_number h (named_in (map.get new.slots.values key)) ≡ true → is_known new.handling.table h ≡ true

-- A drop: its operation is gone, with its slot. It waits no longer, lets go of each handle that it names, and is no member of a group.
pub record LegacyDrops {I B : Type 0} (view : I → IoView) (tells memory : Bool) (old new : LegacyState I B) (op : Token) : Type 0 where
  pub slot : new.slots.values ≡ map.remove old.slots.values op.key
  pub handles : LetsGo view tells memory (unwaited old.handling op.number (map.get old.slots.values op.key))
      (without_ops old.handling.table (named_in (map.get old.slots.values op.key)))
      (unheld_by old.handling.table (named_in (map.get old.slots.values op.key))) new.handling
  pub members : new.members ≡ leaves old.members op.number

-- A cancel that is asked for: its operation is canceled and waits no longer, and the next turn names its task, if it waited.
pub record LegacyCanceled {I B : Type 0} (old new : LegacyState I B) (op : Token) : Type 0 where
  pub slots : new.slots.values ≡ canceled_slots old.slots.values op.key
  pub waits : new.handling ≡ unwaited old.handling op.number (map.get old.slots.values op.key)
  pub asked : new.asked ≡ old.asked ++ option_to_list (waiting_task old.handling.records op.number (map.get old.slots.values op.key))
  pub members : new.members ≡ old.members

-- If memory ran out nothing changes.
abbrev pub LegacyCancels : {I B : Type 0} → LegacyState I B → LegacyState I B → Token → Result Unit OutOfMemory → Type 0
LegacyCancels old new op (Ok done) = LegacyCanceled old new op
LegacyCancels old new op (Err error) = new ≡ old

-- A handle is given up: its user holds it once less, and where nobody holds it then the object was asked for its close.
pub record LegacyCloses {I B : Type 0} (view : I → IoView) (tells memory : Bool) (old new : LegacyState I B) (fd : ℕ)
    (answer : Released) : Type 0 where
  pub last : answer ≡ Last ↔ is_nobody (without_user (holders_at old.handling.table fd)) ≡ true
  pub handles : LetsGo view tells memory old.handling
      (settled old.handling.table fd (without_user (holders_at old.handling.table fd)))
      (unheld_if (is_nobody (without_user (holders_at old.handling.table fd))) fd) new.handling
  pub rest : SameOps old new
