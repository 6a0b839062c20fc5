-- What a poll of a readiness driver leaves of handles and groups, over every object. Cited by `LegacyDriver`.
use Rattle.std.specs.Prelude.{ℕ, ◌≡◌, Bool, true, false, Option, None, Some, Result, Ok, Err}
use Rattle.std.specs.FinMap as map
use Rattle.rent_buf.specs.Buffer.{Buffer}
use Rattle.rent_buf.specs.declared.fault.OutOfMemory.{OutOfMemory as NoMemory}
use Rattle.handle_core.specs.Table.{Table}
use Rattle.machine.specs.declared.request.Outcome.{Outcome}
use Rattle.machine.specs.declared.request.Outcome.TheVariants.{Fail}
use Rattle.machine.specs.declared.world.call.TheConstants.{INVALID}
use Rattle.machine.specs.Effect.{made_by}
use Rattle.machine.specs.Request.{named}
use Rattle.driver_core.specs.declared.op.Done.{Done}
use Rattle.driver_core.specs.declared.op.Op.{Op as Token}
use Rattle.driver_core.specs.declared.op.PollOp.{PollOp}
use Rattle.driver_core.specs.declared.op.PollOp.TheVariants.{Pending, Ready}
use Rattle.driver_core.specs.declared.slot.Slot.{Slot}
use Rattle.driver_core.specs.Holds.{is_maker, without_ops, unheld_by}
use Rattle.driver_core.specs.Members.{leaves}
use Rattle.ready_driver.specs.Awaits.{slot_awaits, unless, is_met_at, LeavesFor}
use Rattle.ready_driver.specs.Calling.{Called, CallsOnce}
use Rattle.ready_driver.specs.Io.{IoView}
use Rattle.ready_driver.specs.LegacyState.{LegacyState}
use Rattle.ready_driver.specs.Records.{Kept}
use Rattle.ready_driver.specs.Registry.{Handling, is_old, GivesUser, LetsGo}

-- A handle that a call made becomes its user's, where it made one. It can be new.
abbrev pub HandsOver : {I : Type 0} → (I → IoView) → Bool → Bool → Handling I → Option ℕ → Handling I → Type 0
HandsOver view tells memory old None new = new ≡ old
HandsOver view tells memory old (Some h) new = (is_old old.table h ≡ false) × GivesUser view tells memory old h new

-- The outcome that a poll returns, by what the call ended with: a handle that can't be new isn't made, and the outcome is an error.
abbrev pub outcome_if : Bool → Outcome → Outcome
outcome_if true outcome = Fail INVALID
outcome_if false outcome = outcome

abbrev pub outcome_by : Table → Outcome → Option ℕ → Outcome
outcome_by table outcome None = outcome
outcome_by table outcome (Some h) = outcome_if (is_old table h) outcome

abbrev pub outcome_for : Table → Outcome → Outcome
outcome_for table outcome = outcome_by table outcome (made_by outcome)

-- What a poll itself left of the handles, but for memory: their holders, and the bits and the waiting entries. A pending operation that
-- waits for a direction of a handle which is no file is, with its task, in that handle's waiting list. No memory was reserved for a handle
-- where the operation makes none.
pub record PollsHandling {I B : Type 0} (files : I → ℕ → Bool) (old mid : Handling I) (slot : Option (Slot B)) (number task : ℕ)
    (result : Result (PollOp B) (NoMemory × Token)) : Type 0 where
  pub table : mid.table.holders ≡ old.table.holders
  pub records : Kept
  pub room : records.handles ≡ old.records.handles
  pub leaves : LeavesFor (unless (files old.io) (slot_awaits slot)) records number task mid.records result
  pub unreserved : is_maker slot ≡ false → (mid.table ≡ old.table) × (records ≡ old.records)

-- What a poll itself called: by whether its operation waits for nothing, or a bit of its handle, which is no file, meets its direction.
abbrev pub PollsCall : {I B : Type 0} → (I → ℕ → Bool) → (B → Buffer) → Called I → Handling I → Option (Slot B) → Option (Slot B) → I →
    Result (PollOp B) (NoMemory × Token) → Type 0
PollsCall files buffer called old slot new after result =
    CallsOnce (is_met_at old.records (unless (files old.io) (slot_awaits slot))) buffer called slot old.io new after result

-- An operation was returned, by a call that ended so or without one: what it made is its user's, it holds its handles no more, and it is no
-- member of its group.
pub record EndsOp {I B : Type 0} (files : I → ℕ → Bool) (buffer : B → Buffer) (called : Called I) (view : I → IoView)
    (tells memory : Bool) (old new : LegacyState I B) (op : Token) (task : ℕ)
    (done : Done B) : Type 0 where
  pub mid : Handling I
  pub call : Outcome
  pub calls : PollsCall files buffer called old.handling (map.get old.slots.values op.key) (map.get new.slots.values op.key) mid.io
      (Ok (Ready (record done { outcome = call })))
  pub polls : PollsHandling files old.handling mid (map.get old.slots.values op.key) op.number task
      (Ok (Ready (record done { outcome = call })))
  pub outcome : done.outcome ≡ outcome_for mid.table call
  pub handed : Handling I
  pub hands : HandsOver view tells memory mid (made_by done.outcome) handed
  pub lets : LetsGo view tells memory handed (without_ops handed.table (named done.request))
      (unheld_by handed.table (named done.request)) new.handling
  pub members : new.members ≡ leaves old.members op.number

-- What a poll leaves of the handles and the groups, and which call it made: one at most. Only one that is ready lets handles go.
abbrev pub EndsFor : {I B : Type 0} → (I → ℕ → Bool) → (B → Buffer) → Called I → (I → IoView) → Bool → Bool → LegacyState I B →
    LegacyState I B → Token → ℕ →
    Result (PollOp B) (NoMemory × Token) → Type 0
EndsFor files buffer called view tells memory old new op task (Ok (Pending back)) =
    PollsHandling files old.handling new.handling (map.get old.slots.values op.key) op.number task (Ok (Pending back))
    × (new.members ≡ old.members)
    × PollsCall files buffer called old.handling (map.get old.slots.values op.key) (map.get new.slots.values op.key) new.handling.io
    (Ok (Pending back))
EndsFor files buffer called view tells memory old new op task (Ok (Ready done)) =
    EndsOp files buffer called view tells memory old new op task done
EndsFor files buffer called view tells memory old new op task (Err error) =
    PollsHandling files old.handling new.handling (map.get old.slots.values op.key) op.number task (Err error)
    × (new.members ≡ old.members)
    × PollsCall files buffer called old.handling (map.get old.slots.values op.key) (map.get new.slots.values op.key) new.handling.io
    (Err error)
