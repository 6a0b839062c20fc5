-- The user of a session still holds each handle once at most after a submission, a poll, a drop and a cancel.
use Rattle.std.proofs.Common.{◌≡◌, ℕ, true, Option, Some, None, ap}
use Rattle.rent_buf.specs.Buf.{built}
use Rattle.rent_buf.specs.Parts.{Parts}
use Rattle.rent_buf.specs.declared.plain.Buf.{Buf}
use Rattle.handle_core.specs.Table.{Table}
use Rattle.machine.specs.Effect.{made_by}
use Rattle.machine.specs.Request.{named}
use Rattle.machine.specs.declared.request.Request.{Request}
use Rattle.driver_core.specs.declared.op.Done.{Done}
use Rattle.driver_core.specs.declared.op.Op.{Op}
use Rattle.driver_core.specs.Holds.{with_ops, without_ops}
use Rattle.ready_driver.specs.LegacyCalls.{JoinsOp}
use Rattle.ready_driver.specs.LegacyPolls.{HandsOver, EndsOp}
use Rattle.ready_driver.specs.LegacyState.{LegacyState}
use Rattle.ready_driver.specs.MemIo.{Memory, memory_files, memory_called, memory_view}
use Rattle.ready_driver.specs.Registry.{Handling}
use Rattle.ready_run.specs.ReadySession.{AreSingle}
use Rattle.ready_run.proofs.Single.{single-same, single-given, single-joined, single-left}

-- A table that is the same as another.
pub single-as : (old new : Table) → new ≡ old → AreSingle old → AreSingle new
single-as old new same = single-same old new (ap (λ table. table.holders) same)

-- One of which a handle that a call made became its user's, where it made one.
single-handed : (mid handed : Handling Memory) (made : Option ℕ) → HandsOver memory_view true true mid made handed →
    AreSingle mid.table → AreSingle handed.table
single-handed mid handed None hands = single-as mid.table handed.table (ap (λ all. all.table) hands)
single-handed mid handed (Some h) hands = single-given mid.table handed.table h hands.1.table

-- That of a driver of which an operation was returned.
pub single-ended : (old new : LegacyState Memory Buf) (op : Op) (task : ℕ) (done : Done Buf) →
    EndsOp memory_files built memory_called memory_view true true old new op task done →
    AreSingle old.handling.table → AreSingle new.handling.table
single-ended old new op task done ends single =
    single-as (without_ops ends.handed.table (named done.request)) new.handling.table ends.lets.holders
    (single-left ends.handed.table (named done.request)
    (single-handed ends.mid ends.handed (made_by done.outcome) ends.hands
    (single-same old.handling.table ends.mid.table ends.polls.table single)))

-- That of a driver that has a new operation.
pub single-submitted : (old new : LegacyState Memory Buf) (request : Request Buf Parts) (under : Option ℕ) (op : Op) →
    JoinsOp memory_view true true old new request under op → AreSingle old.handling.table → AreSingle new.handling.table
single-submitted old new request under op joins single =
    single-as (with_ops joins.mid.table (named request)) new.handling.table (ap (λ all. all.table) joins.handling)
    (single-joined joins.mid.table (named request) (single-as old.handling.table joins.mid.table joins.ready.table single))
