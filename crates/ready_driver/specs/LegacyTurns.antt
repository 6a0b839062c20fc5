-- What a turn and a park of a readiness driver do. Cited by `LegacyDriver`.
use Rattle.std.specs.Prelude.{ℕ, ◌≡◌, ◌⊎◌, ◌++◌, Bool, false, IsTrue, IfNone, List, [], Option, Some, None}
use Rattle.rent_buf.specs.Buffer.{Buffer}
use Rattle.rent_buf.specs.Counts.{Rose}
use Rattle.machine.specs.Ledger.{Ledger}
use Rattle.wake_core.specs.declared.park.Woken.{Woken}
use Rattle.wake_core.specs.Sleeping.{Sleeping, Waits, LooksOut, is_still, at_most_one}
use Rattle.driver_core.specs.declared.driver.Parked.{Parked}
use Rattle.driver_core.specs.declared.op.Stop.{Stop}
use Rattle.driver_core.specs.declared.op.Stop.TheVariants.{RingFault, Busy, BadCompletion, Os, OutOfMemory}
use Rattle.driver_core.specs.declared.op.Turned.{Turned}
use Rattle.ready_driver.specs.declared.non_block.Report.{Report}
use Rattle.ready_driver.specs.Io.{IoView, IsWaited, one_more}
use Rattle.ready_driver.specs.Legacy.{Legacy}
use Rattle.ready_driver.specs.LegacyStands.{LegacyStands}
use Rattle.ready_driver.specs.LegacyState.{LegacyState, KeepsRequests}
use Rattle.ready_driver.specs.Readiness.{Shows}
use Rattle.ready_driver.specs.Registry.{Handling, AreKeyed}
use Rattle.ready_driver.specs.Turns.{reported_each, woken_each, AreReported}

-- What a turn changes: the handles, the untreated reports, and the tasks that are to be named.
pub record Turning (I : Type 0) : Type 0 where
  pub handling : Handling I
  pub untreated : List Report
  pub tasks : List ℕ

-- What a turn changes of a driver, with these tasks that are to be named.
abbrev pub turning_in : {I B : Type 0} → LegacyState I B → List ℕ → Turning I
turning_in driver tasks = record { handling = driver.handling; untreated = driver.untreated; tasks = tasks }

-- Reports were treated, in order: each one's bits were added to its handle, and the tasks that it woke joined those that are to be named.
-- The holders of handles stay.
pub record Treats {I : Type 0} (old : Turning I) (reports : List Report) (new : Turning I) : Type 0 where
  pub tasks : new.tasks ≡ old.tasks ++ woken_each old.handling.records reports
  pub handling : new.handling ≡
      record { io = new.handling.io; table = old.handling.table; records = reported_each old.handling.records reports }

-- A turn that didn't stop treated the reports that were untreated before it, and then those that came, which are those that the object
-- shows, where it shows them. None is untreated then, and over a world in memory each handle that is held has its bits.
pub record ReportsTurn {I : Type 0} (view : I → IoView) (tells reporting memory : Bool) (old new : Turning I) : Type 0 where
  pub came : List Report
  pub reported : IsTrue reporting → came ≡ (view old.handling.io).reports
  pub object : IsWaited tells memory (view old.handling.io) (view new.handling.io)
  pub treats : Treats old (old.untreated ++ came) new
  pub untreated : new.untreated ≡ []
  pub shows : IsTrue memory → AreKeyed old.handling.table (view old.handling.io).keys →
      AreReported new.handling.table new.handling.records (view new.handling.io).world

-- A turn stopped once it had treated the reports that were untreated before it.
pub record StopsTurn {I : Type 0} (view : I → IoView) (tells memory : Bool) (old new : Turning I) : Type 0 where
  pub object : IsWaited tells memory (view old.handling.io) (view new.handling.io)
  pub treats : Treats old old.untreated new

-- What came in a turn that ran out of memory is untreated: nothing, where the wait itself ran out of it. Else the object counted the wait,
-- and it is what the object shows, where it shows its reports.
abbrev pub LeavesCome : IoView → IoView → Bool → List Report → Type 0
LeavesCome old new reporting untreated =
    ((new.waits ≡ old.waits) × (untreated ≡ []))
    ⊎ ((new.waits ≡ one_more old.waits) × (IsTrue reporting → untreated ≡ old.reports))

-- A turn ran out of memory once it had treated the reports that were untreated before it: no fault was counted, and no report is lost.
pub record StarvesTurn {I : Type 0} (view : I → IoView) (tells reporting memory : Bool) (old new : Turning I) : Type 0 where
  pub stops : StopsTurn view tells memory old new
  pub faults : (view new.handling.io).faults ≡ (view old.handling.io).faults
  pub left : LeavesCome (view old.handling.io) (view new.handling.io) reporting new.untreated

-- What a turn does, by why it stopped. A fault comes only where the object's count of faults rose, with the number that it shows, and no
-- report came then. Where memory ran out, nothing changed, or what came is untreated. A turn has no ring, and no completions.
abbrev pub TurnsBy : {I : Type 0} → (I → IoView) → Bool → Bool → Bool → Turning I → Turning I → Option Stop → Type 0
TurnsBy view tells reporting memory old new None = ReportsTurn view tells reporting memory old new
TurnsBy view tells reporting memory old new (Some RingFault) = ⊥
TurnsBy view tells reporting memory old new (Some Busy) = ⊥
TurnsBy view tells reporting memory old new (Some (BadCompletion word)) = ⊥
TurnsBy view tells reporting memory old new (Some (Os code)) =
    StopsTurn view tells memory old new × (new.untreated ≡ [])
    × Rose (view old.handling.io).faults (view new.handling.io).faults × (IsTrue memory → ⊥) × ((view new.handling.io).last_fault ≡ code)
TurnsBy view tells reporting memory old new (Some OutOfMemory) = (new ≡ old) ⊎ StarvesTurn view tells reporting memory old new

-- Whom a turn names, and whom it leaves to the next one: all tasks that are to be named, or none where it stopped.
abbrev pub NamesFor : Option Stop → List ℕ → List ℕ → List ℕ → Type 0
NamesFor None tasks woken asked = (woken ≡ tasks) × (asked ≡ [])
NamesFor (Some stop) tasks woken asked = (woken ≡ []) × (asked ≡ tasks)

-- What a turn does. It reaps no operation and closes no handle: these are gone in their last poll, their drop, or the step in which the
-- last holder leaves. Operations and groups stay.
pub record LegacyTurns {I B : Type 0} (view : I → IoView) (tells reporting memory : Bool) (old new : LegacyState I B) (turned : Turned)
    : Type 0 where
  pub reaped : turned.reaped ≡ []
  pub closed : turned.closed ≡ []
  pub tasks : List ℕ
  pub does : TurnsBy view tells reporting memory (turning_in old old.asked) (turning_in new tasks) turned.stop
  pub names : NamesFor turned.stop tasks turned.woken new.asked
  pub slots : new.slots ≡ old.slots
  pub given : new.given ≡ old.given
  pub members : new.members ≡ old.members

-- A driver over a world in memory shows a ledger: it is one as plain data that shows it.
pub record ShowsLedger {I B : Type 0} (view : I → IoView) (buffer : B → Buffer) (memory : Bool) (driver : LegacyState I B) (L : Ledger)
    : Type 0 where
  pub driven : Legacy
  pub in_memory : IsTrue memory
  pub stands : LegacyStands view buffer driver driven
  pub shows : Shows driven L

-- What a look at the object does, which may wait with this limit: a turn that keeps the requests. Where it didn't stop, the object shows
-- the limit, and over a world in memory the driver stands for the ledger that it stood for.
pub record LooksWithin {I B : Type 0} (view : I → IoView) (buffer : B → Buffer) (tells reporting memory : Bool) (old : LegacyState I B)
    (limit : Option ℕ) (new : LegacyState I B) (turned : Turned) : Type 0 where
  pub turns : LegacyTurns view tells reporting memory old new turned
  pub keeps : KeepsRequests old new
  pub limited : IfNone turned.stop ((view new.handling.io).limit ≡ limit)
  pub stands : IfNone turned.stop ((L : Ledger) → ShowsLedger view buffer memory old L → ShowsLedger view buffer memory new L)

-- A park with this limit looked out once, in the place of its wait. It came to its wait exactly when nothing was at hand before it and both
-- drains gave nothing; and where nothing was at hand, no task was to be named, and no report was untreated.
pub record ParksIn {I B : Type 0} (view : I → IoView) (buffer : B → Buffer) (tells reporting memory : Bool) (limit : Option ℕ)
    (old new : LegacyState I B) (sleeper : Sleeping) (parked : Parked) : Type 0 where
  -- something was at hand
  pub ready : Bool
  pub idle : ready ≡ false → (old.asked ≡ []) × (old.untreated ≡ [])
  pub looks : LooksOut (LooksWithin view buffer tells reporting memory) (is_still ready parked.remote.first parked.remote.again) limit
      sleeper old new parked.turned

-- A round of the sleeper was made: the lists are what its two drains gave. It came to its wait exactly when nothing was at hand before it
-- and both drains gave nothing, and waited exactly when the sleeper slept then: with this limit, in an object that has a bell; or beside
-- one that has none, a millisecond at most, and no longer than this limit.
pub record WalksSleeper (limit : Option ℕ) (new : Sleeping) (remote : Woken) : Type 0 where
  pub first : new.first ≡ remote.first
  pub again : new.again ≡ remote.again
  -- something was at hand
  pub ready : Bool
  pub waits : Waits (is_still ready remote.first remote.again) limit new
      ⊎ Waits (is_still ready remote.first remote.again) (Some (at_most_one limit)) new

-- A park makes a round, however its turn stopped.
abbrev pub DrainsFor : Option Stop → Option ℕ → Sleeping → Sleeping → Woken → Type 0
DrainsFor stop limit old new remote = WalksSleeper limit new remote
