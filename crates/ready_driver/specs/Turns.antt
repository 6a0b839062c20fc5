-- What a list of reports does to the records of handles, and which tasks it wakes; and what the records show then. Cited by the turns of
-- `Registry`, and by its polls.
use Rattle.std.specs.Prelude.{ℕ, ◌≡◌, ◌+◌, ◌==◌, if◌then◌else◌, true, List, [], ◌∷◌, ◌++◌, Option, Some, None, length, bit_or}
use Rattle.handle_core.specs.Table.{Table}
use Rattle.machine.specs.declared.world.HandleState.{HandleState}
use Rattle.machine.specs.Attempt.{is_readable_at}
use Rattle.ready_driver.specs.declared.non_block.Report.{Report}
use Rattle.ready_driver.specs.Io.{IoView, IsShown}
use Rattle.ready_driver.specs.Reports.{ShowsBits}
use Rattle.ready_driver.specs.ScheduledIo.{Scheduled, taken, left, tasks_of}
use Rattle.ready_driver.specs.Records.{Kept, io_at, io_named, key_at, changed_named, with_io}
use Rattle.ready_driver.specs.Registry.{Handling, is_known, AreOwned}

-- A handle once it is reported: it has these bits too, and what waited in a direction that they meet waits no more.
abbrev pub with_report : ℕ → Scheduled → Scheduled
with_report ready io = record { ready = bit_or io.ready ready; waiting = left ready io.waiting }

-- The records after a report of the handle of its key. Where no handle has the key nothing changes.
abbrev pub reported : Kept → Report → Kept
reported kept report = changed_named kept report.key (with_io (with_report report.ready))

-- The records after reports, in order.
abbrev pub reported_each : Kept → List Report → Kept
reported_each kept [] = kept
reported_each kept (report ∷ reports) = reported_each (reported kept report) reports

-- The tasks that a report wakes, in the order in which they began to wait.
abbrev pub woken_by : Kept → Report → List ℕ
woken_by kept report = tasks_of (taken report.ready (io_named kept report.key).waiting)

-- The tasks that reports wake, report by report.
abbrev pub woken_each : Kept → List Report → List ℕ
woken_each kept [] = []
woken_each kept (report ∷ reports) = woken_by kept report ++ woken_each (reported kept report) reports

-- How many operations wait for the handles that are reported, report by report: no fewer than the tasks that are woken.
abbrev pub waiting_on : Kept → List Report → ℕ
waiting_on kept [] = 0
waiting_on kept (report ∷ reports) = length (io_named kept report.key).waiting + waiting_on kept reports

-- Each handle that somebody holds has the bits of what a world has for it.
abbrev pub AreReported : Table → Kept → List HandleState → Type 0
AreReported table records world = (h : ℕ) → is_known table h ≡ true → ShowsBits (is_readable_at world h) (io_at records h).ready

-- The bits of a handle that has this key, once these reports are treated.
abbrev pub bits_after : ℕ → ℕ → List Report → ℕ
bits_after key ready [] = ready
bits_after key ready (report ∷ reports) = bits_after key (if report.key == key then bit_or ready report.ready else ready) reports

-- The bits of a handle, once these reports are treated, by its key, if it has one.
abbrev pub bits_by : Option ℕ → ℕ → List Report → ℕ
bits_by None ready reports = ready
bits_by (Some key) ready reports = bits_after key ready reports

-- Each handle that somebody holds is registered with the key of its record, if it is; and it is due, or has the bits of what its object has
-- for it, once these reports are treated.
pub record AreShown {I : Type 0} (view : I → IoView) (all : Handling I) (reports : List Report) : Type 0 where
  pub owned : AreOwned all.table all.records (view all.io).keys
  pub shown : (h : ℕ) → is_known all.table h ≡ true →
      IsShown (view all.io) h (bits_by (key_at all.records h) (io_at all.records h).ready reports)

-- What showed each handle shows it still, whatever is to be treated and whatever its key is.
abbrev pub KeepsBits : IoView → Kept → IoView → Kept → Type 0
KeepsBits old before new after = (h : ℕ) (key : Option ℕ) (reports : List Report) →
    IsShown old h (bits_by key (io_at before h).ready reports) → IsShown new h (bits_by key (io_at after h).ready reports)
