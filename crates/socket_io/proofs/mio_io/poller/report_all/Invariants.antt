use Rattle.std.proofs.Common.{◌≡◌, ◌++◌, map}
use Rattle.mio.specs.Events.{items}
use Rattle.socket_io.specs.System.{event_report}
use Rattle.socket_io.proofs.mio_io.poller.report_all.Given as goal

-- The reports so far, then those of the events that are left, are those of all.
abbrev pub invariant-loop-event : goal.invariant-loop-event
invariant-loop-event l = l.reports ++ map event_report l.event-iterator.rest.now ≡ map event_report (items l.events)
