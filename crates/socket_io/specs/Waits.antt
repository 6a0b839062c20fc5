-- A poll of the system as contracts see it. Cited by `Poller`.
use Rattle.std.specs.Prelude.{ℕ, false, [], Option, Some, None}
use Rattle.mio.specs.Events.{items}
use Rattle.socket_io.specs.Polled.{Polled}
use Rattle.socket_io.specs.declared.mio_io.poller.Waits.{Waits}

-- How often the system reported, and the events of its last report; none where no poll was made.
abbrev pub polled_of : ℕ → Option Waits → Polled
polled_of polls (Some waits) = record { polls = polls; events = items waits.events; unreported = waits.unreported }
polled_of polls None = record { polls = polls; events = []; unreported = false }
