use Rattle.std.proofs.Common.{◌≡◌, ◌++◌, drop}
use Rattle.session_core.specs.Trace.{event_lines}
use Rattle.session_core.proofs.trace.text_of.Given as goal

-- The texts so far, then those of the events that are left, are those of all.
abbrev pub invariant-loop-event : goal.invariant-loop-event
invariant-loop-event l = l.text.items ++ event_lines (drop l.event-index l.events) ≡ event_lines l.events
