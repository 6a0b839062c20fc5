use Rattle.std.proofs.Common.{◌≡◌}
use Rattle.ring_core.specs.Ring.{marked_by}
use Rattle.ring_core.proofs.Marked.{mapped_front}
use Rattle.ring_core.proofs.flights.mark_each.Given as goal

-- The first of them are marked.
abbrev pub invariant-loop-flight : goal.invariant-loop-flight
invariant-loop-flight l = l.flights ≡ mapped_front (marked_by l.word) l.flight-index l.initial.flights
