-- The events that a readiness driver answers.
use Rattle.std.specs.Prelude.{true, false, List, [], ◌∷◌}
use Rattle.machine.specs.declared.ledger.Event.{Event}
use Rattle.machine.specs.declared.ledger.Event.TheVariants.{Give, Feed, FeedMessage, End, Look, Close, Submit, Poll, Drop, Cancel}
use Rattle.machine.specs.declared.ledger.Event.TheVariants.{NewCanceller, NewHandle, CancelAll, Turn, Exec}
use Rattle.event_text.specs.TextEvent.{AreExternal, IsExternal}
use Rattle.ready_driver.specs.Readiness.{AreDriven, IsDriven}

-- A readiness driver answers each event from outside the engine: none of them is linked.
pub is_driven : (event : Event) → IsExternal event → IsDriven event
is_driven (Give kind) external = tt
is_driven (Feed h bytes) external = tt
is_driven (FeedMessage h addr bytes) external = tt
is_driven (End h) external = tt
is_driven (Look h) external = tt
is_driven (Close h) external = tt
is_driven (Submit request under true) external = absurd external
is_driven (Submit request under false) external = tt
is_driven (Poll n task) external = tt
is_driven (Drop n) external = tt
is_driven (Cancel n) external = tt
is_driven NewCanceller external = tt
is_driven (NewHandle c) external = tt
is_driven (CancelAll c) external = tt
is_driven Turn external = absurd external
is_driven (Exec place told) external = absurd external

-- So it answers each of several.
pub are_driven : (events : List Event) → AreExternal events → AreDriven events
are_driven [] external = tt
are_driven (event ∷ events) external = (is_driven event external.0, are_driven events external.1)
