-- What the system reported to a poll of it, and what a wait leaves of that to the next one. Cited by `Poller` and `MioIo`.
use Rattle.std.specs.Prelude.{ℕ, ◌≡◌, ◌⊎◌, Bool, true, false, List, [], map, Option, Some, None, IsSome, Result, Ok, Err}
use Rattle.mio.specs.declared.event.event.Event.{Event}
use Rattle.ready_driver.specs.declared.non_block.NonBlockError.{NonBlockError}
use Rattle.ready_driver.specs.declared.non_block.NonBlockError.TheVariants.{Fault, OutOfMemory}
use Rattle.ready_driver.specs.declared.non_block.Report.{Report}
use Rattle.ready_driver.specs.Io.{one_more}
use Rattle.socket_io.specs.System.{event_report}

-- How often the system reported, its last events, and whether these are still to be passed on.
pub record Polled : Type 0 where
  pub polls : ℕ
  pub events : List Event
  pub unreported : Bool

-- The reports of the last events, if they are still to be passed on.
abbrev pub unreported_if : Bool → List Event → Option (List Report)
unreported_if true events = Some (map event_report events)
unreported_if false events = None

abbrev pub unreported_in : Polled → Option (List Report)
unreported_in polled = unreported_if polled.unreported polled.events

-- What a wait passes on: what an earlier one hadn't memory for, and then the system isn't asked; or else what the system reports.
abbrev pub PassesOn : ℕ → Option (List Report) → ℕ → Option (List Report) → List Report → Type 0
PassesOn polls (Some left) polls' left' reports = (reports ≡ left) × (polls' ≡ polls) × (left' ≡ None)
PassesOn polls None polls' left' reports = (polls' ≡ one_more polls) × (left' ≡ None)

-- What a wait that ended with an error leaves to the next one: what was left to it. Where nothing was and memory ran out, the system wasn't
-- asked, or it reported, and that is left.
abbrev pub LeavesNext : NonBlockError → ℕ → Option (List Report) → ℕ → Option (List Report) → Type 0
LeavesNext why polls (Some left) polls' left' = (polls' ≡ polls) × (left' ≡ Some left)
LeavesNext (Fault code) polls None polls' left' = (polls' ≡ polls) × (left' ≡ None)
LeavesNext OutOfMemory polls None polls' left' =
    ((polls' ≡ polls) × (left' ≡ None)) ⊎ ((polls' ≡ one_more polls) × IsSome left')

-- The system refused.
abbrev pub IsFault : NonBlockError → Type 0
IsFault (Fault code) = Unit {0}
IsFault OutOfMemory = ⊥

-- What a wait leaves to the next one.
abbrev pub WaitLeaves : ℕ → Option (List Report) → ℕ → Option (List Report) → List Report → Result Unit NonBlockError → Type 0
WaitLeaves polls left polls' left' reports (Ok done) = PassesOn polls left polls' left' reports
WaitLeaves polls left polls' left' reports (Err why) = LeavesNext why polls left polls' left'
