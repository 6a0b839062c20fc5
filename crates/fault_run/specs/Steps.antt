-- What answers to lines do to a session, and what they say.
use Rattle.std.specs.Prelude.{ℕ, ◌≡◌, List, [], ◌∷◌, length, map}
use Rattle.machine.specs.declared.completion.Completion.{Completion}
use Rattle.machine.specs.declared.request.Outcome.{Outcome}
use Rattle.machine.specs.declared.request.Outcome.TheVariants.{Count as Counted, Fail as Failed}
use Rattle.machine.specs.declared.request.Told.{Told}
use Rattle.machine.specs.declared.request.Told.TheVariants.{Count, Fail}
use Rattle.uring_driver.specs.Finish.{injected, with_ring_in}
use Rattle.uring_driver.specs.Uring.{ring_in, due_in}
use Rattle.fault_run.specs.declared.answer.Answer.{Answer}
use Rattle.fault_run.specs.declared.answer.Answer.TheVariants.{Completed, Ring as Shows}
use Rattle.fault_run.specs.declared.answer.Shown.{Shown}
use Rattle.fault_run.specs.declared.line.Line.{Line}
use Rattle.fault_run.specs.declared.line.Line.TheVariants.{Of, Complete, Ring}
use Rattle.fault_run.specs.declared.session.FaultSession.{FaultSession}
use Rattle.fault_run.specs.Calls.{Engine}
use Rattle.fault_run.specs.Events.{StepsEvent, driver_in}

-- The outcome that a line reports.
abbrev pub outcome_of : Told → Outcome
outcome_of (Count count) = Counted count
outcome_of (Fail error) = Failed error

-- The completion of a line. It is of no entry, and so has no serial.
abbrev pub stray : ℕ → Told → Completion
stray word told = record { word = word; serial = 0; outcome = outcome_of told }

-- A completion joined those that are ready, and nothing else changed.
pub record Completes (old : FaultSession) (word : ℕ) (told : Told) (answer : Answer) (new : FaultSession) : Type 0 where
  pub answer_is : answer ≡ Completed
  pub joined : new ≡ record old { driver = with_ring_in (driver_in old) (injected (ring_in (driver_in old)) (stray word told)) }

-- What a driver's ring shows: how many entries are queued and due, how many completions are ready, and the data words in flight.
abbrev pub shown_of : Engine → Shown
shown_of driver = record {
  queued = length (ring_in driver).ring.queue;
  due = length (due_in driver);
  ready = length (ring_in driver).ring.done;
  words = map (λ flight. flight.entry.word) (ring_in driver).ring.flying;
}

-- The ring was looked at, and nothing changed.
pub record Looks (old : FaultSession) (answer : Answer) (new : FaultSession) : Type 0 where
  pub answer_is : answer ≡ Shows (shown_of (driver_in old))
  pub same : new ≡ old

-- A line was answered so.
abbrev pub Steps : FaultSession → Line → Answer → FaultSession → Type 0
Steps old (Of event) answer new = StepsEvent old event answer new
Steps old (Complete word told) answer new = Completes old word told answer new
Steps old Ring answer new = Looks old answer new

-- Lines were answered one after another, from one session to another.
abbrev pub StepsEach : FaultSession → List Line → List Answer → FaultSession → Type 0
StepsEach old [] [] new = new ≡ old
StepsEach old [] (answer ∷ answers) new = ⊥
StepsEach old (line ∷ lines) [] new = ⊥
StepsEach old (line ∷ lines) (answer ∷ answers) new =
    (mid : FaultSession) × Steps old line answer mid × StepsEach mid lines answers new
