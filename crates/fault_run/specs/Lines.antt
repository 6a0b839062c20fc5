-- The lines that a run over a faulty ring takes, and what each stands for.
use Rattle.std.specs.Prelude.{ℕ, ◌≡◌, ◌^◌, ◌<◌, true, List, ◌∷◌, codes, decimal}
use Rattle.machine.specs.declared.ledger.Event.{Event}
use Rattle.machine.specs.declared.ledger.Event.TheVariants.{Feed, FeedMessage, End, Look, Submit, Exec}
use Rattle.machine.specs.declared.request.Told.{Told}
use Rattle.event_text.specs.TextEvent.{StandsFor, IsTold, told_words}
use Rattle.event_text.specs.TextWords.{spaced}
use Rattle.fault_run.specs.declared.line.Line.{Line}
use Rattle.fault_run.specs.declared.line.Line.TheVariants.{Of, Complete, Ring}

-- An event that a line may stand for: a call of the engine's user, or a turn. Nothing arrives at handles, nothing is executed, and nothing
-- is linked.
abbrev pub IsTaken : Event → Type 0
IsTaken (Feed h bytes) = ⊥
IsTaken (FeedMessage h address bytes) = ⊥
IsTaken (End h) = ⊥
IsTaken (Look h) = ⊥
IsTaken (Submit request under true) = ⊥
IsTaken (Exec place told) = ⊥
IsTaken event = Unit {0}

-- A line whose event, if it is one, may be stood for.
abbrev pub IsTakenLine : Line → Type 0
IsTakenLine (Of event) = IsTaken event
IsTakenLine (Complete word told) = Unit {0}
IsTakenLine Ring = Unit {0}

-- The text of a completion: its data word, and how it ended.
abbrev pub completion_text : ℕ → Told → List ℕ
completion_text word told = spaced (codes "complete" ∷ decimal word ∷ told_words told)

-- A line stands for this.
abbrev pub Says : List ℕ → Line → Type 0
Says text (Of event) = StandsFor text event × IsTaken event
Says text (Complete word told) = (word < 2 ^ 64) × IsTold told × (text ≡ completion_text word told)
Says text Ring = text ≡ codes "ring"

-- A line is no completion.
abbrev pub IsNoCompletion : List ℕ → Type 0
IsNoCompletion text = (word : ℕ) (told : Told) → Says text (Complete word told) → ⊥

-- A line stands for nothing.
abbrev pub SaysNothing : List ℕ → Type 0
SaysNothing text = (line : Line) → Says text line → ⊥
