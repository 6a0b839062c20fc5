-- The events that a seed generates. Cited by `generated` and by the top call.
use Rattle.std.specs.Prelude.{ℕ, ◌+◌, ◌*◌, ◌/◌, ◌%◌, zero, suc, false, List, [], ◌∷◌, ◌++◌, None, replicate, nat_lt, ◌==◌}
use Rattle.std.specs.Prelude.{if◌then◌else◌}
use Rattle.rent_buf.specs.Buffer.{Buffer}
use Rattle.rent_buf.specs.Parts.{Parts}
use Rattle.rent_buf.specs.declared.kind.Kind.TheVariants.{Vector}
use Rattle.machine.specs.declared.ledger.Event.{Event}
use Rattle.machine.specs.declared.ledger.Event.TheVariants.{Give, Feed, Submit, Poll, Drop, Cancel, Turn, Exec}
use Rattle.machine.specs.declared.request.TheConstants.{CANCELED}
use Rattle.machine.specs.declared.request.Request.{Request}
use Rattle.machine.specs.declared.request.Request.TheVariants.{Recv}
use Rattle.machine.specs.declared.request.Told.{Told}
use Rattle.machine.specs.declared.request.Told.TheVariants.{Count, Fail}
use Rattle.machine.specs.declared.world.HandleKind.TheVariants.{Stream}
use Rattle.session_core.specs.declared.generated.TheConstants.{DIVISOR, FACTOR, READ, STATES, SUMMAND}

-- The state after one more draw.
abbrev pub next_state : ℕ → ℕ
next_state x = (x * FACTOR + SUMMAND) % STATES

-- What a state draws.
abbrev pub drawn : ℕ → ℕ
drawn x = x / DIVISOR

-- A read of at most `READ` bytes into an empty vector.
abbrev pub small_read : Request Buffer Parts
small_read = Recv 0 (record { kind = Vector; bytes = []; total = READ; begin = 0; end = READ })

-- What is asked of operation i, by a choice from 0 to 3.
abbrev pub asked : ℕ → ℕ → Event
asked choice i = if choice == 0 then Drop i else if choice == 1 then Cancel i else Poll i i

-- What is told of the operation, by the same choice and a count of bytes.
abbrev pub told : ℕ → ℕ → Told
told choice count = if nat_lt choice 2 then Fail CANCELED else Count count

-- The seven events of round i.
abbrev pub round_events : ℕ → ℕ → ℕ → List Event
round_events i choice count =
    Feed 0 (replicate count (i % 256)) ∷ Submit small_read None false ∷ asked choice i ∷ Turn ∷ Exec 0 (told choice count) ∷ Turn
    ∷ Poll i i ∷ []

-- The events of so many rounds from round i on, from a state on: a round draws its choice, then its count.
abbrev pub rounds_from : ℕ → ℕ → ℕ → List Event
rounds_from x i zero = []
rounds_from x i (suc rounds) =
    round_events i (drawn (next_state x) % 4) (drawn (next_state (next_state x)) % 8 + 1)
    ++ rounds_from (next_state (next_state x)) (i + 1) rounds

-- The events that a seed generates, of so many rounds: a handle, then the rounds.
unfoldable pub generated_events : ℕ → ℕ → List Event
generated_events seed rounds = Give Stream ∷ rounds_from seed 0 rounds
