-- What a direction has behind an operation that ended, by its outcome. Cited by `flow`.
use Rattle.std.specs.Prelude.{ℕ, zero, suc, ◌≡◌, ◌≤◌, List, [], drop, length}
use Rattle.rent_buf.specs.Buf.{content_of}
use Rattle.machine.specs.declared.request.TheConstants.{MOST_ASKED}
use Rattle.machine.specs.declared.request.Outcome.{Outcome}
use Rattle.machine.specs.declared.request.Outcome.TheVariants.{Count, From, Made, Fail}
use Rattle.relay_net.specs.Flow.{IsLoad}
use Rattle.relay_net.specs.declared.flow.Came.{Came}
use Rattle.relay_net.specs.declared.flow.Came.TheVariants.{Goes, Ended, Failed}
use Rattle.relay_net.specs.declared.flow.Stage.{Stage}
use Rattle.relay_net.specs.declared.flow.Stage.TheVariants.{Idle, Receiving, Held, Sending}

-- It has nothing, and waits for nothing.
abbrev pub IsIdle : Stage → Type 0
IsIdle (Idle spare) = Unit {0}
IsIdle _ = ⊥

-- It waits for nothing, and holds just these bytes.
abbrev pub HoldsJust : Stage → List ℕ → Type 0
HoldsJust (Idle spare) bytes = bytes ≡ []
HoldsJust (Receiving op) bytes = ⊥
HoldsJust (Held buf) bytes = (content_of buf ≡ bytes) × IsLoad (length bytes)
HoldsJust (Sending op count) bytes = ⊥

-- A count of a receive is that of the bytes which came, no more than one request asks for.
abbrev pub CountsLoad : Outcome → List ℕ → Type 0
CountsLoad (Count k) bytes = (length bytes ≡ k) × (k ≤ MOST_ASKED)
CountsLoad (From k addr) bytes = (length bytes ≡ k) × (k ≤ MOST_ASKED)
CountsLoad (Made h) bytes = Unit {0}
CountsLoad (Fail error) bytes = Unit {0}

-- A receive of so many bytes: none are the end.
abbrev pub CountsAs : ℕ → List ℕ → Stage → Came → Type 0
CountsAs zero bytes stage came = HoldsJust stage [] × (came ≡ Ended)
CountsAs (suc k) bytes stage came = HoldsJust stage bytes × (came ≡ Goes)

-- What a receive leaves whose buffer has these bytes.
abbrev pub ReceivedAs : Outcome → List ℕ → Stage → Came → Type 0
ReceivedAs (Count k) bytes stage came = CountsAs k bytes stage came
ReceivedAs (From k addr) bytes stage came = CountsAs k bytes stage came
ReceivedAs (Made h) bytes stage came = ⊥
ReceivedAs (Fail error) bytes stage came = HoldsJust stage [] × (came ≡ Failed error)

-- What a send of these bytes leaves: those that weren't sent.
abbrev pub SentAs : Outcome → List ℕ → Stage → Came → Type 0
SentAs (Count k) bytes stage came = HoldsJust stage (drop k bytes) × (came ≡ Goes)
SentAs (From k addr) bytes stage came = HoldsJust stage (drop k bytes) × (came ≡ Goes)
SentAs (Made h) bytes stage came = ⊥
SentAs (Fail error) bytes stage came = HoldsJust stage bytes × (came ≡ Failed error)
