-- A read that fills its buffer: what each poll of it does, and what many have done. The clauses `answer` and `run` cite it.
use Rattle.std.specs.Prelude.{ℕ, ◌≡◌, ◌+◌, ◌-◌, ◌<◌, ◌≤◌, ◌⊎◌, Bool, List, [], ◌∷◌, length, Result}
use Rattle.rent_buf.specs.Buffer.{Buffer, room, put}
use Rattle.rent_buf.specs.Parts.{Parts}
use Rattle.rent_buf.specs.declared.fault.IoFault.{IoFault}
use Rattle.rent_io.specs.declared.poll.Step.{Step}
use Rattle.rent_io.specs.Polls.{Fails}
use Rattle.rent_io.specs.Reader.{Reader}
use Rattle.rent_io.specs.ReadState.{EndsEarly, Gave, ReadPoll, ReadEnd, ReadRunEnd}

-- Such a read is its buffer, the ranges under that and the parts beside it, and how many bytes of the range it has filled.
pub record Filling : Type 0 where
  pub buffer : Buffer
  pub under : List (ℕ × ℕ)
  pub beside : Parts
  pub filled : ℕ

-- A read that starts.
abbrev pub filling : Buffer → List (ℕ × ℕ) → Parts → Filling
filling buffer under beside = record { buffer = buffer; under = under; beside = beside; filled = 0 }

-- How many bytes are to come.
abbrev pub lacks : Filling → ℕ
lacks f = room f.buffer - f.filled

-- The buffer with bytes behind those that are filled, or as it was where there are none.
abbrev pub with_more : Filling → List ℕ → Buffer
with_more f [] = f.buffer
with_more f (byte ∷ bytes) = put f.buffer (f.buffer.begin + f.filled) (byte ∷ bytes)

-- The same read, after it read these bytes too.
abbrev pub filled_with : Filling → List ℕ → Filling
filled_with f got = record f { buffer = with_more f got; filled = f.filled + length got }

-- With these bytes it goes on: some, and more are to come.
abbrev pub FillsOn : Filling → Filling → List ℕ → Type 0
FillsOn f next got = (0 < length got) × (length got < lacks f) × (next ≡ filled_with f got)

-- These bytes are behind those that it had filled.
abbrev pub Fills : Filling → Filling → List ℕ → Type 0
Fills f next got = (length got ≤ lacks f) × (next ≡ filled_with f got)

-- With these bytes it is full.
abbrev pub IsFilled : Filling → Buffer → ℕ → List ℕ → Type 0
IsFilled f back n got = (length got ≡ lacks f) × (n ≡ room f.buffer) × (back ≡ with_more f got)

-- With these bytes it stops at a fault of the stream; or a read gave no byte though more are to come, and stored nothing.
abbrev pub StopsFilling : Bool → Reader → Reader → Filling → Buffer → IoFault → List ℕ → Type 0
StopsFilling tells before now f back fault got =
    (back ≡ with_more f got) × Fails before.counts now.counts fault
    ⊎ EndsEarly tells before now fault × (length got < lacks f) × (back ≡ put f.buffer (f.buffer.begin + f.filled) got)

-- A poll of it. The ranges under the buffer and the parts beside it stay.
abbrev pub ReadsExact : {T : Type 0} → Bool → ℕ → Reader → Reader → (T → Buffer) → (T → List (ℕ × ℕ)) → (T → Parts) → Filling
    → Step Filling (Result ℕ IoFault × T) → Type 0
ReadsExact tells task before now buffer under beside f step = ReadPoll tells task before now f
    (λ end. ReadEnd tells before now (IsFilled f (buffer end.1)) (StopsFilling tells before now f (buffer end.1)) end.0
    × (under end.1 ≡ f.under) × (beside end.1 ≡ f.beside)) (FillsOn f) step

-- Polls that aren't the end: the bytes that left the stream stand behind those before them, each once and in order.
abbrev pub HasFilled : Bool → Reader → Reader → Filling → Filling → Type 0
HasFilled tells before now f next = Gave tells before now (Fills f next)

-- How its polls end.
abbrev pub EndsExact : {T : Type 0} → Bool → Reader → Reader → (T → Buffer) → (T → List (ℕ × ℕ)) → (T → Parts) → Filling
    → Result ℕ IoFault × T → Type 0
EndsExact tells before now buffer under beside f (end, back) =
    ReadRunEnd tells before now (IsFilled f (buffer back)) (StopsFilling tells before now f (buffer back)) end
    × (under back ≡ f.under) × (beside back ≡ f.beside)
