-- A read of a number: what each poll of it does, and what many have done. The clauses `answer` and `run` cite it.
use Rattle.std.specs.Prelude.{ℕ, ◌≡◌, ◌+◌, ◌<◌, ◌⊎◌, Bool, List, [], ◌++◌, length, Result}
use Rattle.rent_buf.specs.Buffer.{whole_of}
use Rattle.rent_buf.specs.declared.fault.IoFault.{IoFault}
use Rattle.rent_buf.specs.declared.kind.Kind.TheVariants.{Vector}
use Rattle.rent_io.specs.declared.poll.Step.{Step}
use Rattle.rent_io.specs.Polls.{Fails}
use Rattle.rent_io.specs.Reader.{Reader}
use Rattle.rent_io.specs.ReadExact.{Filling}
use Rattle.rent_io.specs.ReadState.{EndsEarly, Gave, ReadPoll, ReadEnd, ReadRunEnd}

-- Such a read is the order of the bytes, those that it has, and how many there will be.
pub record Numbering : Type 0 where
  pub little : Bool
  pub bytes : List ℕ
  pub size : ℕ

-- A read that starts.
abbrev pub number_of : Bool → ℕ → Numbering
number_of little size = record { little = little; bytes = []; size = size }

-- The same read with these bytes too.
abbrev pub with_digits : Numbering → List ℕ → Numbering
with_digits r got = record r { bytes = r.bytes ++ got }

-- With these bytes it goes on: some, and others are to come.
abbrev pub HasMore : Numbering → Numbering → List ℕ → Type 0
HasMore r next got = (0 < length got) × (length r.bytes + length got < r.size) × (next ≡ with_digits r got)

-- With these bytes it has all, and the number is theirs.
abbrev pub IsNumber : {N : Type 0} → (Bool → List ℕ → N) → Numbering → N → List ℕ → Type 0
IsNumber value r n got = (length r.bytes + length got ≡ r.size) × (n ≡ value r.little (r.bytes ++ got))

-- With these bytes it stops at a fault of the stream, or since that ended before the number did.
abbrev pub StopsNumber : Bool → Reader → Reader → Numbering → IoFault → List ℕ → Type 0
StopsNumber tells before now r fault got =
    Fails before.counts now.counts fault ⊎ EndsEarly tells before now fault × (length r.bytes + length got < r.size)

-- A poll of it.
abbrev pub ReadsNumber : {N : Type 0} → Bool → ℕ → Reader → Reader → (Bool → List ℕ → N) → Numbering → Step Numbering (Result N IoFault)
    → Type 0
ReadsNumber tells task before now value r step =
    ReadPoll tells task before now r (ReadEnd tells before now (IsNumber value r) (StopsNumber tells before now r)) (HasMore r) step

-- Polls that aren't the end: it has the bytes that left the stream behind those before them.
abbrev pub HasDigits : Bool → Reader → Reader → Numbering → Numbering → Type 0
HasDigits tells before now r next = Gave tells before now (λ got. next ≡ with_digits r got)

-- How its polls end.
abbrev pub NumberRunEnd : {N : Type 0} → Bool → Reader → Reader → (Bool → List ℕ → N) → Numbering → Result N IoFault → Type 0
NumberRunEnd tells before now value r end = ReadRunEnd tells before now (IsNumber value r) (StopsNumber tells before now r) end

-- The read of the bytes below it: of a vector of that size, of which all bytes are filled.
pub record IsReading (size : ℕ) (f : Filling) : Type 0 where
  pub is_whole : f.buffer ≡ whole_of Vector f.buffer.bytes size
  pub all_filled : f.filled ≡ length f.buffer.bytes
