-- A read up to a delimiter: what each poll of it does, and what many have done. The clauses `answer` and `run` cite it.
use Rattle.std.specs.Prelude.{ℕ, ◌≡◌, ◌≢◌, ◌+◌, ◌<◌, ◌⊎◌, Bool, IsTrue, List, [], ◌∷◌, ◌++◌, All, length, Result}
use Rattle.rent_buf.specs.declared.fault.IoFault.{IoFault}
use Rattle.rent_buf.specs.declared.fault.IoFault.TheVariants.{OutOfMemory}
use Rattle.rent_io.specs.declared.poll.Step.{Step}
use Rattle.rent_io.specs.Polls.{Fails}
use Rattle.rent_io.specs.Reader.{AtEnd, Reader}
use Rattle.rent_io.specs.ReadState.{Gave, ReadPoll, ReadEnd, ReadRunEnd}

-- Such a read is its delimiter, its bytes, and how many of them it added.
pub record Until : Type 0 where
  pub delim : ℕ
  pub bytes : List ℕ
  pub added : ℕ

-- None of the bytes is the delimiter.
abbrev pub Lacks : ℕ → List ℕ → Type 0
Lacks delim bytes = All (λ byte. byte ≢ delim) bytes

-- Bytes of which the last is the delimiter, and no other.
pub record IsLine (delim : ℕ) (line : List ℕ) : Type 0 where
  pub before : List ℕ
  pub others : Lacks delim before
  pub ends : line ≡ before ++ delim ∷ []

-- The bytes up to and with the first delimiter, or all that were left, without one.
abbrev pub IsWholeLine : Bool → ℕ → List ℕ → List ℕ → Type 0
IsWholeLine tells delim got rest = IsLine delim got ⊎ (Lacks delim got × (IsTrue tells → rest ≡ []))

-- The same read, after it added these bytes too.
abbrev pub added_to : Until → List ℕ → Until
added_to u got = record u { bytes = u.bytes ++ got; added = u.added + length got }

-- With these bytes it goes on: some, none of them the delimiter.
abbrev pub ReadsOn : Until → Until → List ℕ → Type 0
ReadsOn u next got = (0 < length got) × Lacks u.delim got × (next ≡ added_to u got)

-- With these bytes, of which this is so, it is done.
abbrev pub AddsLine : (List ℕ → Type 0) → Until → List ℕ → ℕ → List ℕ → Type 0
AddsLine line u back n got = line got × (back ≡ u.bytes ++ got) × (n ≡ u.added + length got)

-- With these bytes it stops at a fault: they stay, and none of them is the delimiter.
abbrev pub StopsAdding : Reader → Reader → Until → List ℕ → IoFault → List ℕ → Type 0
StopsAdding before now u back fault got =
    Lacks u.delim got × (back ≡ u.bytes ++ got) × (Fails before.counts now.counts fault ⊎ (fault ≡ OutOfMemory))

-- How a poll ends: it added the bytes up to the delimiter, or none, since the stream ended; or at a fault.
abbrev pub UntilEnd : Bool → Reader → Reader → Until → Result ℕ IoFault × List ℕ → Type 0
UntilEnd tells before now u (end, back) =
    ReadEnd tells before now (AddsLine (λ got. IsLine u.delim got ⊎ ((got ≡ []) × AtEnd tells before now)) u back)
    (StopsAdding before now u back) end

-- A poll of it.
abbrev pub ReadsUntil : Bool → ℕ → Reader → Reader → Until → Step Until (Result ℕ IoFault × List ℕ) → Type 0
ReadsUntil tells task before now u step = ReadPoll tells task before now u (UntilEnd tells before now u) (ReadsOn u) step

-- Polls that aren't the end: the bytes that left the stream were added, and none of them is the delimiter.
abbrev pub HasAdded : Bool → Reader → Reader → Until → Until → Type 0
HasAdded tells before now u next = Gave tells before now (λ got. Lacks u.delim got × (next ≡ added_to u got))

-- How its polls end: the bytes up to and with the first delimiter were added, or all, where there is none; or at a fault.
abbrev pub UntilRunEnd : Bool → Reader → Reader → Until → Result ℕ IoFault × List ℕ → Type 0
UntilRunEnd tells before now u (end, back) =
    ReadRunEnd tells before now (AddsLine (λ got. IsWholeLine tells u.delim got now.left) u back) (StopsAdding before now u back) end
