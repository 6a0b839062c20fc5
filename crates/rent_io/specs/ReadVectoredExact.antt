-- A read that fills all parts of a vector: what each poll of it does, and what many have done. The clauses `answer` and `run` cite it.
use Rattle.std.specs.Prelude.{ℕ, zero, suc, ◌≡◌, ◌-◌, ◌<◌, ◌≤◌, ◌⊎◌, Bool, List, [], ◌∷◌, ◌++◌, All, map, length, take}
use Rattle.std.specs.Prelude.{Option, None, Some, Result}
use Rattle.std.specs.List.{concat}
use Rattle.rent_buf.specs.Parts.{Parts, bytes_of, rooms_of, part_at, part_put}
use Rattle.rent_buf.specs.declared.fault.IoFault.{IoFault}
use Rattle.rent_io.specs.declared.poll.Step.{Step}
use Rattle.rent_io.specs.Polls.{Fails}
use Rattle.rent_io.specs.Reader.{Reader}
use Rattle.rent_io.specs.ReadState.{EndsEarly, Gave, ReadPoll, ReadEnd, ReadRunEnd}

-- Such a read is its parts, the number of one before which all are full, how many bytes of that one are filled, and the rooms' sum.
pub record Scattering : Type 0 where
  pub parts : Parts
  pub part : ℕ
  pub filled : ℕ
  pub total : ℕ

-- A read that starts.
abbrev pub scattering : Parts → Scattering
scattering parts = record { parts = parts; part = 0; filled = 0; total = rooms_of parts }

-- The bytes that were read: those of the parts before one, and the first n of that one.
abbrev pub read_of : Parts → ℕ → ℕ → List ℕ
read_of [] k n = []
read_of (part ∷ parts) zero n = take n part.bytes
read_of (part ∷ parts) (suc k) n = part.bytes ++ read_of parts k n

-- The bytes that such a read has read.
abbrev pub has_read : Scattering → List ℕ
has_read s = read_of s.parts s.part s.filled

-- How many bytes are to come.
abbrev pub wanted : Scattering → ℕ
wanted s = rooms_of s.parts - length (has_read s)

-- All parts before one are full.
abbrev pub AreFullBefore : Parts → ℕ → Type 0
AreFullBefore [] k = Unit {0}
AreFullBefore (part ∷ parts) zero = Unit {0}
AreFullBefore (part ∷ parts) (suc k) = (length part.bytes ≡ part.total) × AreFullBefore parts k

-- All parts are full.
abbrev pub AreFull : Parts → Type 0
AreFull parts = All (λ part. length part.bytes ≡ part.total) parts

-- A place with room, before which the same bytes were read as before another.
pub record IsRoom (parts : Parts) (part filled k n : ℕ) : Type 0 where
  pub there : k < length parts
  pub within : n ≤ length (part_at parts k).bytes
  pub room : n < (part_at parts k).total
  pub full : AreFullBefore parts k
  pub same : read_of parts k n ≡ read_of parts part filled

-- The next such place, if any.
abbrev pub NextRoom : Parts → ℕ → ℕ → Option (ℕ × ℕ) → Type 0
NextRoom parts part filled None = (concat (bytes_of parts) ≡ read_of parts part filled) × AreFull parts
NextRoom parts part filled (Some place) = IsRoom parts part filled place.0 place.1

-- The room of each part.
abbrev pub rooms : Parts → List ℕ
rooms parts = map (λ part. part.total) parts

-- These bytes stand in the parts behind those that it had read.
pub record Scatters (s next : Scattering) (got : List ℕ) : Type 0 where
  pub is_read : has_read next ≡ has_read s ++ got
  pub same_rooms : rooms next.parts ≡ rooms s.parts
  pub same_total : next.total ≡ s.total

-- With these bytes it goes on: some, stored in one part, and more are to come.
pub record ScatterGoesOn (s next : Scattering) (got : List ℕ) : Type 0 where
  pub some : 0 < length got
  pub into : ℕ
  pub at : ℕ
  pub is_put : next.parts ≡ part_put s.parts into at got
  pub adds : Scatters s next got
  pub more : length (has_read next) < rooms_of next.parts

-- With these bytes all parts are full, in order.
pub record IsScattered (s : Scattering) (back : Parts) (n : ℕ) (got : List ℕ) : Type 0 where
  pub is_read : concat (bytes_of back) ≡ has_read s ++ got
  pub full : AreFull back
  pub same_rooms : rooms back ≡ rooms s.parts
  pub total : n ≡ s.total

-- A read gave no byte though a part has room: it stored nothing, behind the bytes that it had read.
pub record ScatterEndsEarly (tells : Bool) (before now : Reader) (s : Scattering) (back : Parts) (fault : IoFault) : Type 0 where
  pub into : ℕ
  pub at : ℕ
  pub early : EndsEarly tells before now fault
  pub more : at < (part_at s.parts into).total
  pub lacks : length (has_read s) < rooms_of s.parts
  pub same_read : read_of s.parts into at ≡ has_read s
  pub nothing : back ≡ part_put s.parts into at []

-- How a poll stops: at a fault of the stream, or too early.
abbrev pub StopsPoll : Bool → Reader → Reader → Scattering → Parts → IoFault → Type 0
StopsPoll tells before now s back fault =
    (back ≡ s.parts) × Fails before.counts now.counts fault ⊎ ScatterEndsEarly tells before now s back fault

-- A poll of it.
abbrev pub ReadsScattered : {T : Type 0} → Bool → ℕ → Reader → Reader → (T → Parts) → Scattering → Step Scattering (Result ℕ IoFault × T)
    → Type 0
ReadsScattered tells task before now held s step = ReadPoll tells task before now s
    (λ end. ReadEnd tells before now (IsScattered s (held end.1)) (λ fault none. StopsPoll tells before now s (held end.1) fault) end.0)
    (ScatterGoesOn s) step

-- Polls that aren't the end: the bytes that left the stream stand in the parts, each once and in order.
abbrev pub HasScattered : Bool → Reader → Reader → Scattering → Scattering → Type 0
HasScattered tells before now s next = Gave tells before now (Scatters s next)

-- It stopped at a fault: these bytes stand in the parts, up to a place, and the stream failed, or ended though that place has room.
pub record StopsScattering (tells : Bool) (before now : Reader) (s : Scattering) (back : Parts) (fault : IoFault) (got : List ℕ) : Type 0
  where
    pub into : ℕ
    pub at : ℕ
    pub is_read : read_of back into at ≡ has_read s ++ got
    pub same_rooms : rooms back ≡ rooms s.parts
    pub cause : Fails before.counts now.counts fault ⊎ EndsEarly tells before now fault × (at < (part_at back into).total)

-- How its polls end.
abbrev pub ScatterRunEnd : {T : Type 0} → Bool → Reader → Reader → (T → Parts) → Scattering → Result ℕ IoFault × T → Type 0
ScatterRunEnd tells before now held s (end, back) =
    ReadRunEnd tells before now (IsScattered s (held back)) (StopsScattering tells before now s (held back)) end
