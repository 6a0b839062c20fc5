-- What is read and written at a position, and what the polls of a read and a write there do.
use Rattle.std.specs.Prelude.{ℕ, ◌≡◌, ◌≤◌, ◌+◌, ◌-◌, Bool, IsTrue, List, [], ◌∷◌, ◌++◌, length, take, drop, replicate, Ok, Err}
use Rattle.rent_buf.specs.Buffer.{Buffer}
use Rattle.rent_buf.specs.Parts.{Parts}
use Rattle.rent_io.specs.declared.poll.PollBuf.{PollBuf}
use Rattle.rent_io.specs.declared.poll.PollBuf.TheVariants.{Ready, Pending, Again}
use Rattle.rent_io.specs.Counts.{Counts}
use Rattle.rent_io.specs.Reader.{Taken}

-- A file is its bytes, and its counts.
pub record FileAt : Type 0 where
  pub bytes : List ℕ
  pub counts : Counts

-- A poll of a read from a position on: n bytes are read, or the buffer comes back as it was.
abbrev pub ReadsAt : {T : Type 0} → Bool → List ℕ → ℕ → (T → Buffer) → (T → List (ℕ × ℕ)) → (T → Parts) → T → PollBuf T → Type 0
ReadsAt tells bytes pos buffer under beside buf (Ready (Ok n) back) = Taken tells (drop pos bytes) (drop n (drop pos bytes)) (buffer buf)
    (buffer back) n × (under back ≡ under buf) × (beside back ≡ beside buf)
ReadsAt tells bytes pos buffer under beside buf (Ready (Err fault) back) = back ≡ buf
ReadsAt tells bytes pos buffer under beside buf (Pending back) = back ≡ buf
ReadsAt tells bytes pos buffer under beside buf (Again back) = back ≡ buf

-- Bytes with others written over them from a position on, and 0 where bytes are missing before it. No bytes change nothing. It says of
-- a file what `overwritten` of ring_core says of one in the machine.
abbrev pub written_at : List ℕ → ℕ → List ℕ → List ℕ
written_at bytes pos [] = bytes
written_at bytes pos (byte ∷ s) =
    take pos bytes ++ replicate (pos - length bytes) 0 ++ (byte ∷ s) ++ drop (pos + length (byte ∷ s)) bytes

-- A poll of a write from a position on: the first n bytes are written, or nothing is. The buffer comes back.
abbrev pub WritesAt : {T : Type 0} → Bool → List ℕ → List ℕ → ℕ → List ℕ → T → PollBuf T → Type 0
WritesAt tells before now pos bytes buf (Ready (Ok n) back) = (back ≡ buf) × (n ≤ length bytes)
    × (IsTrue tells → now ≡ written_at before pos (take n bytes))
WritesAt tells before now pos bytes buf (Ready (Err fault) back) = (back ≡ buf) × (IsTrue tells → now ≡ before)
WritesAt tells before now pos bytes buf (Pending back) = (back ≡ buf) × (IsTrue tells → now ≡ before)
WritesAt tells before now pos bytes buf (Again back) = (back ≡ buf) × (IsTrue tells → now ≡ before)
