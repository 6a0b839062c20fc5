-- Where the source and the sink of a copy are while it is under way.
use Rattle.std.specs.Prelude.{ℕ, ◌≡◌, ◌≤◌, ◌-◌, Bool, IsTrue, List, ◌++◌, length, drop}
use Rattle.rent_io.specs.Call.{Reading, Writing, Took}

-- Where a source is: it is the one that was lent, and what it gave is gone from what was left.
pub record SourceAt (tells : Bool) (before : List ℕ) (faults place : ℕ) (left : List ℕ) (later name : ℕ) : Type 0 where
  pub same : name ≡ place
  pub order : faults ≤ later
  pub gave : IsTrue tells → Took before left (length before - length left)

-- Where a sink is: it is the one that was lent, and what it took is behind what it had.
pub record SinkAt (tells : Bool) (before : List ℕ) (faults place : ℕ) (taken : List ℕ) (later name : ℕ) : Type 0 where
  pub same : name ≡ place
  pub order : faults ≤ later
  pub grew : IsTrue tells → taken ≡ before ++ drop (length before) taken

-- Bytes that were delivered, bytes that are held and bytes that are left, joined, are these, where the source and the sink tell theirs.
pub record Joins (tells_source tells_sink : Bool) (delivered held left all : List ℕ) : Type 0 where
  pub joined : IsTrue tells_source → IsTrue tells_sink → delivered ++ held ++ left ≡ all

-- What has become of a source that had this left when the copy began, and had failed so often.
abbrev pub read_since : List ℕ → ℕ → List ℕ → ℕ → Reading
read_since left faults rest later = record { left = left; rest = rest; faults = faults; later = later }

-- What has become of a sink that had taken this when the copy began, and had failed so often.
abbrev pub written_since : List ℕ → ℕ → List ℕ → ℕ → Bool → Writing
written_since taken faults now later flushed = record { taken = taken; now = now; faults = faults; later = later; flushed = flushed }
