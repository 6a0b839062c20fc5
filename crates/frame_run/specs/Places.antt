-- Where the source of a call is while it is lent, and why no more is read of it.
use Rattle.std.specs.Prelude.{ℕ, ◌≡◌, ◌≤◌, ◌<◌, ◌+◌, ◌-◌, Bool, true, false, IsTrue, List, ◌∷◌}
use Rattle.rent_io.specs.Call.{Reading, Writing, Took}
use Rattle.rent_io.specs.Counts.{Rose}
use Rattle.frame_run.specs.declared.unframing.Unframed.{Unframed}
use Rattle.frame_run.specs.declared.unframing.Unframed.TheVariants.{Done, BadFrame, TooLong, ReadFault, WriteFault, OutOfMemory}

-- What is left of a source that was looked into: the byte that was found, if there is one, and what is behind it.
abbrev pub left_of : Bool → ℕ → List ℕ → List ℕ
left_of true next left = next ∷ left
left_of false next left = left

-- Where a source is that may still give `room` of the `most` bytes that it may give: it is the one that was lent, and what it gave is gone
-- from what is left. A failure of a read is counted, and so is a byte that it may not give.
pub record SourceAt (tells : Bool) (most : ℕ) (before : List ℕ) (faults place : ℕ) (left : List ℕ) (later name room : ℕ) (over : Bool)
    (failures : ℕ) : Type 0 where
  pub same : name ≡ place
  pub within : room ≤ most
  pub order : faults ≤ later
  pub rose : over ≡ false → 0 < failures → Rose faults later
  pub calm : failures ≡ 0 → IsTrue tells → later ≡ faults
  pub given : over ≡ false → IsTrue tells → Took before left (most - room)
  pub many : over ≡ true → IsTrue tells → Took before left (most + 1)

-- Why no more is read of a source: it has too many bytes, or it failed, or neither.
abbrev pub StopsFor : Bool → ℕ → Unframed → Type 0
StopsFor over failures Done = ⊥
StopsFor over failures BadFrame = ⊥
StopsFor over failures TooLong = over ≡ true
StopsFor over failures ReadFault = (over ≡ false) × (0 < failures)
StopsFor over failures WriteFault = ⊥
StopsFor over failures OutOfMemory = (over ≡ false) × (failures ≡ 0)

-- What has become of a source that had this left when the call began, and had failed so often.
abbrev pub read_since : List ℕ → ℕ → List ℕ → ℕ → Reading
read_since left faults rest later = record { left = left; rest = rest; faults = faults; later = later }

-- What has become of a sink that had taken this when the call began, and had failed so often.
abbrev pub written_since : List ℕ → ℕ → List ℕ → ℕ → Bool → Writing
written_since taken faults now later flushed = record { taken = taken; now = now; faults = faults; later = later; flushed = flushed }
