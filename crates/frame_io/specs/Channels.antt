-- The place of an open channel in a list. The private functions on open channels cite it.
use Rattle.std.specs.Prelude.{ℕ, ◌≡◌, ◌+◌, ◌<◌, ◌≤◌, true, List, [], ◌∷◌, ◌++◌, length, remove, slice_index_or}
use Rattle.frame_io.specs.declared.message.Message.{Message}
use Rattle.frame_io.specs.Frames.{bytes_of, is_open, without}

-- A channel stands at this place.
pub record HasPlace (channel : ℕ) (channels : List Message) (place : ℕ) : Type 0 where
  pub there : place < length channels
  pub known : is_open channel channels ≡ true
  pub named : (d : Message) → (slice_index_or channels place d).channel ≡ channel
  pub bytes : (d : Message) → (slice_index_or channels place d).bytes ≡ bytes_of channel channels
  pub rest : remove channels place ≡ without channel channels

-- An open channel has these bytes more, at most so many in all, and stands last.
pub record Extends (channel : ℕ) (more : List ℕ) (most : ℕ) (old new : List Message) : Type 0 where
  pub known : is_open channel old ≡ true
  pub within : length (bytes_of channel old) + length more ≤ most
  pub now : new ≡ without channel old ++ record { channel = channel; bytes = bytes_of channel old ++ more } ∷ []
