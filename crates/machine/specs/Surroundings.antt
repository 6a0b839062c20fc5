-- The surroundings of the buffer that a request holds: no bytes that come change them. Cited by `Request::store`, and by each call
-- that keeps the requests of operations.
use Rattle.std.specs.Prelude.{ℕ, List, Option, Some, None}
use Rattle.rent_buf.specs.Parts.{Parts}
use Rattle.rent_buf.specs.declared.held.Held.{Held}
use Rattle.rent_buf.specs.declared.held.Held.TheVariants.{One, Parts as InParts, Nothing}
use Rattle.machine.specs.declared.request.Request.{Request}
use Rattle.machine.specs.Request.{held_of}

-- The surroundings of a buffer: the ranges of the buffers that it was cut from, the outermost first, and the parts beside its bytes.
pub record Surroundings : Type 0 where
  pub under : List (ℕ × ℕ)
  pub beside : Parts

-- The surroundings of a buffer, by what reads its ranges and what reads its parts.
abbrev pub around : {B : Type 0} → (B → List (ℕ × ℕ)) → (B → Parts) → B → Surroundings
around under beside buf = record { under = under buf; beside = beside buf }

-- The surroundings of what is held: parts have none, nor has nothing.
abbrev pub held_around : {B V : Type 0} → (B → Surroundings) → Held B V → Option Surroundings
held_around reader (One buf) = Some (reader buf)
held_around reader (InParts parts) = None
held_around reader Nothing = None

-- The surroundings of what a request holds.
abbrev pub request_around : {B V : Type 0} → (B → Surroundings) → Request B V → Option Surroundings
request_around reader request = held_around reader (held_of request)
