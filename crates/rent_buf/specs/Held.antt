-- What holds the bytes of a request: one buffer, parts, or nothing. Each clause on what a request holds cites it.
use Rattle.rent_buf.specs.Buffer.{Buffer}
use Rattle.rent_buf.specs.Parts.{Parts}
use Rattle.rent_buf.specs.declared.held.Held.{Held}
use Rattle.rent_buf.specs.declared.held.Held.TheVariants.{One, Parts as InParts, Nothing}

-- What a `HeldBuf` is seen as: a buffer as a value, parts as a value, or nothing.
abbrev pub HeldBuf : Type 0
HeldBuf = Held Buffer Parts

-- What is held, seen by other values: the buffer by f, the parts by g.
abbrev pub map_held : {B C V W : Type 0} → (B → C) → (V → W) → Held B V → Held C W
map_held f g (One buf) = One (f buf)
map_held f g (InParts parts) = InParts (g parts)
map_held f g Nothing = Nothing
