-- Numbers of variable length: how a number is written, and what stands at the front of bytes.
use Rattle.std.specs.Prelude.{ℕ, zero, suc, ◌<◌, ◌≤◌, ◌+◌, ◌-◌, ◌*◌, ◌/◌, ◌%◌, nat_eq, nat_lt, nat_le, if◌then◌else◌, List, [], ◌∷◌}
use Rattle.frame_io.specs.declared.number.Field.{Field}
use Rattle.frame_io.specs.declared.number.Field.TheVariants.{Whole, Cut, Wrong}

-- A number in so many bytes at most, the lowest seven bits first: each byte but the last is 128 more than its bits.
abbrev pub number_in : ℕ → ℕ → List ℕ
number_in zero n = []
number_in (suc count) n = if nat_lt n 128 then n ∷ [] else (128 + n % 128) ∷ number_in count (n / 128)

-- A number below 2 ^ 32.
unfoldable pub vnum : ℕ → List ℕ
vnum n = number_in 5 n

-- A byte from 128 on, before the bytes of a number: these stand for the rest, which isn't 0, so each number has one form.
abbrev pub behind : ℕ → Field → Field
behind byte (Whole high count) = if nat_eq high 0 then Wrong else Whole (byte - 128 + 128 * high) (count + 1)
behind byte Cut = Cut
behind byte Wrong = Wrong

-- What stands at the front of bytes: a number below a limit, and how many bytes it takes; less than a whole number; or none.
abbrev pub number_below : ℕ → List ℕ → Field
number_below limit [] = Cut
number_below limit (byte ∷ bytes) =
    if nat_lt byte 128 then if nat_lt byte limit then Whole byte 1 else Wrong
    else if nat_le limit 128 then Wrong else behind byte (number_below (limit / 128) bytes)

-- The same of a number below 2 ^ 32.
unfoldable pub number_at : List ℕ → Field
number_at bytes = number_below 4294967296 bytes

-- A number that was found takes some of the bytes, and is below the limit.
abbrev pub IsWithin : ℕ → ℕ → Field → Type 0
IsWithin limit most (Whole n count) = (n < limit) × (0 < count) × (count ≤ most)
IsWithin limit most Cut = Unit {0}
IsWithin limit most Wrong = Unit {0}
