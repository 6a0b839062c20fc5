-- Open sockets by their handles' numbers. Cited by `Table` and `MioIo`.
use Rattle.std.specs.Prelude.{ℕ, ◌≡◌, ◌<◌, Bool, true, false, List, map, Option, Some, Result, Err, refl}
use Rattle.std.specs.Ordering.{nat_cmp}
use Rattle.std.specs.FinMap as finite
use Rattle.std.specs.Coded.{Coded, code_by, coded×, coded_ℕ}
use Rattle.machine.specs.declared.world.TheConstants.{MOST_HANDLES}
use Rattle.machine.specs.declared.world.call.TheConstants.{INVALID}
use Rattle.machine.specs.declared.world.HandleKind.{HandleKind}
use Rattle.machine.specs.declared.world.HandleKind.TheVariants.{Listener, Stream}
use Rattle.socket_io.specs.declared.mio_io.socket.Socket.{Socket}
use Rattle.socket_io.specs.declared.mio_io.socket.Socket.TheVariants.{Listener as Listening, Stream as Streaming}
use Rattle.socket_io.specs.declared.mio_io.socket.Refusal.{Refusal}
use Rattle.socket_io.specs.declared.mio_io.socket.Refusal.TheVariants.{Error}

-- The kind of each handle that is open.
abbrev pub Kinds : Type 0
Kinds = finite.FinMap nat_cmp HandleKind

-- How many handles were made, which are open, and for how many more sockets there is memory.
pub record OpenSockets : Type 0 where
  pub made : ℕ
  pub kinds : Kinds
  pub room : ℕ

-- They are stored as the tuple of their fields.
abbrev pub table_code : Coded HandleKind → Coded OpenSockets
table_code kind = code_by
    (Kinds × (ℕ × ℕ))
    (coded× (finite.code coded_ℕ kind) (coded× coded_ℕ coded_ℕ))
    (λ t. (t.kinds, (t.made, t.room)))
    (λ p. record { made = p.1.0; kinds = p.0; room = p.1.1 })
    (λ _. refl)

-- A socket listens, or is a stream.
abbrev pub kind_of : Socket → HandleKind
kind_of (Listening listener) = Listener
kind_of (Streaming stream) = Stream

-- The kinds of sockets, each with its number.
abbrev pub kinds_in : List (ℕ × Socket) → List (ℕ × HandleKind)
kinds_in entries = map (λ entry. (entry.0, kind_of entry.1)) entries

-- The sockets that these entries make.
abbrev pub table_of : List (ℕ × Socket) → ℕ → ℕ → OpenSockets
table_of entries made room = record { made = made; kinds = finite.from_entries (kinds_in entries); room = room }

-- There is memory for one more socket, and a number for it.
pub record IsRoomy (table : OpenSockets) : Type 0 where
  pub room : 0 < table.room
  pub few : table.made < MOST_HANDLES

-- The handle of a number listens, or is a stream, or is open.
abbrev pub is_listener : Option HandleKind → Bool
is_listener (Some Listener) = true
is_listener _ = false

abbrev pub is_stream : Option HandleKind → Bool
is_stream (Some Stream) = true
is_stream _ = false

-- What isn't fit for a call is refused as invalid.
abbrev pub RefusesUnfit : {A : Type 0} → Bool → Result A Refusal → Type 0
RefusesUnfit fit result = fit ≡ false → result ≡ Err (Error INVALID)
