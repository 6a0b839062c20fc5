-- A request: what it names, which way its bytes go, what it holds, and what its call asks for. A further request is a further case of
-- `named`, `makes`, `way_of`, `held_of`, `map_request` and `call_of`, and of no other definition of a request.
use Rattle.std.specs.Prelude.{ℕ, ◌≡◌, nat_lt, Bool, true, false, if◌then◌else◌, List, [], ◌∷◌, length, min, take}
use Rattle.std.specs.List.{concat}
use Rattle.std.specs.Borrow.{Bor}
use Rattle.rent_buf.specs.Buffer.{Buffer, room, shown, stored}
use Rattle.rent_buf.specs.Parts.{Parts, rooms_of, bytes_of, parts_stored}
use Rattle.rent_buf.specs.Held.{HeldBuf, map_held}
use Rattle.rent_buf.specs.declared.held.Held.{Held}
use Rattle.rent_buf.specs.declared.held.Held.TheVariants.{One, Parts as InParts, Nothing as NoBuffer}
use Rattle.machine.specs.declared.request.TheConstants.{MOST_ASKED}
use Rattle.machine.specs.declared.request.Request.{Request}
use Rattle.machine.specs.declared.request.Request.TheVariants.{Recv, ReadVec, Send, WriteVec, RecvMsg, SendMsg, Read, Write}
use Rattle.machine.specs.declared.request.Request.TheVariants.{SpliceTo, SpliceFrom, Accept, Open, Connect, Fsync, PollAdd, MkDir, Rename}
use Rattle.machine.specs.declared.request.Request.TheVariants.{Unlink}
use Rattle.machine.specs.declared.request.Names.{Names}
use Rattle.machine.specs.declared.request.Names.TheVariants.{Nothing, One as OneName, Two}
use Rattle.machine.specs.declared.request.Way.{Way}
use Rattle.machine.specs.declared.request.Way.TheVariants.{Reads, Sends, Neither}
use Rattle.machine.specs.declared.request.Call.{Call}
use Rattle.machine.specs.declared.request.Call.TheVariants.{In, Out, MessageIn, MessageOut, ReadAt, WriteAt, ToPipe, FromPipe, Path}
use Rattle.machine.specs.declared.request.Told.{Told}
use Rattle.machine.specs.declared.request.Told.TheVariants.{Count, Fail}

-- Two handles, ascending; one where they are the same.
abbrev pub both : ℕ → ℕ → List ℕ
both a b = if nat_lt a b then a ∷ b ∷ [] else if nat_lt b a then b ∷ a ∷ [] else a ∷ []

-- The handles in a request, ascending, each once.
abbrev pub named : {B V : Type 0} → Request B V → List ℕ
named (Recv fd buf) = fd ∷ []
named (ReadVec fd parts) = fd ∷ []
named (Send fd buf) = fd ∷ []
named (WriteVec fd parts) = fd ∷ []
named (RecvMsg fd buf) = fd ∷ []
named (SendMsg fd addr buf) = fd ∷ []
named (Read fd pos buf) = fd ∷ []
named (Write fd pos buf) = fd ∷ []
named (SpliceTo fd pipe len) = both fd pipe
named (SpliceFrom pipe fd len) = both pipe fd
named (Accept fd) = fd ∷ []
named (Open path flags mode) = []
named (Connect fd addr) = fd ∷ []
named (Fsync fd data_only) = fd ∷ []
named (PollAdd fd read) = fd ∷ []
named (MkDir path mode) = []
named (Rename from to) = []
named (Unlink path remove_dir) = []

-- The handles of names, ascending.
abbrev pub listed : Names → List ℕ
listed Nothing = []
listed (OneName h) = h ∷ []
listed (Two lower upper) = lower ∷ upper ∷ []

-- A request may make a handle.
abbrev pub makes : {B V : Type 0} → Request B V → Bool
makes (Accept fd) = true
makes (Open path flags mode) = true
makes _ = false

-- Which way a request's bytes go: into what it holds, out of it, or neither.
abbrev pub way_of : {B V : Type 0} → Request B V → Way
way_of (Recv fd buf) = Reads
way_of (ReadVec fd parts) = Reads
way_of (Send fd buf) = Sends
way_of (WriteVec fd parts) = Sends
way_of (RecvMsg fd buf) = Reads
way_of (SendMsg fd addr buf) = Sends
way_of (Read fd pos buf) = Reads
way_of (Write fd pos buf) = Sends
way_of _ = Neither

-- What a request holds.
abbrev pub held_of : {B V : Type 0} → Request B V → Held B V
held_of (Recv fd buf) = One buf
held_of (ReadVec fd parts) = InParts parts
held_of (Send fd buf) = One buf
held_of (WriteVec fd parts) = InParts parts
held_of (RecvMsg fd buf) = One buf
held_of (SendMsg fd addr buf) = One buf
held_of (Read fd pos buf) = One buf
held_of (Write fd pos buf) = One buf
held_of _ = NoBuffer

-- A request with what it holds seen by other values: its buffer by f, its parts by g.
abbrev pub map_request : {B C V W : Type 0} → (B → C) → (V → W) → Request B V → Request C W
map_request f g (Recv fd buf) = Recv fd (f buf)
map_request f g (ReadVec fd parts) = ReadVec fd (g parts)
map_request f g (Send fd buf) = Send fd (f buf)
map_request f g (WriteVec fd parts) = WriteVec fd (g parts)
map_request f g (RecvMsg fd buf) = RecvMsg fd (f buf)
map_request f g (SendMsg fd addr buf) = SendMsg fd addr (f buf)
map_request f g (Read fd pos buf) = Read fd pos (f buf)
map_request f g (Write fd pos buf) = Write fd pos (f buf)
map_request f g (SpliceTo fd pipe len) = SpliceTo fd pipe len
map_request f g (SpliceFrom pipe fd len) = SpliceFrom pipe fd len
map_request f g (Accept fd) = Accept fd
map_request f g (Open path flags mode) = Open path flags mode
map_request f g (Connect fd addr) = Connect fd addr
map_request f g (Fsync fd data_only) = Fsync fd data_only
map_request f g (PollAdd fd read) = PollAdd fd read
map_request f g (MkDir path mode) = MkDir path mode
map_request f g (Rename from to) = Rename from to
map_request f g (Unlink path remove_dir) = Unlink path remove_dir

-- How many bytes fit what is held: the room of a buffer's range, or of parts.
abbrev pub held_room : HeldBuf → ℕ
held_room (One buf) = room buf
held_room (InParts parts) = rooms_of parts
held_room NoBuffer = 0

-- The bytes that what is held shows: those of a buffer's range, or of all parts, in order.
abbrev pub held_shown : HeldBuf → List ℕ
held_shown (One buf) = shown buf
held_shown (InParts parts) = concat (bytes_of parts)
held_shown NoBuffer = []

-- What is held with bytes stored in it: from the start of a buffer's range, or in parts from the first one.
abbrev pub held_stored : HeldBuf → List ℕ → HeldBuf
held_stored (One buf) bytes = One (stored buf bytes)
held_stored (InParts parts) bytes = InParts (parts_stored parts bytes)
held_stored NoBuffer bytes = NoBuffer

-- How many bytes a request asks for into what it holds: its room, cut to the most that one request asks for.
abbrev pub held_want : HeldBuf → ℕ
held_want held = min (held_room held) MOST_ASKED

-- The bytes that a request sends of what it holds: those that it shows, cut to the most that one request asks for.
abbrev pub held_sent : HeldBuf → List ℕ
held_sent held = take MOST_ASKED (held_shown held)

-- What a request asks for. The length of a splice is cut as a want is.
abbrev pub call_of : Request Buffer Parts → Call
call_of (Recv fd buf) = In fd (held_want (One buf))
call_of (ReadVec fd parts) = In fd (held_want (InParts parts))
call_of (Send fd buf) = Out fd (length (held_sent (One buf)))
call_of (WriteVec fd parts) = Out fd (length (held_sent (InParts parts)))
call_of (RecvMsg fd buf) = MessageIn fd (held_want (One buf))
call_of (SendMsg fd addr buf) = MessageOut fd addr (length (held_sent (One buf)))
call_of (Read fd pos buf) = ReadAt fd pos (held_want (One buf))
call_of (Write fd pos buf) = WriteAt fd pos (length (held_sent (One buf)))
call_of (SpliceTo fd pipe len) = ToPipe fd pipe (min len MOST_ASKED)
call_of (SpliceFrom pipe fd len) = FromPipe pipe fd (min len MOST_ASKED)
call_of (Accept fd) = Call.Accept fd
call_of (Open path flags mode) = Call.Open
call_of (Connect fd addr) = Call.Connect fd
call_of (Fsync fd data_only) = Call.Fsync fd
call_of (PollAdd fd read) = Call.PollAdd fd read
call_of (MkDir path mode) = Path
call_of (Rename from to) = Path
call_of (Unlink path remove_dir) = Path

-- A request without what it holds: its variant, its handles, and all else that it says. With what it holds, this is the request.
abbrev pub shape_of : {B V : Type 0} → Request B V → Request Unit Unit
shape_of request = map_request (λ buf. tt) (λ parts. tt) request

-- A request as plain data, its buffer read by a function.
abbrev pub plain_request : {B : Type 0} → (B → Buffer) → Request B Parts → Request Buffer Parts
plain_request buffer request = map_request buffer (λ parts. parts) request

-- How many bytes fit what is held, where they come: nothing comes to what isn't read into.
abbrev pub room_if : Way → HeldBuf → ℕ
room_if Reads held = held_room held
room_if Sends held = 0
room_if Neither held = 0

-- How many bytes fit what a request holds.
abbrev pub room_of : Request Buffer Parts → ℕ
room_of request = room_if (way_of request) (held_of request)

-- The bytes that what is held shows, where they are sent: what isn't sent shows none.
abbrev pub shown_if : Way → HeldBuf → List ℕ
shown_if Reads held = []
shown_if Sends held = held_shown held
shown_if Neither held = []

-- The bytes that a request shows: it sends the first of them.
abbrev pub shown_by : Request Buffer Parts → List ℕ
shown_by request = shown_if (way_of request) (held_of request)

-- The bytes that a request sends: those that it shows, cut to the most that one request asks for.
abbrev pub sent_of : Request Buffer Parts → List ℕ
sent_of request = take MOST_ASKED (shown_by request)

-- What is held once bytes came: they are stored where they are read, and else it stays.
abbrev pub stored_if : Way → HeldBuf → List ℕ → HeldBuf
stored_if Reads held bytes = held_stored held bytes
stored_if Sends held bytes = held
stored_if Neither held bytes = held

-- What a request holds after a count, with the bytes that came.
abbrev pub held_after : Request Buffer Parts → List ℕ → HeldBuf
held_after request bytes = stored_if (way_of request) (held_of request) bytes

-- What a request holds after what was told: after an error it is what was submitted.
abbrev pub held : Request Buffer Parts → Told → List ℕ → HeldBuf
held request (Count k) bytes = held_after request bytes
held request (Fail e) bytes = held_of request

-- A request is now `now`: its shape stays, and it holds this in place of what it held.
pub record IsHolding (request : Request Buffer Parts) (held : HeldBuf) (now : Request Buffer Parts) : Type 0 where
  pub shape : shape_of now ≡ shape_of request
  pub holds : held_of now ≡ held

-- What is held behind a reference to a buffer, or to parts.
abbrev pub held_copied : {B V : Type 0} → Held (Bor B) (Bor V) → Held B V
held_copied held = map_held (λ buf. buf.now) (λ parts. parts.now) held

-- What is held was made of something else: one buffer of one, parts of parts, or nothing of nothing.
abbrev pub HeldMade : {B C V W : Type 0} → (B → C → Type 0) → (V → W → Type 0) → Held B V → Held C W → Type 0
HeldMade one many (One old) (One new) = one old new
HeldMade one many (InParts old) (InParts new) = many old new
HeldMade one many NoBuffer NoBuffer = Unit {0}
HeldMade one many _ _ = ⊥

-- A request was made of another one: its shape stays, and what it holds was made of what that one held.
pub record IsMade {B C V W : Type 0} (one : B → C → Type 0) (many : V → W → Type 0) (old : Request B V) (new : Request C W) : Type 0 where
  pub shape : shape_of new ≡ shape_of old
  pub holds : HeldMade one many (held_of old) (held_of new)

-- One of two functions was called with what is held, the first with a buffer, the second with parts, and failed with this error. None is
-- called where nothing is held.
abbrev pub HeldFailed : {B V E : Type 0} → (B → E → Type 0) → (V → E → Type 0) → Held B V → E → Type 0
HeldFailed one many (One buf) error = one buf error
HeldFailed one many (InParts parts) error = many parts error
HeldFailed one many NoBuffer error = ⊥
