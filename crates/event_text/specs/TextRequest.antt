-- The texts of requests and of what they hold, and which of these are the program's.
use Rattle.std.specs.Prelude.{ℕ, ◌^◌, ◌<◌, List, [], ◌∷◌, All, Bool, true, false, length, codes, decimal, Option, Some, None}
use Rattle.rent_buf.specs.Buffer.{Buffer, BufferBounds}
use Rattle.rent_buf.specs.Parts.{Parts, IsParts}
use Rattle.rent_buf.specs.declared.kind.Kind.{Kind}
use Rattle.rent_buf.specs.declared.kind.Kind.TheVariants.{Vector, Grown, Fixed}
use Rattle.machine.specs.declared.request.Request.{Request}
use Rattle.machine.specs.declared.request.Request.TheVariants.{Recv, ReadVec, Send, WriteVec, RecvMsg, SendMsg, Read, Write}
use Rattle.machine.specs.declared.request.Request.TheVariants.{SpliceTo, SpliceFrom, Accept, Open, Connect, Fsync, PollAdd, MkDir, Rename}
use Rattle.machine.specs.declared.request.Request.TheVariants.{Unlink}
use Rattle.event_text.specs.TextWords.{AreBytes, bytes_word}

-- The word of a buffer's kind.
abbrev pub buffer_kind_word : Kind → List ℕ
buffer_kind_word Vector = codes "v"
buffer_kind_word Grown = codes "g"
buffer_kind_word Fixed = codes "b"

-- The words of a buffer.
abbrev pub buffer_words : Buffer → List (List ℕ)
buffer_words b = buffer_kind_word b.kind ∷ decimal b.total ∷ decimal b.begin ∷ decimal b.end ∷ bytes_word b.bytes ∷ []

-- The room and the bytes of each part.
abbrev pub part_words : Parts → List (List ℕ)
part_words [] = []
part_words (part ∷ parts) = decimal part.total ∷ bytes_word part.bytes ∷ part_words parts

-- The words of parts: their number, then the room and the bytes of each.
abbrev pub parts_words : Parts → List (List ℕ)
parts_words parts = codes "p" ∷ decimal (length parts) ∷ part_words parts

-- The word of an address: `-` where there is none.
abbrev pub address_word : Option ℕ → List ℕ
address_word None = codes "-"
address_word (Some address) = decimal address

-- The word of what is synced: the data only, or all.
abbrev pub synced_word : Bool → List ℕ
synced_word true = codes "data"
synced_word false = codes "all"

-- The word of what is awaited of a handle: that it can be read, or that it can be written.
abbrev pub awaited_word : Bool → List ℕ
awaited_word true = codes "read"
awaited_word false = codes "write"

-- The word of what is unlinked: a directory, or a file.
abbrev pub unlinked_word : Bool → List ℕ
unlinked_word true = codes "dir"
unlinked_word false = codes "file"

-- The words of a request.
abbrev pub request_words : Request Buffer Parts → List (List ℕ)
request_words (Recv h buffer) = codes "recv" ∷ decimal h ∷ buffer_words buffer
request_words (ReadVec h parts) = codes "readv" ∷ decimal h ∷ parts_words parts
request_words (Send h buffer) = codes "send" ∷ decimal h ∷ buffer_words buffer
request_words (WriteVec h parts) = codes "writev" ∷ decimal h ∷ parts_words parts
request_words (RecvMsg h buffer) = codes "recvmsg" ∷ decimal h ∷ buffer_words buffer
request_words (SendMsg h address buffer) = codes "sendmsg" ∷ decimal h ∷ address_word address ∷ buffer_words buffer
request_words (Read h pos buffer) = codes "read" ∷ decimal h ∷ decimal pos ∷ buffer_words buffer
request_words (Write h pos buffer) = codes "write" ∷ decimal h ∷ decimal pos ∷ buffer_words buffer
request_words (SpliceTo h pipe len) = codes "spliceto" ∷ decimal h ∷ decimal pipe ∷ decimal len ∷ []
request_words (SpliceFrom pipe h len) = codes "splicefrom" ∷ decimal pipe ∷ decimal h ∷ decimal len ∷ []
request_words (Accept h) = codes "accept" ∷ decimal h ∷ []
request_words (Open path flags mode) = codes "open" ∷ bytes_word path ∷ decimal flags ∷ decimal mode ∷ []
request_words (Connect h address) = codes "connect" ∷ decimal h ∷ decimal address ∷ []
request_words (Fsync h data_only) = codes "fsync" ∷ decimal h ∷ synced_word data_only ∷ []
request_words (PollAdd h read) = codes "polladd" ∷ decimal h ∷ awaited_word read ∷ []
request_words (MkDir path mode) = codes "mkdir" ∷ bytes_word path ∷ decimal mode ∷ []
request_words (Rename from to) = codes "rename" ∷ bytes_word from ∷ bytes_word to ∷ []
request_words (Unlink path remove_dir) = codes "unlink" ∷ bytes_word path ∷ unlinked_word remove_dir ∷ []

-- A buffer of the program: its bounds hold and its numbers fit their type.
pub record IsBuffer (b : Buffer) : Type 0 where
  pub bounds : BufferBounds b
  pub fits : b.total < 2 ^ 64
  pub bytes : AreBytes b.bytes

-- Parts of the program: their bounds hold, their number fits its type, and their bytes are bytes.
pub record AreTypedParts (parts : Parts) : Type 0 where
  pub bounds : IsParts parts
  pub count : length parts < 2 ^ 64
  pub bytes : All (λ part. AreBytes part.bytes) parts

-- An address of the program, where there is one.
abbrev pub IsAddress : Option ℕ → Type 0
IsAddress None = Unit {0}
IsAddress (Some address) = address < 2 ^ 64

-- A request of the program.
abbrev pub IsRequest : Request Buffer Parts → Type 0
IsRequest (Recv h buffer) = (h < 2 ^ 64) × IsBuffer buffer
IsRequest (ReadVec h parts) = (h < 2 ^ 64) × AreTypedParts parts
IsRequest (Send h buffer) = (h < 2 ^ 64) × IsBuffer buffer
IsRequest (WriteVec h parts) = (h < 2 ^ 64) × AreTypedParts parts
IsRequest (RecvMsg h buffer) = (h < 2 ^ 64) × IsBuffer buffer
IsRequest (SendMsg h address buffer) = (h < 2 ^ 64) × IsAddress address × IsBuffer buffer
IsRequest (Read h pos buffer) = (h < 2 ^ 64) × (pos < 2 ^ 64) × IsBuffer buffer
IsRequest (Write h pos buffer) = (h < 2 ^ 64) × (pos < 2 ^ 64) × IsBuffer buffer
IsRequest (SpliceTo h pipe len) = (h < 2 ^ 64) × (pipe < 2 ^ 64) × (len < 2 ^ 32)
IsRequest (SpliceFrom pipe h len) = (pipe < 2 ^ 64) × (h < 2 ^ 64) × (len < 2 ^ 32)
IsRequest (Accept h) = h < 2 ^ 64
IsRequest (Open path flags mode) = AreBytes path × (flags < 2 ^ 32) × (mode < 2 ^ 32)
IsRequest (Connect h address) = (h < 2 ^ 64) × (address < 2 ^ 64)
IsRequest (Fsync h data_only) = h < 2 ^ 64
IsRequest (PollAdd h read) = h < 2 ^ 64
IsRequest (MkDir path mode) = AreBytes path × (mode < 2 ^ 32)
IsRequest (Rename from to) = AreBytes from × AreBytes to
IsRequest (Unlink path remove_dir) = AreBytes path
