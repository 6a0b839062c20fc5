-- What the reader of a request's words answers: a table of names, each with what is read behind it. Only contracts of private functions
-- cite these: `request_of-words` and `request_read` (proofs/TextRequests.antt) prove that words are read as a request exactly when they
-- are its words.
use Rattle.std.specs.Prelude.{ℕ, ◌^◌, List, [], ◌∷◌, codes, Option, None}
use Rattle.rent_buf.specs.Buffer.{Buffer}
use Rattle.rent_buf.specs.Parts.{Parts}
use Rattle.machine.specs.declared.request.Request.{Request}
use Rattle.machine.specs.declared.request.Request.TheVariants.{Recv, ReadVec, Send, WriteVec, RecvMsg, SendMsg, Read, Write}
use Rattle.machine.specs.declared.request.Request.TheVariants.{SpliceTo, SpliceFrom, Accept, Open, Connect, Fsync, PollAdd, MkDir, Rename}
use Rattle.machine.specs.declared.request.Request.TheVariants.{Unlink}
use Rattle.event_text.specs.TextReaders.{with_first, last_of, row, by_name}
use Rattle.event_text.specs.TextReads.{number_of, number_below, bytes_of, address_of, flag_of, bytes_end, buffer_of, parts_of}

-- Requests are read by their names.
abbrev pub Rows : Type 0
Rows = List (List ℕ × (List (List ℕ) → Option (Request Buffer Parts)))

-- Requests of a handle alone.
abbrev pub handle_rows : Rows
handle_rows =
    row (codes "spliceto") (λ found. SpliceTo found.0 found.1.0 found.1.1)
    (with_first number_of (with_first number_of (last_of (number_below (2 ^ 32)))))
    ∷ row (codes "splicefrom") (λ found. SpliceFrom found.0 found.1.0 found.1.1)
    (with_first number_of (with_first number_of (last_of (number_below (2 ^ 32)))))
    ∷ row (codes "accept") (λ h. Accept h) (last_of number_of)
    ∷ row (codes "connect") (λ found. Connect found.0 found.1) (with_first number_of (last_of number_of))
    ∷ row (codes "fsync") (λ found. Fsync found.0 found.1) (with_first number_of (last_of (flag_of (codes "data") (codes "all"))))
    ∷ row (codes "polladd") (λ found. PollAdd found.0 found.1) (with_first number_of (last_of (flag_of (codes "read") (codes "write"))))
    ∷ []

-- Requests of paths.
abbrev pub path_rows : Rows
path_rows =
    row (codes "open") (λ found. Open found.0 found.1.0 found.1.1)
    (with_first bytes_of (with_first (number_below (2 ^ 32)) (last_of (number_below (2 ^ 32)))))
    ∷ row (codes "mkdir") (λ found. MkDir found.0 found.1) (with_first bytes_of (last_of (number_below (2 ^ 32))))
    ∷ row (codes "rename") (λ found. Rename found.0 found.1) (with_first bytes_of bytes_end)
    ∷ row (codes "unlink") (λ found. Unlink found.0 found.1) (with_first bytes_of (last_of (flag_of (codes "dir") (codes "file"))))
    ∷ []

-- Requests of messages, and of bytes at a position.
abbrev pub place_rows : Rows
place_rows =
    row (codes "recvmsg") (λ found. RecvMsg found.0 found.1) (with_first number_of buffer_of)
    ∷ row (codes "sendmsg") (λ found. SendMsg found.0 found.1.0 found.1.1) (with_first number_of (with_first address_of buffer_of))
    ∷ row (codes "read") (λ found. Read found.0 found.1.0 found.1.1) (with_first number_of (with_first number_of buffer_of))
    ∷ row (codes "write") (λ found. Write found.0 found.1.0 found.1.1) (with_first number_of (with_first number_of buffer_of))
    ∷ []

-- Requests of the bytes of a stream.
abbrev pub stream_rows : Rows
stream_rows =
    row (codes "recv") (λ found. Recv found.0 found.1) (with_first number_of buffer_of)
    ∷ row (codes "readv") (λ found. ReadVec found.0 found.1) (with_first number_of parts_of)
    ∷ row (codes "send") (λ found. Send found.0 found.1) (with_first number_of buffer_of)
    ∷ row (codes "writev") (λ found. WriteVec found.0 found.1) (with_first number_of parts_of)
    ∷ []

-- The request of a name that the words behind it write, by the tables from one of them on.
unfoldable pub handle_request_by : List ℕ → List (List ℕ) → Option (Request Buffer Parts)
handle_request_by name words = by_name handle_rows None name words

-- .. from that of paths on,
unfoldable pub path_request_by : List ℕ → List (List ℕ) → Option (Request Buffer Parts)
path_request_by name words = by_name path_rows (handle_request_by name words) name words

-- .. from that of messages and positions on,
unfoldable pub place_request_by : List ℕ → List (List ℕ) → Option (Request Buffer Parts)
place_request_by name words = by_name place_rows (path_request_by name words) name words

-- .. by all of them.
unfoldable pub request_by : List ℕ → List (List ℕ) → Option (Request Buffer Parts)
request_by name words = by_name stream_rows (place_request_by name words) name words

-- The request that words write.
abbrev pub request_of : List (List ℕ) → Option (Request Buffer Parts)
request_of [] = None
request_of (name ∷ words) = request_by name words
