-- What the words of a request are read as: a request is read exactly when it is written.
use Rattle.std.proofs.Common.{◌≡◌, ℕ, ◌^◌, ◌<◌, List, [], ◌∷◌, refl, ap, arith}
use Rattle.std.specs.Prelude.{true, Some, None, option_map, codes, decimal}
use Rattle.rent_buf.specs.Buffer.{Buffer}
use Rattle.rent_buf.specs.Parts.{Parts}
use Rattle.rent_buf.specs.declared.kind.Kind.{Kind}
use Rattle.rent_buf.specs.declared.kind.Kind.TheVariants.{Vector, Grown, Fixed}
use Rattle.machine.specs.declared.request.Request.{Request}
use Rattle.machine.specs.declared.request.Request.TheVariants.{Recv, ReadVec, Send, WriteVec, RecvMsg, SendMsg, Read, Write}
use Rattle.machine.specs.declared.request.Request.TheVariants.{SpliceTo, SpliceFrom, Accept, Open, Connect, Fsync, PollAdd, MkDir, Rename}
use Rattle.machine.specs.declared.request.Request.TheVariants.{Unlink}
use Rattle.event_text.specs.TextReaders.{with_first, last_of}
use Rattle.event_text.specs.TextReads.{number_of, number_below, bytes_of, address_of, flag_of, bytes_end, buffer_of, parts_of}
use Rattle.event_text.specs.TextRequest.{AreTypedParts, IsAddress, IsBuffer, IsRequest, address_word, awaited_word, buffer_kind_word}
use Rattle.event_text.specs.TextRequest.{buffer_words, parts_words, request_words, synced_word, unlinked_word}
use Rattle.event_text.specs.TextRequestReads.{Rows, stream_rows, place_rows, path_rows, handle_rows, request_of, request_by}
use Rattle.event_text.specs.TextRequestReads.{place_request_by, path_request_by, handle_request_by}
use Rattle.event_text.specs.TextWords.{AreBytes, bytes_word, is_solid}
use Rattle.event_text.proofs.TextFields.{buffer_of-words, buffer_read}
use Rattle.event_text.proofs.TextForms.{IsForm, AreRows, number_word, below_word, bytes_are_word, address_is_word, flag_word}
use Rattle.event_text.proofs.TextForms.{bytes_form, last_form, with_first_form, row_form, by_name-Some}
use Rattle.event_text.proofs.TextParts.{parts_of-words, parts_read, solid_parts}
use Rattle.event_text.proofs.TextSpaces.{AreSolid, solid_decimal, solid_bytes}

-- No word of a buffer's kind has a space in it.
solid_kind : (kind : Kind) → is_solid (buffer_kind_word kind) ≡ true
solid_kind Vector = refl
solid_kind Grown = refl
solid_kind Fixed = refl

-- No word of a buffer has a space in it.
solid_buffer : (b : Buffer) → IsBuffer b → AreSolid (buffer_words b)
solid_buffer b h =
    let bounds = h.bounds in (
      solid_kind b.kind,
      (
        solid_decimal b.total h.fits,
        (
          solid_decimal b.begin (omega (arith, h.fits, bounds.ordered, bounds.inside)),
          (solid_decimal b.end (omega (arith, h.fits, bounds.inside)), (solid_bytes b.bytes, tt)),
        ),
      ),
    )

-- The shapes of what is behind a request's name: a number, then a buffer,
buffer_behind : IsForm (with_first number_of buffer_of) (λ x. decimal x.0 ∷ buffer_words x.1) (λ x. (x.0 < 2 ^ 64) × IsBuffer x.1)
buffer_behind = with_first_form number_word (record { solid = solid_buffer; reads = buffer_of-words; spelt = buffer_read })

-- .. or parts,
parts_behind : IsForm (with_first number_of parts_of) (λ x. decimal x.0 ∷ parts_words x.1) (λ x. (x.0 < 2 ^ 64) × AreTypedParts x.1)
parts_behind = with_first_form number_word (record { solid = solid_parts; reads = parts_of-words; spelt = parts_read })

-- .. or an address and a buffer,
address_behind : IsForm (with_first number_of (with_first address_of buffer_of))
    (λ x. decimal x.0 ∷ address_word x.1.0 ∷ buffer_words x.1.1) (λ x. (x.0 < 2 ^ 64) × (IsAddress x.1.0 × IsBuffer x.1.1))
address_behind = with_first_form number_word
    (with_first_form address_is_word (record { solid = solid_buffer; reads = buffer_of-words; spelt = buffer_read }))

-- .. or a position and a buffer,
position_behind : IsForm (with_first number_of (with_first number_of buffer_of))
    (λ x. decimal x.0 ∷ decimal x.1.0 ∷ buffer_words x.1.1) (λ x. (x.0 < 2 ^ 64) × ((x.1.0 < 2 ^ 64) × IsBuffer x.1.1))
position_behind = with_first_form number_word buffer_behind

-- .. or a number and a length,
length_behind : IsForm (with_first number_of (with_first number_of (last_of (number_below (2 ^ 32)))))
    (λ x. decimal x.0 ∷ decimal x.1.0 ∷ decimal x.1.1 ∷ []) (λ x. (x.0 < 2 ^ 64) × ((x.1.0 < 2 ^ 64) × (x.1.1 < 2 ^ 32)))
length_behind = with_first_form number_word (with_first_form number_word (last_form (below_word (2 ^ 32) (omega arith))))

-- .. or nothing more,
pub alone_behind : IsForm (last_of number_of) (λ n. decimal n ∷ []) (λ n. n < 2 ^ 64)
alone_behind = last_form number_word

-- .. or a number,
pub number_behind : IsForm (with_first number_of (last_of number_of)) (λ x. decimal x.0 ∷ decimal x.1 ∷ [])
    (λ x. (x.0 < 2 ^ 64) × (x.1 < 2 ^ 64))
number_behind = with_first_form number_word (last_form number_word)

-- .. or what is synced,
synced_behind : IsForm (with_first number_of (last_of (flag_of (codes "data") (codes "all")))) (λ x. decimal x.0 ∷ synced_word x.1 ∷ [])
    (λ x. (x.0 < 2 ^ 64) × Unit {0})
synced_behind = with_first_form number_word (last_form (flag_word synced_word refl refl refl))

-- .. or what is awaited;
awaited_behind : IsForm (with_first number_of (last_of (flag_of (codes "read") (codes "write")))) (λ x. decimal x.0 ∷ awaited_word x.1 ∷ [])
    (λ x. (x.0 < 2 ^ 64) × Unit {0})
awaited_behind = with_first_form number_word (last_form (flag_word awaited_word refl refl refl))

-- .. bytes, then a mode,
mode_behind : IsForm (with_first bytes_of (last_of (number_below (2 ^ 32)))) (λ x. bytes_word x.0 ∷ decimal x.1 ∷ [])
    (λ x. AreBytes x.0 × (x.1 < 2 ^ 32))
mode_behind = with_first_form bytes_are_word (last_form (below_word (2 ^ 32) (omega arith)))

-- .. or flags and a mode,
flags_behind : IsForm (with_first bytes_of (with_first (number_below (2 ^ 32)) (last_of (number_below (2 ^ 32)))))
    (λ x. bytes_word x.0 ∷ decimal x.1.0 ∷ decimal x.1.1 ∷ []) (λ x. AreBytes x.0 × ((x.1.0 < 2 ^ 32) × (x.1.1 < 2 ^ 32)))
flags_behind = with_first_form bytes_are_word
    (with_first_form (below_word (2 ^ 32) (omega arith)) (last_form (below_word (2 ^ 32) (omega arith))))

-- .. or bytes,
bytes_behind : IsForm (with_first bytes_of bytes_end) (λ x. bytes_word x.0 ∷ bytes_word x.1 ∷ []) (λ x. AreBytes x.0 × AreBytes x.1)
bytes_behind = with_first_form bytes_are_word bytes_form

-- .. or what is unlinked.
unlinked_behind : IsForm (with_first bytes_of (last_of (flag_of (codes "dir") (codes "file"))))
    (λ x. bytes_word x.0 ∷ unlinked_word x.1 ∷ []) (λ x. AreBytes x.0 × Unit {0})
unlinked_behind = with_first_form bytes_are_word (last_form (flag_word unlinked_word refl refl refl))

-- What a request's words are read as.
pub request_of-words : (request : Request Buffer Parts) → IsRequest request → request_of (request_words request) ≡ Some request
unfolding request_by place_request_by path_request_by handle_request_by
request_of-words (Recv n b) h = ap (λ o. option_map (λ x. Recv x.0 x.1) o) (buffer_behind.reads (n, b) h)
request_of-words (ReadVec n parts) h = ap (λ o. option_map (λ x. ReadVec x.0 x.1) o) (parts_behind.reads (n, parts) h)
request_of-words (Send n b) h = ap (λ o. option_map (λ x. Send x.0 x.1) o) (buffer_behind.reads (n, b) h)
request_of-words (WriteVec n parts) h = ap (λ o. option_map (λ x. WriteVec x.0 x.1) o) (parts_behind.reads (n, parts) h)
request_of-words (RecvMsg n b) h = ap (λ o. option_map (λ x. RecvMsg x.0 x.1) o) (buffer_behind.reads (n, b) h)
request_of-words (SendMsg n address b) h =
    ap (λ o. option_map (λ x. SendMsg x.0 x.1.0 x.1.1) o) (address_behind.reads (n, (address, b)) (h.0, (h.1, h.2)))
request_of-words (Read n pos b) h =
    ap (λ o. option_map (λ x. Read x.0 x.1.0 x.1.1) o) (position_behind.reads (n, (pos, b)) (h.0, (h.1, h.2)))
request_of-words (Write n pos b) h =
    ap (λ o. option_map (λ x. Write x.0 x.1.0 x.1.1) o) (position_behind.reads (n, (pos, b)) (h.0, (h.1, h.2)))
request_of-words (SpliceTo n pipe len) h =
    ap (λ o. option_map (λ x. SpliceTo x.0 x.1.0 x.1.1) o) (length_behind.reads (n, (pipe, len)) (h.0, (h.1, h.2)))
request_of-words (SpliceFrom pipe n len) h =
    ap (λ o. option_map (λ x. SpliceFrom x.0 x.1.0 x.1.1) o) (length_behind.reads (pipe, (n, len)) (h.0, (h.1, h.2)))
request_of-words (Accept n) h = ap (λ o. option_map (λ x. Accept x) o) (alone_behind.reads n h)
request_of-words (Open path flags mode) h =
    ap (λ o. option_map (λ x. Open x.0 x.1.0 x.1.1) o) (flags_behind.reads (path, (flags, mode)) (h.0, (h.1, h.2)))
request_of-words (Connect n address) h = ap (λ o. option_map (λ x. Connect x.0 x.1) o) (number_behind.reads (n, address) h)
request_of-words (Fsync n data_only) h = ap (λ o. option_map (λ x. Fsync x.0 x.1) o) (synced_behind.reads (n, data_only) (h, tt))
request_of-words (PollAdd n read) h = ap (λ o. option_map (λ x. PollAdd x.0 x.1) o) (awaited_behind.reads (n, read) (h, tt))
request_of-words (MkDir path mode) h = ap (λ o. option_map (λ x. MkDir x.0 x.1) o) (mode_behind.reads (path, mode) h)
request_of-words (Rename from to) h = ap (λ o. option_map (λ x. Rename x.0 x.1) o) (bytes_behind.reads (from, to) h)
request_of-words (Unlink path remove_dir) h =
    ap (λ o. option_map (λ x. Unlink x.0 x.1) o) (unlinked_behind.reads (path, remove_dir) (h, tt))

-- No word of a request has a space in it.
pub solid_request : (request : Request Buffer Parts) → IsRequest request → AreSolid (request_words request)
solid_request (Recv n b) h = (refl, buffer_behind.solid (n, b) h)
solid_request (ReadVec n parts) h = (refl, parts_behind.solid (n, parts) h)
solid_request (Send n b) h = (refl, buffer_behind.solid (n, b) h)
solid_request (WriteVec n parts) h = (refl, parts_behind.solid (n, parts) h)
solid_request (RecvMsg n b) h = (refl, buffer_behind.solid (n, b) h)
solid_request (SendMsg n address b) h = (refl, address_behind.solid (n, (address, b)) (h.0, (h.1, h.2)))
solid_request (Read n pos b) h = (refl, position_behind.solid (n, (pos, b)) (h.0, (h.1, h.2)))
solid_request (Write n pos b) h = (refl, position_behind.solid (n, (pos, b)) (h.0, (h.1, h.2)))
solid_request (SpliceTo n pipe len) h = (refl, length_behind.solid (n, (pipe, len)) (h.0, (h.1, h.2)))
solid_request (SpliceFrom pipe n len) h = (refl, length_behind.solid (pipe, (n, len)) (h.0, (h.1, h.2)))
solid_request (Accept n) h = (refl, alone_behind.solid n h)
solid_request (Open path flags mode) h = (refl, flags_behind.solid (path, (flags, mode)) (h.0, (h.1, h.2)))
solid_request (Connect n address) h = (refl, number_behind.solid (n, address) h)
solid_request (Fsync n data_only) h = (refl, synced_behind.solid (n, data_only) (h, tt))
solid_request (PollAdd n read) h = (refl, awaited_behind.solid (n, read) (h, tt))
solid_request (MkDir path mode) h = (refl, mode_behind.solid (path, mode) h)
solid_request (Rename from to) h = (refl, bytes_behind.solid (from, to) h)
solid_request (Unlink path remove_dir) h = (refl, unlinked_behind.solid (path, remove_dir) (h, tt))

-- Rows of requests.
abbrev AreRequests : Rows → Type 0
AreRequests rows = AreRows request_words IsRequest rows

-- Each row of streams reads its request's words,
stream_rows-are : AreRequests stream_rows
stream_rows-are = (
  row_form request_words IsRequest (codes "recv") (λ x. Recv x.0 x.1) buffer_behind (λ x h. (refl, h)),
  (
    row_form request_words IsRequest (codes "readv") (λ x. ReadVec x.0 x.1) parts_behind (λ x h. (refl, h)),
    (
      row_form request_words IsRequest (codes "send") (λ x. Send x.0 x.1) buffer_behind (λ x h. (refl, h)),
      (row_form request_words IsRequest (codes "writev") (λ x. WriteVec x.0 x.1) parts_behind (λ x h. (refl, h)), tt),
    ),
  ),
)

-- .. each of messages and positions,
place_rows-are : AreRequests place_rows
place_rows-are = (
  row_form request_words IsRequest (codes "recvmsg") (λ x. RecvMsg x.0 x.1) buffer_behind (λ x h. (refl, h)),
  (
    row_form request_words IsRequest (codes "sendmsg") (λ x. SendMsg x.0 x.1.0 x.1.1) address_behind (λ x h. (refl, (h.0, h.1.0, h.1.1))),
    (
      row_form request_words IsRequest (codes "read") (λ x. Read x.0 x.1.0 x.1.1) position_behind (λ x h. (refl, (h.0, h.1.0, h.1.1))),
      (
        row_form request_words IsRequest (codes "write") (λ x. Write x.0 x.1.0 x.1.1) position_behind (λ x h. (refl, (h.0, h.1.0, h.1.1))),
        tt,
      ),
    ),
  ),
)

-- .. each of paths,
path_rows-are : AreRequests path_rows
path_rows-are = (
  row_form request_words IsRequest (codes "open") (λ x. Open x.0 x.1.0 x.1.1) flags_behind (λ x h. (refl, (h.0, h.1.0, h.1.1))),
  (
    row_form request_words IsRequest (codes "mkdir") (λ x. MkDir x.0 x.1) mode_behind (λ x h. (refl, h)),
    (
      row_form request_words IsRequest (codes "rename") (λ x. Rename x.0 x.1) bytes_behind (λ x h. (refl, h)),
      (row_form request_words IsRequest (codes "unlink") (λ x. Unlink x.0 x.1) unlinked_behind (λ x h. (refl, h.0)), tt),
    ),
  ),
)

-- .. and each of handles alone.
handle_rows-are : AreRequests handle_rows
handle_rows-are = (
  row_form request_words IsRequest (codes "spliceto") (λ x. SpliceTo x.0 x.1.0 x.1.1) length_behind (λ x h. (refl, (h.0, h.1.0, h.1.1))),
  (
    row_form request_words IsRequest (codes "splicefrom") (λ x. SpliceFrom x.0 x.1.0 x.1.1) length_behind
        (λ x h. (refl, (h.0, h.1.0, h.1.1))),
    (
      row_form request_words IsRequest (codes "accept") (λ n. Accept n) alone_behind (λ n h. (refl, h)),
      (
        row_form request_words IsRequest (codes "connect") (λ x. Connect x.0 x.1) number_behind (λ x h. (refl, h)),
        (
          row_form request_words IsRequest (codes "fsync") (λ x. Fsync x.0 x.1) synced_behind (λ x h. (refl, h.0)),
          (row_form request_words IsRequest (codes "polladd") (λ x. PollAdd x.0 x.1) awaited_behind (λ x h. (refl, h.0)), tt),
        ),
      ),
    ),
  ),
)

-- Words that are read as a request are its words.
pub request_read : (all : List (List ℕ)) (request : Request Buffer Parts) → request_of all ≡ Some request
    → (all ≡ request_words request) × IsRequest request
unfolding request_by place_request_by path_request_by handle_request_by
request_read [] request is = absurd (cc)
request_read (name ∷ words) request is =
    by_name-Some request_words IsRequest stream_rows stream_rows-are (place_request_by name words) name words request (λ place.
    by_name-Some request_words IsRequest place_rows place_rows-are (path_request_by name words) name words request (λ path.
    by_name-Some request_words IsRequest path_rows path_rows-are (handle_request_by name words) name words request (λ handle.
    by_name-Some request_words IsRequest handle_rows handle_rows-are None name words request (λ none. absurd (cc)) handle) path) place) is
