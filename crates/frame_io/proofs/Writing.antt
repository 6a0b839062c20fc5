-- The pieces of messages are read as these messages.
use Rattle.std.proofs.Common.{◌≡◌, ◌∙◌, ℕ, zero, suc, ◌+◌, ◌-◌, ◌*◌, ◌/◌, ◌%◌, ◌<◌, ◌≤◌, List, [], ◌∷◌, ◌++◌, Bool, true, false, length}
use Rattle.std.proofs.Common.{take, drop, sym, ap, refl, arith, cond, append_assoc, length-append}
use Rattle.std.specs.Prelude.{Option, None, Some, nat_eq, nat_lt, nat_le}
use Rattle.std.proofs.Math.Seq.{drop-append_seam}
use Rattle.std.proofs.lemmas.Bool.{cond-true, cond-false, ltb-true, ltb-false, leb-true, leb-false}
use Rattle.std.proofs.lemmas.Bool.Decides.{nat_tests}
use Rattle.std.proofs.lemmas.List.{length-drop, take-append-drop}
use Rattle.frame_io.specs.declared.fault.BadFrame.{BadFrame}
use Rattle.frame_io.specs.declared.fault.Ending.TheVariants.{End, Fault}
use Rattle.frame_io.specs.declared.header.Head.{Head}
use Rattle.frame_io.specs.declared.fault.BadFrame.TheVariants.{Large}
use Rattle.frame_io.specs.declared.header.Header.TheVariants.{Whole, Bad}
use Rattle.frame_io.specs.declared.limits.Limits.{Limits}
use Rattle.frame_io.specs.declared.message.Message.{Message}
use Rattle.frame_io.specs.declared.number.Field.TheVariants.{Whole as FieldWhole, Wrong as FieldWrong}
use Rattle.frame_io.specs.Number.{behind, number_in, vnum, number_below, number_at}
use Rattle.frame_io.specs.Piece.{flag_of, piece, pieces_in, pieces_of, flag_then, size_then, channel_then, header_at}
use Rattle.frame_io.specs.Frames.{Outcome, stops, gives, bytes_of, without, is_one_more, refusal, taken, reads_at}
use Rattle.frame_io.specs.Frames.{read_from}
use Rattle.frame_io.specs.Written.{pieces_of_all, AreWithin, WrittenIsRead}
use Rattle.frame_io.proofs.Reading.{reads_is, inside_more, inside_whole, read_end}
use Rattle.frame_io.proofs.Headers.{no_header}
use Rattle.frame_io.proofs.Steps.{fits, has_room, was_open}

-- The numbers of so many bytes and one more are below this.
abbrev bound : ℕ → ℕ
bound zero = 16
bound (suc k) = 128 * bound k

-- A byte below 128 is a number.
low : (limit n : ℕ) (rest : List ℕ) → n < 128 → n < limit → number_below limit (n ∷ rest) ≡ FieldWhole n 1
low limit n rest small less =
    cond-true (nat_lt n 128) (cond (nat_lt n limit) (FieldWhole n 1) FieldWrong)
    (cond (nat_le limit 128) FieldWrong (behind n (number_below (limit / 128) rest))) (grind (arith, nat_tests))
    ∙ cond-true (nat_lt n limit) (FieldWhole n 1) FieldWrong (grind (arith, nat_tests))

-- A byte from 128 on stands before the rest of a number.
high : (limit b n count : ℕ) (rest : List ℕ) → 128 ≤ b → 128 < limit → 0 < n → number_below (limit / 128) rest ≡ FieldWhole n count
    → number_below limit (b ∷ rest) ≡ FieldWhole (b - 128 + 128 * n) (count + 1)
high limit b n count rest big more some is =
    cond-false (nat_lt b 128) (cond (nat_lt b limit) (FieldWhole b 1) FieldWrong)
    (cond (nat_le limit 128) FieldWrong (behind b (number_below (limit / 128) rest))) (grind (arith, nat_tests))
    ∙ cond-false (nat_le limit 128) FieldWrong (behind b (number_below (limit / 128) rest)) (grind (arith, nat_tests))
    ∙ ap (behind b) is
    ∙ cond-false (nat_eq n 0) FieldWrong (FieldWhole (b - 128 + 128 * n) (count + 1)) (grind (arith, nat_tests))

-- A number below 128 is written as one byte.
number_low : (k n : ℕ) → n < 128 → number_in (suc k) n ≡ n ∷ []
number_low k n small = cond-true (nat_lt n 128) (n ∷ []) ((128 + n % 128) ∷ number_in k (n / 128)) (grind (arith, nat_tests))

-- A number from 128 on is written as a byte of its lowest seven bits, and the number of the rest.
number_high : (k n : ℕ) → 128 ≤ n → number_in (suc k) n ≡ (128 + n % 128) ∷ number_in k (n / 128)
number_high k n big = cond-false (nat_lt n 128) (n ∷ []) ((128 + n % 128) ∷ number_in k (n / 128)) (grind (arith, nat_tests))

-- A number is read as itself, whatever follows.
number_by : (b : Bool) (k limit n : ℕ) (rest : List ℕ) → nat_lt n 128 ≡ b → limit ≡ bound k → n < limit
    → number_below limit (number_in (suc k) n ++ rest) ≡ FieldWhole n (length (number_in (suc k) n))
number_by true k limit n rest e is less =
    let small : n < 128 = ltb-true n 128 e in
    let form : number_in (suc k) n ≡ n ∷ [] = number_low k n small in
    ap (λ l. number_below limit (l ++ rest)) form ∙ low limit n rest small less ∙ sym (ap (λ l. FieldWhole n (length l)) form)
number_by false zero limit n rest e is less = absurd (omega (arith, ltb-false n 128 e))
number_by false (suc k) limit n rest e is less =
    let big : 128 ≤ n = ltb-false n 128 e in
    let tail : List ℕ = number_in (suc k) (n / 128) in
    let form : number_in (suc (suc k)) n ≡ (128 + n % 128) ∷ tail = number_high (suc k) n big in
    let next : number_below (limit / 128) (tail ++ rest) ≡ FieldWhole (n / 128) (length tail) =
    number_by (nat_lt (n / 128) 128) k (limit / 128) (n / 128) rest refl (omega arith) (omega arith) in
    let value : 128 + n % 128 - 128 + 128 * (n / 128) ≡ n = omega arith in
    let count : length tail + 1 ≡ length ((128 + n % 128) ∷ tail) = omega arith in
    ap (λ l. number_below limit (l ++ rest)) form
    ∙ high limit (128 + n % 128) (n / 128) (length tail) (tail ++ rest) (omega arith) (omega arith) (omega arith) next
    ∙ ap (λ v. FieldWhole v (length tail + 1)) value ∙ ap (λ l. FieldWhole n l) count
    ∙ sym (ap (λ l. FieldWhole n (length l)) form)

-- A number below 2 ^ 32 is read as itself, whatever follows.
vnum_again : (n : ℕ) (rest : List ℕ) → n < 4294967296 → number_at (vnum n ++ rest) ≡ FieldWhole n (length (vnum n))
unfolding number_at vnum
vnum_again n rest less = number_by (nat_lt n 128) 4 4294967296 n rest refl (omega arith) less

-- A flag is read as itself, whatever follows, and makes its header whole.
flag_again : (channel size count : ℕ) (last : Bool) (rest : List ℕ) → flag_then channel size count (flag_of last ∷ rest)
    ≡ Whole (record { channel = channel; size = size; last = last }) (count + 1)
flag_again channel size count true rest = refl
flag_again channel size count false rest = refl

-- A header.
abbrev header : ℕ → ℕ → Bool → List ℕ
header channel size last = vnum channel ++ (vnum size ++ (flag_of last ∷ []))

-- A header and what follows it, part by part.
header_is : (channel size : ℕ) (last : Bool) (rest : List ℕ)
    → header channel size last ++ rest ≡ vnum channel ++ (vnum size ++ (flag_of last ∷ rest))
header_is channel size last rest = append_assoc (vnum channel) (vnum size ++ (flag_of last ∷ [])) rest
    ∙ ap (λ l. vnum channel ++ l) (append_assoc (vnum size) (flag_of last ∷ []) rest)

-- A header is read as itself, whatever follows.
header_again : (channel size : ℕ) (last : Bool) (rest : List ℕ) → channel < 4294967296 → size ≤ 65536
    → header_at (header channel size last ++ rest)
    ≡ Whole (record { channel = channel; size = size; last = last }) (length (vnum channel) + length (vnum size) + 1)
unfolding header_at
header_again channel size last rest less small =
    let l = length (vnum channel) in
    let m = length (vnum size) in
    let more : List ℕ = vnum size ++ (flag_of last ∷ rest) in
    ap (λ s. channel_then s (number_at s)) (header_is channel size last rest)
    ∙ ap (channel_then (vnum channel ++ more)) (vnum_again channel more less)
    ∙ ap (λ s. size_then channel l s (number_at s)) (drop-append_seam (vnum channel) more)
    ∙ ap (size_then channel l more) (vnum_again size (flag_of last ∷ rest) (omega arith))
    ∙ cond-false (nat_lt 65536 size) (Bad Large) (flag_then channel size (l + m) (drop m more)) (grind (arith, nat_tests))
    ∙ ap (flag_then channel size (l + m)) (drop-append_seam (vnum size) (flag_of last ∷ rest))
    ∙ flag_again channel size (l + m) last rest

-- A header takes the bytes of its two numbers, and one more.
header_length : (channel size : ℕ) (last : Bool)
    → length (header channel size last) ≡ length (vnum channel) + length (vnum size) + 1
header_length channel size last = omega (
  arith,
  length-append (vnum channel) (vnum size ++ (flag_of last ∷ [])),
  length-append (vnum size) (flag_of last ∷ []),
)

-- What is read of a piece, and of what follows it, by whether it is refused.
piece_taken : (limits : Limits) (channels : List Message) (offset channel : ℕ) (bytes : List ℕ) (last : Bool) (rest : List ℕ)
    → channel < 4294967296 → length bytes ≤ 65536
    → read_from limits channels offset (piece channel bytes last ++ rest)
    ≡ taken (λ o n b. read_from limits o n b) channels offset (record { channel = channel; size = length bytes; last = last })
    (length (vnum channel) + length (vnum (length bytes)) + 1) (bytes ++ rest)
    (refusal limits channels (record { channel = channel; size = length bytes; last = last }))
piece_taken limits channels offset channel bytes last rest less small =
    let next : List Message → ℕ → List ℕ → Outcome = λ o n b. read_from limits o n b in
    let n = length bytes in
    let h : List ℕ = header channel n last in
    let k = length (vnum channel) + length (vnum n) + 1 in
    let head : Head = record { channel = channel; size = n; last = last } in
    let form : piece channel bytes last ++ rest ≡ h ++ (bytes ++ rest) =
    ap (λ l. l ++ rest) (sym (header_is channel n last bytes)) ∙ append_assoc h bytes rest in
    let behind_it : drop k (h ++ (bytes ++ rest)) ≡ bytes ++ rest =
    ap (λ c. drop c (h ++ (bytes ++ rest))) (sym (header_length channel n last)) ∙ drop-append_seam h (bytes ++ rest) in
    ap (λ l. read_from limits channels offset l) form
    ∙ reads_is limits channels offset (h ++ (bytes ++ rest))
    ∙ ap (λ x. reads_at next limits channels offset (h ++ (bytes ++ rest)) x) (header_again channel n last (bytes ++ rest) less small)
    ∙ ap (λ l. taken next channels offset head k l (refusal limits channels head)) behind_it

-- What is read of a piece that is refused.
pub piece_refused : (limits : Limits) (channels : List Message) (offset channel : ℕ) (bytes : List ℕ) (last : Bool) (rest : List ℕ)
    (fault : BadFrame) → channel < 4294967296 → length bytes ≤ 65536
    → refusal limits channels (record { channel = channel; size = length bytes; last = last }) ≡ Some fault
    → read_from limits channels offset (piece channel bytes last ++ rest) ≡ stops (Fault fault) offset
piece_refused limits channels offset channel bytes last rest fault less small refused =
    piece_taken limits channels offset channel bytes last rest less small
    ∙ ap (λ w. taken (λ o n b. read_from limits o n b) channels offset (record { channel = channel; size = length bytes; last = last })
    (length (vnum channel) + length (vnum (length bytes)) + 1) (bytes ++ rest) w) refused

-- What is read of a piece that isn't refused, and of what follows it.
pub piece_read : (limits : Limits) (channels : List Message) (offset channel : ℕ) (bytes : List ℕ) (last : Bool) (rest : List ℕ)
    → channel < 4294967296 → length bytes ≤ 65536
    → refusal limits channels (record { channel = channel; size = length bytes; last = last }) ≡ None
    → read_from limits channels offset (piece channel bytes last ++ rest)
    ≡ cond last (gives (record { channel = channel; bytes = bytes_of channel channels ++ bytes })
    (read_from limits (without channel channels) (offset + length (piece channel bytes last)) rest))
    (read_from limits (without channel channels ++ record { channel = channel; bytes = bytes_of channel channels ++ bytes } ∷ [])
    (offset + length (piece channel bytes last)) rest)
piece_read limits channels offset channel bytes last rest less small kept =
    let next : List Message → ℕ → List ℕ → Outcome = λ o n b. read_from limits o n b in
    let n = length bytes in
    let h : List ℕ = header channel n last in
    let k = length (vnum channel) + length (vnum n) + 1 in
    let head : Head = record { channel = channel; size = n; last = last } in
    let size : k + n ≡ length (piece channel bytes last) = omega (
      arith,
      header_length channel n last,
      length-append h bytes,
      ap length (header_is channel n last bytes),
    ) in
    let message : Message = record { channel = channel; bytes = bytes_of channel channels ++ bytes } in
    piece_taken limits channels offset channel bytes last rest less small
    ∙ ap (λ w. taken next channels offset head k (bytes ++ rest) w) kept
    ∙ inside_more next (without channel channels) offset channel last n (k + n) 0 (bytes_of channel channels) bytes rest (omega arith)
    ∙ inside_whole next (without channel channels) offset (record { channel = channel; last = last; lacks = 0; size = k + n })
    (bytes_of channel channels ++ bytes) rest refl
    ∙ ap (λ s. cond last (gives message (read_from limits (without channel channels) (offset + s) rest))
    (read_from limits (without channel channels ++ message ∷ []) (offset + s) rest)) size

-- A channel that may be open, and no other.
abbrev opened : ℕ → Option (List ℕ) → List Message
opened channel None = []
opened channel (Some bytes) = record { channel = channel; bytes = bytes } ∷ []

-- The channel's bytes so far: none if it isn't open.
abbrev before : Option (List ℕ) → List ℕ
before None = []
before (Some bytes) = bytes

-- They are its bytes among the open channels.
opened_bytes : (channel : ℕ) (q : Option (List ℕ)) → bytes_of channel (opened channel q) ≡ before q
opened_bytes channel None = refl
opened_bytes channel (Some bytes) = cond-true (nat_eq channel channel) bytes [] (grind (arith, nat_tests))

-- Without it, no channel is open.
opened_without : (channel : ℕ) (q : Option (List ℕ)) → without channel (opened channel q) ≡ []
opened_without channel None = refl
opened_without channel (Some bytes) =
    cond-true (nat_eq channel channel) [] (record { channel = channel; bytes = bytes } ∷ []) (grind (arith, nat_tests))

-- A piece of it opens no channel too many, where one may be open.
opened_room : (limits : Limits) (channel size : ℕ) (last : Bool) (q : Option (List ℕ)) → 0 < limits.channels
    → is_one_more limits (opened channel q) (record { channel = channel; size = size; last = last }) ≡ false
opened_room limits channel size last None some = has_room limits [] (record { channel = channel; size = size; last = last }) some
opened_room limits channel size last (Some bytes) some =
    was_open limits (opened channel (Some bytes)) (record { channel = channel; size = size; last = last })
    (cond-true (nat_eq channel channel) true false (grind (arith, nat_tests)))

-- A piece of it isn't refused, where one may be open, if its bytes so far and those of the piece are within the limit.
opened_kept : (limits : Limits) (channel : ℕ) (last : Bool) (q : Option (List ℕ)) (bytes : List ℕ) → 0 < limits.channels
    → length (before q) + length bytes ≤ limits.bytes
    → refusal limits (opened channel q) (record { channel = channel; size = length bytes; last = last }) ≡ None
opened_kept limits channel last q bytes some small =
    fits limits (opened channel q) (record { channel = channel; size = length bytes; last = last })
    (opened_room limits channel (length bytes) last q some) (omega (arith, ap length (opened_bytes channel q)))

-- The last piece of a message.
last_read : (limits : Limits) (offset channel : ℕ) (q : Option (List ℕ)) (bytes rest : List ℕ) → channel < 4294967296
    → 0 < limits.channels → length (before q) + length bytes ≤ limits.bytes → length bytes ≤ 65536
    → read_from limits (opened channel q) offset (piece channel bytes true ++ rest)
    ≡ gives (record { channel = channel; bytes = before q ++ bytes })
    (read_from limits [] (offset + length (piece channel bytes true)) rest)
last_read limits offset channel q bytes rest less some small few =
    let n = offset + length (piece channel bytes true) in
    piece_read limits (opened channel q) offset channel bytes true rest less few
    (opened_kept limits channel true q bytes some small)
    ∙ ap (λ b. gives (record { channel = channel; bytes = b ++ bytes }) (read_from limits (without channel (opened channel q)) n rest))
    (opened_bytes channel q)
    ∙ ap (λ o. gives (record { channel = channel; bytes = before q ++ bytes }) (read_from limits o n rest)) (opened_without channel q)

-- Another piece.
part_read : (limits : Limits) (offset channel : ℕ) (q : Option (List ℕ)) (bytes rest : List ℕ) → channel < 4294967296
    → 0 < limits.channels → length (before q) + length bytes ≤ limits.bytes → length bytes ≤ 65536
    → read_from limits (opened channel q) offset (piece channel bytes false ++ rest)
    ≡ read_from limits (opened channel (Some (before q ++ bytes))) (offset + length (piece channel bytes false)) rest
part_read limits offset channel q bytes rest less some small few =
    let n = offset + length (piece channel bytes false) in
    piece_read limits (opened channel q) offset channel bytes false rest less few
    (opened_kept limits channel false q bytes some small)
    ∙ ap (λ b. read_from limits (without channel (opened channel q) ++ record { channel = channel; bytes = b ++ bytes } ∷ []) n rest)
    (opened_bytes channel q)
    ∙ ap (λ o. read_from limits (o ++ record { channel = channel; bytes = before q ++ bytes } ∷ []) n rest) (opened_without channel q)

-- The pieces of a message.
pieces_by : (t : Bool) (most : ℕ) (limits : Limits) (offset channel : ℕ) (q : Option (List ℕ)) (bytes rest : List ℕ)
    → nat_le (length bytes) 65536 ≡ t → channel < 4294967296
    → 0 < limits.channels → length (before q) + length bytes ≤ limits.bytes → length bytes ≤ most
    → read_from limits (opened channel q) offset (pieces_in most channel bytes ++ rest)
    ≡ gives (record { channel = channel; bytes = before q ++ bytes })
    (read_from limits [] (offset + length (pieces_in most channel bytes)) rest)
pieces_by t zero limits offset channel q bytes rest e less some small most =
    last_read limits offset channel q bytes rest less some small (omega arith)
pieces_by true (suc most) limits offset channel q bytes rest e less some small all =
    let few : length bytes ≤ 65536 = leb-true (length bytes) 65536 e in
    let form : pieces_in (suc most) channel bytes ≡ piece channel bytes true = cond-true (nat_le (length bytes) 65536) _ _ e in
    ap (λ l. read_from limits (opened channel q) offset (l ++ rest)) form
    ∙ last_read limits offset channel q bytes rest less some small few
    ∙ sym (ap (λ l. gives (record { channel = channel; bytes = before q ++ bytes }) (read_from limits [] (offset + length l) rest)) form)
pieces_by false (suc most) limits offset channel q bytes rest e less some small all =
    let many : 65536 < length bytes = leb-false (length bytes) 65536 e in
    let first : List ℕ = take 65536 bytes in
    let more : List ℕ = drop 65536 bytes in
    let form : pieces_in (suc most) channel bytes ≡ piece channel first false ++ pieces_in most channel more =
    cond-false (nat_le (length bytes) 65536) _ _ e in
    let joined : first ++ more ≡ bytes = take-append-drop 65536 bytes in
    let sizes : length first + length more ≡ length bytes = omega (arith, ap length joined, length-append first more) in
    let later : length more ≡ length bytes - 65536 = length-drop 65536 bytes in
    let n = offset + length (piece channel first false) in
    let end : n + length (pieces_in most channel more) ≡ offset + length (pieces_in (suc most) channel bytes) =
    omega (arith, ap length form, length-append (piece channel first false) (pieces_in most channel more)) in
    let message : Message = record { channel = channel; bytes = before q ++ bytes } in
    ap (λ l. read_from limits (opened channel q) offset (l ++ rest)) form
    ∙ ap (λ l. read_from limits (opened channel q) offset l) (append_assoc (piece channel first false) (pieces_in most channel more) rest)
    ∙ part_read limits offset channel q first (pieces_in most channel more ++ rest) less some (omega arith) (omega arith)
    ∙ pieces_by (nat_le (length more) 65536) most limits n channel (Some (before q ++ first)) more rest refl less some
    (omega (arith, length-append (before q) first)) (omega arith)
    ∙ ap (λ b. gives (record { channel = channel; bytes = b })
    (read_from limits [] (n + length (pieces_in most channel more)) rest)) (append_assoc (before q) first more
    ∙ ap (λ b. before q ++ b) joined)
    ∙ ap (λ m. gives message (read_from limits [] m rest)) end

-- The pieces of a message, where no channel is open, are read as this message, and then as what follows them.
pieces_read : (limits : Limits) (offset channel : ℕ) (bytes rest : List ℕ) → channel < 4294967296
    → 0 < limits.channels → length bytes ≤ limits.bytes
    → read_from limits [] offset (pieces_of channel bytes ++ rest)
    ≡ gives (record { channel = channel; bytes = bytes }) (read_from limits [] (offset + length (pieces_of channel bytes)) rest)
unfolding pieces_of
pieces_read limits offset channel bytes rest less some small =
    pieces_by (nat_le (length bytes) 65536) (length bytes) limits offset channel None bytes rest refl less some (omega arith) (omega arith)

-- The pieces of messages are read from any offset as these messages, with an end behind them.
all_read : (limits : Limits) (offset : ℕ) (messages : List Message) → 0 < limits.channels → AreWithin limits messages
    → read_from limits [] offset (pieces_of_all messages)
    ≡ record { messages = messages; ending = End; offset = offset + length (pieces_of_all messages) }
all_read limits offset [] some within = read_end limits [] offset [] no_header
    ∙ ap (λ n. record { messages = []; ending = End; offset = n }) (omega arith)
all_read limits offset (message ∷ messages) some within =
    let front : List ℕ = pieces_of message.channel message.bytes in
    pieces_read limits offset message.channel message.bytes (pieces_of_all messages) within.0 some within.1
    ∙ ap (gives message) (all_read limits (offset + length front) messages some within.2)
    ∙ ap (λ n. record { messages = message ∷ messages; ending = End; offset = n })
    (omega (arith, length-append front (pieces_of_all messages)))

-- What is written is read.
pub written_is_read : WrittenIsRead
written_is_read limits messages some within = all_read limits 0 messages some within
    ∙ ap (λ n. record { messages = messages; ending = End; offset = n }) (omega arith)
