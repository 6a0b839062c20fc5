-- What is still to be read, as a reader takes bytes.
use Rattle.std.proofs.Common.{◌≡◌, ◌∙◌, ℕ, zero, suc, ◌+◌, ◌-◌, ◌<◌, ◌≤◌, List, [], ◌∷◌, ◌++◌, Bool, true, false, length}
use Rattle.std.proofs.Common.{take, drop, sym, ap, subst, refl, arith}
use Rattle.std.proofs.Common.{append_assoc, append-nil}
use Rattle.std.proofs.Common.{get_or}
use Rattle.std.proofs.Math.Seq.{drop-append_seam}
use Rattle.std.specs.Prelude.{Option, None, Some, IfSome, ◌==◌, not, nat_lt}
use Rattle.std.proofs.lemmas.Bool.{cond-true, cond-false}
use Rattle.std.proofs.lemmas.Bool.Decides.{nat_tests}
use Rattle.std.proofs.lemmas.List.{take-append-drop}
use Rattle.frame_io.specs.declared.fault.BadFrame.{BadFrame}
use Rattle.frame_io.specs.declared.fault.BadFrame.TheVariants.{Channels, Long, Cut}
use Rattle.frame_io.specs.declared.fault.Ending.TheVariants.{Fault}
use Rattle.frame_io.specs.declared.header.Begun.{Begun}
use Rattle.frame_io.specs.declared.header.Head.{Head}
use Rattle.frame_io.specs.declared.header.Header.TheVariants.{Whole, Cut as HeaderCut, Bad}
use Rattle.frame_io.specs.declared.limits.Limits.{Limits}
use Rattle.frame_io.specs.declared.message.Message.{Message}
use Rattle.frame_io.specs.declared.message.MessagePoll.{MessagePoll}
use Rattle.frame_io.specs.Piece.{header_at}
use Rattle.frame_io.specs.Frames.{Outcome, stops, bytes_of, is_open, is_one_more, refusal, inside, ending_of, taken}
use Rattle.frame_io.specs.Frames.{read_from}
use Rattle.frame_io.specs.Decoder.{Decoding, IsBounded, IsDecoding, Polled, rest_of, rest_at, rest_in}
use Rattle.frame_io.proofs.Headers.{no_header}
use Rattle.frame_io.proofs.Reading.{read_bad, read_whole, read_end, inside_more, inside_end}

-- Inside a piece.
pub rest_piece : (d : Decoding) (p : Begun) (left : List ℕ) → d.stop ≡ None → d.piece ≡ Some p
    → rest_of d left ≡ inside (λ o n b. read_from d.limits o n b) d.channels d.offset p d.bytes left
rest_piece d p left stop piece = ap (λ s. rest_at d s left) stop ∙ ap (λ q. rest_in d q left) piece

-- From a header on.
pub rest_head : (d : Decoding) (left : List ℕ) → d.stop ≡ None → d.piece ≡ None
    → rest_of d left ≡ read_from d.limits d.channels d.offset (d.head ++ left)
rest_head d left stop piece = ap (λ s. rest_at d s left) stop ∙ ap (λ q. rest_in d q left) piece

-- Bytes are cut anywhere.
pub cut_at : (count : ℕ) (bytes more : List ℕ) → take count bytes ++ (drop count bytes ++ more) ≡ bytes ++ more
cut_at count bytes more =
    sym (append_assoc (take count bytes) (drop count bytes) more) ∙ ap (λ l. l ++ more) (take-append-drop count bytes)

-- Bytes of a piece are taken.
pub fed_piece : (was : Decoding) (p : Begun) (count : ℕ) (front later bytes more : List ℕ) → was.stop ≡ None → was.piece ≡ Some p
    → front ≡ take count bytes → length front ≡ count → count ≤ p.lacks → later ≡ was.bytes ++ front
    → rest_of (record was {
      piece = Some (record { channel = p.channel; last = p.last; lacks = p.lacks - count; size = p.size });
      bytes = later;
    }) (drop count bytes ++ more)
    ≡ rest_of was (bytes ++ more)
fed_piece was p count front later bytes more stop piece is size within now =
    let next : List Message → ℕ → List ℕ → Outcome = λ o n b. read_from was.limits o n b in
    let piece_now : Begun = record { channel = p.channel; last = p.last; lacks = p.lacks - count; size = p.size } in
    let cut : bytes ++ more ≡ front ++ (drop count bytes ++ more) =
    sym (ap (λ f. f ++ (drop count bytes ++ more)) is ∙ cut_at count bytes more) in
    let step : inside next was.channels was.offset p was.bytes (front ++ (drop count bytes ++ more))
    ≡ inside next was.channels was.offset piece_now (was.bytes ++ front) (drop count bytes ++ more) =
    inside_more next was.channels was.offset p.channel p.last p.lacks p.size (p.lacks - count) was.bytes front (drop count bytes ++ more)
    (omega arith) in
    rest_piece (record was { piece = Some piece_now; bytes = later }) piece_now (drop count bytes ++ more) stop refl
    ∙ ap (λ b. inside next was.channels was.offset piece_now b (drop count bytes ++ more)) now
    ∙ sym step ∙ ap (λ l. inside next was.channels was.offset p was.bytes l) (sym cut)
    ∙ sym (rest_piece was p (bytes ++ more) stop piece)

-- The bytes begin with a header.
pub fed_whole : (was : Decoding) (head : Head) (count : ℕ) (bytes more : List ℕ) → was.stop ≡ None → was.piece ≡ None
    → header_at (was.head ++ bytes) ≡ Whole head count
    → rest_of was (bytes ++ more) ≡ taken (λ o n b. read_from was.limits o n b) was.channels was.offset head count
    (drop count (was.head ++ bytes) ++ more) (refusal was.limits was.channels head)
fed_whole was head count bytes more stop piece is =
    rest_head was (bytes ++ more) stop piece
    ∙ ap (λ l. read_from was.limits was.channels was.offset l) (sym (append_assoc was.head bytes more))
    ∙ read_whole was.limits was.channels was.offset (was.head ++ bytes) more head count is

-- The bytes begin no header.
pub fed_bad : (was : Decoding) (fault : BadFrame) (bytes more : List ℕ) → was.stop ≡ None → was.piece ≡ None
    → header_at (was.head ++ bytes) ≡ Bad fault → rest_of was (bytes ++ more) ≡ stops (Fault fault) was.offset
fed_bad was fault bytes more stop piece is =
    rest_head was (bytes ++ more) stop piece
    ∙ ap (λ l. read_from was.limits was.channels was.offset l) (sym (append_assoc was.head bytes more))
    ∙ read_bad was.limits was.channels was.offset (was.head ++ bytes) more fault is

-- The same step of what was to be read, seen another way.
pub polled_by : (was same now : Outcome) (answer : MessagePoll) → was ≡ same → Polled same now answer → Polled was now answer
polled_by was same now answer is polled = subst (λ o. Polled o now answer) (sym is) polled

-- A piece opens no channel too many: its channel is open, or few are, or it is the last one of its message.
pub last_one : (limits : Limits) (channels : List Message) (head : Head) → not head.last ≡ false → is_one_more limits channels head ≡ false
last_one limits channels head last = grind (arith, nat_tests)

-- A piece whose channel is open opens no channel too many.
pub was_open : (limits : Limits) (channels : List Message) (head : Head) → is_open head.channel channels ≡ true
    → is_one_more limits channels head ≡ false
was_open limits channels head known = grind (arith, nat_tests)

-- A piece opens no channel too many where fewer channels are open than may be.
pub has_room : (limits : Limits) (channels : List Message) (head : Head) → length channels < limits.channels
    → is_one_more limits channels head ≡ false
has_room limits channels head few = grind (arith, nat_tests)

-- One channel too many.
pub too_many : (limits : Limits) (channels : List Message) (head : Head) → not head.last ≡ true → is_open head.channel channels ≡ false
    → limits.channels ≤ length channels → refusal limits channels head ≡ Some Channels
too_many limits channels head last known many =
    let one : is_one_more limits channels head ≡ true = grind (arith, nat_tests) in
    cond-true (is_one_more limits channels head) (Some Channels) _ one

-- Too many bytes of a channel.
pub too_long : (limits : Limits) (channels : List Message) (head : Head) → is_one_more limits channels head ≡ false
    → limits.bytes < length (bytes_of head.channel channels) + head.size → refusal limits channels head ≡ Some Long
too_long limits channels head one long =
    cond-false (is_one_more limits channels head) (Some Channels) _ one
    ∙ cond-true (nat_lt limits.bytes (length (bytes_of head.channel channels) + head.size)) (Some Long) None (grind (arith, nat_tests))

-- A piece that isn't refused.
pub fits : (limits : Limits) (channels : List Message) (head : Head) → is_one_more limits channels head ≡ false
    → length (bytes_of head.channel channels) + head.size ≤ limits.bytes → refusal limits channels head ≡ None
fits limits channels head one small =
    cond-false (is_one_more limits channels head) (Some Channels) _ one
    ∙ cond-false (nat_lt limits.bytes (length (bytes_of head.channel channels) + head.size)) (Some Long) None (grind (arith, nat_tests))

-- Nothing is left: the end, or a cut header.
pub ends_head : (was : Decoding) → was.stop ≡ None → was.piece ≡ None → header_at was.head ≡ HeaderCut
    → rest_of was [] ≡ stops (ending_of was.channels was.head) was.offset
ends_head was stop piece part = rest_head was [] stop piece
    ∙ ap (λ l. read_from was.limits was.channels was.offset l) (append-nil was.head)
    ∙ read_end was.limits was.channels was.offset was.head part

-- Nothing is left inside a piece.
pub ends_piece : (was : Decoding) (p : Begun) → was.stop ≡ None → was.piece ≡ Some p → 0 < p.lacks
    → rest_of was [] ≡ stops (Fault Cut) was.offset
ends_piece was p stop piece more = rest_piece was p [] stop piece
    ∙ inside_end (λ o n b. read_from was.limits o n b) was.channels was.offset p was.bytes more

-- A decoder that keeps no bytes of a header, outside a piece.
pub decoding_none : (limits : Limits) (channels : List Message) (head : List ℕ) (piece : Option Begun) (bytes : List ℕ) → head ≡ []
    → piece ≡ None → IsBounded limits channels piece bytes → IsDecoding limits channels head piece bytes
decoding_none limits channels head piece bytes empty none bound = record {
  part = subst (λ h. header_at h ≡ HeaderCut) (sym empty) no_header;
  none = subst (λ q. IfSome q (λ p. (head ≡ []) × (p.size ≤ 65547))) (sym none) tt;
  bound = bound;
}

-- What is left of one byte, and then others, is what is left of all of them, if one is taken at most.
one_byte : (n byte : ℕ) (rest more : List ℕ) → n ≤ 1 → drop n (byte ∷ []) ++ (rest ++ more) ≡ drop n (byte ∷ rest) ++ more
one_byte zero byte rest more less = refl
one_byte (suc zero) byte rest more less = refl
one_byte (suc (suc n)) byte rest more less = absurd (omega arith)

-- The first of some bytes is taken, or none.
pub fed_one : (was now : Decoding) (n byte : ℕ) (bytes more : List ℕ) (answer : MessagePoll) → 0 < length bytes → byte ≡ get_or bytes 0 0
    → n ≤ 1 → ((left : List ℕ) → Polled (rest_of was (byte ∷ left)) (rest_of now (drop n (byte ∷ []) ++ left)) answer)
    → Polled (rest_of was (bytes ++ more)) (rest_of now (drop n bytes ++ more)) answer
fed_one was now n byte [] more answer some is less polled = absurd (omega arith)
fed_one was now n byte (first ∷ rest) more answer some is less polled =
    subst (λ l. Polled (rest_of was (first ∷ (rest ++ more))) (rest_of now l) answer) (one_byte n first rest more less)
    (subst (λ b. Polled (rest_of was (b ∷ (rest ++ more))) (rest_of now (drop n (b ∷ []) ++ (rest ++ more))) answer) is
    (polled (rest ++ more)))

-- Behind the last bytes something is open: that is a cut.
pub ending_head : (channels : List Message) (head : List ℕ) → (head ≡ [] → ⊥) → ending_of channels head ≡ Fault Cut
ending_head [] [] some = absurd (some refl)
ending_head [] (byte ∷ head) some = refl
ending_head (message ∷ channels) head some = refl

-- Behind the last bytes a channel is open: that is a cut too.
pub ending_open : (channels : List Message) (head : List ℕ) → (channels ≡ [] → ⊥) → ending_of channels head ≡ Fault Cut
ending_open [] head some = absurd (some refl)
ending_open (message ∷ channels) head some = refl

-- Whether channels are open, by their number.
pub some_open : (channels : List Message) (b : Bool) → b ≡ (length channels == 0) → b ≡ false → channels ≡ [] → ⊥
some_open [] b is less none = cc
some_open (message ∷ channels) b is less none = cc

-- No channel is open where their number is 0.
pub no_open : (channels : List Message) (b : Bool) → b ≡ (length channels == 0) → b ≡ true → channels ≡ []
no_open [] b is more = refl
no_open (message ∷ channels) b is more = absurd (grind (arith, nat_tests))

-- What is left behind the first of the bytes that a stream buffered.
pub left_after : (n : ℕ) (bytes rest left now : List ℕ) → n ≤ length bytes → left ≡ bytes ++ rest → left ≡ take n bytes ++ now
    → now ≡ drop n bytes ++ rest
left_after n bytes rest left now within before after =
    let l = length (take n bytes) in
    sym (drop-append_seam (take n bytes) now) ∙ ap (drop l) (sym after ∙ before ∙ sym (cut_at n bytes rest))
    ∙ drop-append_seam (take n bytes) (drop n bytes ++ rest)
