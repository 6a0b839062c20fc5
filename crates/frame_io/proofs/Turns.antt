-- Pieces of several channels that take turns.
use Rattle.std.proofs.Common.{◌≡◌, ◌∙◌, ℕ, ◌+◌, ◌<◌, ◌≤◌, List, [], ◌∷◌, ◌++◌, Bool, true, false, length}
use Rattle.std.proofs.Common.{sym, ap, subst, refl, arith, cond}
use Rattle.std.specs.Prelude.{Option, None, Some, nat_eq, nat_lt}
use Rattle.std.proofs.lemmas.Bool.{cond-true, cond-false}
use Rattle.std.proofs.lemmas.Bool.Decides.{nat_tests}
use Rattle.frame_io.specs.declared.fault.BadFrame.{BadFrame}
use Rattle.frame_io.specs.declared.fault.BadFrame.TheVariants.{Number, Large, Flag, Channels, Long, Cut}
use Rattle.frame_io.specs.declared.fault.Ending.TheVariants.{Fault}
use Rattle.frame_io.specs.declared.header.Head.{Head}
use Rattle.frame_io.specs.declared.limits.Limits.{Limits}
use Rattle.frame_io.specs.declared.message.Message.{Message}
use Rattle.frame_io.specs.Frames.{Outcome, gives, bytes_of, is_open, without, is_one_more, refusal, read_from}
use Rattle.frame_io.specs.Piece.{piece}
use Rattle.frame_io.specs.Turns.{Part, pieces_of_parts, ArePieces, parts_of, made_of, messages_on, IsReadWhole, TurnsAreRead}
use Rattle.frame_io.proofs.Headers.{no_header}
use Rattle.frame_io.proofs.Places.{none_of}
use Rattle.frame_io.proofs.Reading.{read_end}
use Rattle.frame_io.proofs.Writing.{piece_read, piece_refused}

-- No channel is open twice.
abbrev AreApart : List Message → Type 0
AreApart [] = Unit {0}
AreApart (message ∷ channels) = (is_open message.channel channels ≡ false) × AreApart channels

-- A channel isn't open where the first channel is it.
not_first : (b known : Bool) → cond b true known ≡ false → (b ≡ false) × (known ≡ false)
not_first true known closed = absurd cc
not_first false known closed = (refl, closed)

-- Without a channel, one that wasn't open still isn't.
still_if : (b : Bool) (gone channel : ℕ) (message : Message) (channels : List Message)
    → (nat_eq message.channel channel ≡ false) × (is_open channel channels ≡ false) → is_open channel (without gone channels) ≡ false
    → is_open channel (cond b channels (message ∷ without gone channels)) ≡ false
still_if true gone channel message channels both next = both.1
still_if false gone channel message channels both next =
    cond-false (nat_eq message.channel channel) true (is_open channel (without gone channels)) both.0 ∙ next

-- So it is with each channel that wasn't open.
still_closed : (gone channel : ℕ) (channels : List Message) → is_open channel channels ≡ false
    → is_open channel (without gone channels) ≡ false
still_closed gone channel [] closed = refl
still_closed gone channel (message ∷ channels) closed =
    let both = not_first (nat_eq message.channel channel) (is_open channel channels) closed in
    still_if (nat_eq message.channel gone) gone channel message channels both (still_closed gone channel channels both.1)

-- Without it, a channel isn't open.
gone_if : (b : Bool) (channel : ℕ) (message : Message) (channels : List Message) → nat_eq message.channel channel ≡ b
    → is_open message.channel channels ≡ false → is_open channel (without channel channels) ≡ false
    → is_open channel (cond b channels (message ∷ without channel channels)) ≡ false
gone_if true channel message channels same apart next =
    let is : message.channel ≡ channel = grind (arith, nat_tests) in subst (λ c. is_open c channels ≡ false) is apart
gone_if false channel message channels other apart next =
    cond-false (nat_eq message.channel channel) true (is_open channel (without channel channels)) other ∙ next

-- So it is with every channel, where none is open twice.
gone_closed : (channel : ℕ) (channels : List Message) → AreApart channels → is_open channel (without channel channels) ≡ false
gone_closed channel [] apart = refl
gone_closed channel (message ∷ channels) apart =
    gone_if (nat_eq message.channel channel) channel message channels refl apart.0 (gone_closed channel channels apart.1)

-- Without a channel the others are still apart.
apart_if : (b : Bool) (channel : ℕ) (message : Message) (channels : List Message) → AreApart channels
    → is_open message.channel (without channel channels) ≡ false → AreApart (without channel channels)
    → AreApart (cond b channels (message ∷ without channel channels))
apart_if true channel message channels apart closed next = apart
apart_if false channel message channels apart closed next = (closed, next)

-- So it is with all of them.
apart_without : (channel : ℕ) (channels : List Message) → AreApart channels → AreApart (without channel channels)
apart_without channel [] apart = tt
apart_without channel (message ∷ channels) apart =
    apart_if (nat_eq message.channel channel) channel message channels apart.1
    (still_closed channel message.channel channels apart.0) (apart_without channel channels apart.1)

-- A channel that is none of some, and not this one, is none of all.
open_behind : (channel : ℕ) (channels : List Message) (message : Message) → is_open channel channels ≡ false
    → nat_eq message.channel channel ≡ false → is_open channel (channels ++ message ∷ []) ≡ false
open_behind channel [] message closed other = cond-false (nat_eq message.channel channel) true false other
open_behind channel (first ∷ channels) message closed other =
    let both = not_first (nat_eq first.channel channel) (is_open channel channels) closed in
    cond-false (nat_eq first.channel channel) true (is_open channel (channels ++ message ∷ [])) both.0
    ∙ open_behind channel channels message both.1 other

-- A channel that wasn't open is apart from the others.
apart_behind : (channels : List Message) (message : Message) → AreApart channels → is_open message.channel channels ≡ false
    → AreApart (channels ++ message ∷ [])
apart_behind [] message apart closed = (refl, tt)
apart_behind (first ∷ channels) message apart closed =
    let both = not_first (nat_eq first.channel message.channel) (is_open message.channel channels) closed in
    (open_behind first.channel channels message apart.0 (grind (arith, nat_tests)), apart_behind channels message apart.1 both.1)

-- The bytes of another channel stay without one.
other_if : (b : Bool) (gone channel : ℕ) (message : Message) (channels : List Message) → nat_eq message.channel gone ≡ b
    → nat_eq gone channel ≡ false → bytes_of channel (without gone channels) ≡ bytes_of channel channels
    → bytes_of channel (cond b channels (message ∷ without gone channels)) ≡ bytes_of channel (message ∷ channels)
other_if true gone channel message channels same other next =
    sym (cond-false (nat_eq message.channel channel) message.bytes (bytes_of channel channels) (grind (arith, nat_tests)))
other_if false gone channel message channels same other next =
    ap (λ l. cond (nat_eq message.channel channel) message.bytes l) next

-- So it is whatever the channels are.
other_without : (gone channel : ℕ) (channels : List Message) → nat_eq gone channel ≡ false
    → bytes_of channel (without gone channels) ≡ bytes_of channel channels
other_without gone channel [] other = refl
other_without gone channel (message ∷ channels) other =
    other_if (nat_eq message.channel gone) gone channel message channels refl other (other_without gone channel channels other)

-- The bytes of another channel stay with one more behind.
other_behind : (channel : ℕ) (channels : List Message) (message : Message) → nat_eq message.channel channel ≡ false
    → bytes_of channel (channels ++ message ∷ []) ≡ bytes_of channel channels
other_behind channel [] message other = cond-false (nat_eq message.channel channel) message.bytes [] other
other_behind channel (first ∷ channels) message other =
    ap (λ l. cond (nat_eq first.channel channel) first.bytes l) (other_behind channel channels message other)

-- The bytes of a channel that wasn't open are those that it is opened with.
own_behind : (channels : List Message) (message : Message) → is_open message.channel channels ≡ false
    → bytes_of message.channel (channels ++ message ∷ []) ≡ message.bytes
own_behind [] message closed =
    cond-true (nat_eq message.channel message.channel) message.bytes [] (grind (arith, nat_tests))
own_behind (first ∷ channels) message closed =
    let both = not_first (nat_eq first.channel message.channel) (is_open message.channel channels) closed in
    cond-false (nat_eq first.channel message.channel) first.bytes (bytes_of message.channel (channels ++ message ∷ [])) both.0
    ∙ own_behind channels message both.1

-- A piece is refused as one channel, or one byte, too many, and never since it is cut.
refused_so : (fault : BadFrame) (b long : Bool) → cond b (Some Channels) (cond long (Some Long) None) ≡ Some fault
    → IsReadWhole (Fault fault) → ⊥
refused_so Number b long is whole = whole
refused_so Large b long is whole = whole
refused_so Flag b long is whole = whole
refused_so Channels b long is whole = whole
refused_so Long b long is whole = whole
refused_so Cut true long is whole = cc
refused_so Cut false true is whole = cc
refused_so Cut false false is whole = cc

-- A channel's message, with one part more.
abbrev grown : List Message → Part → Message
grown channels part = record { channel = part.channel; bytes = bytes_of part.channel channels ++ part.bytes }

-- What one part adds to a channel: it is the last one of its message or not, and the channel's own or not.
turn_by : (l t : Bool) (channel : ℕ) (part : Part) (parts : List Part) (channels : List Message) (x y : Outcome) → part.last ≡ l
    → nat_eq part.channel channel ≡ t → AreApart channels → IsReadWhole (cond l (gives (grown channels part) x) y).ending
    → (IsReadWhole x.ending → messages_on channel x.messages
    ≡ made_of (bytes_of channel (without part.channel channels)) (parts_of channel parts))
    → (IsReadWhole y.ending → messages_on channel y.messages
    ≡ made_of (bytes_of channel (without part.channel channels ++ grown channels part ∷ [])) (parts_of channel parts))
    → messages_on channel (cond l (gives (grown channels part) x) y).messages
    ≡ made_of (bytes_of channel channels) (cond t (part ∷ parts_of channel parts) (parts_of channel parts))
turn_by true true channel part parts channels x y last own apart whole first second =
    let rest : List Part = parts_of channel parts in
    let same : part.channel ≡ channel = grind (arith, nat_tests) in
    let none : bytes_of channel (without part.channel channels) ≡ [] =
    none_of channel (without part.channel channels)
    (subst (λ c. is_open c (without part.channel channels) ≡ false) same (gone_closed part.channel channels apart)) in
    cond-true (nat_eq part.channel channel) ((bytes_of part.channel channels ++ part.bytes) ∷ messages_on channel x.messages)
    (messages_on channel x.messages) own
    ∙ ap (λ l. (bytes_of part.channel channels ++ part.bytes) ∷ l) (first whole ∙ ap (λ b. made_of b rest) none)
    ∙ ap (λ c. (bytes_of c channels ++ part.bytes) ∷ made_of [] rest) same
    ∙ sym (cond-true part.last ((bytes_of channel channels ++ part.bytes) ∷ made_of [] rest)
    (made_of (bytes_of channel channels ++ part.bytes) rest) last)
turn_by true false channel part parts channels x y last own apart whole first second =
    cond-false (nat_eq part.channel channel) ((bytes_of part.channel channels ++ part.bytes) ∷ messages_on channel x.messages)
    (messages_on channel x.messages) own
    ∙ first whole ∙ ap (λ b. made_of b (parts_of channel parts)) (other_without part.channel channel channels own)
turn_by false true channel part parts channels x y last own apart whole first second =
    let rest : List Part = parts_of channel parts in
    let others : List Message = without part.channel channels in
    let message : Message = grown channels part in
    let same : part.channel ≡ channel = grind (arith, nat_tests) in
    let more : bytes_of channel (others ++ message ∷ []) ≡ bytes_of channel channels ++ part.bytes =
    ap (λ c. bytes_of c (others ++ message ∷ [])) (sym same)
    ∙ own_behind others message (gone_closed part.channel channels apart) ∙ ap (λ c. bytes_of c channels ++ part.bytes) same in
    second whole ∙ ap (λ b. made_of b rest) more
    ∙ sym (cond-false part.last ((bytes_of channel channels ++ part.bytes) ∷ made_of [] rest)
    (made_of (bytes_of channel channels ++ part.bytes) rest) last)
turn_by false false channel part parts channels x y last own apart whole first second =
    second whole ∙ ap (λ b. made_of b (parts_of channel parts))
    (other_behind channel (without part.channel channels) (grown channels part) own ∙ other_without part.channel channel channels own)

-- Each channel's messages are those of its own parts, behind what is open.
abbrev AreTurns : Limits → ℕ → List Part → Type 0
AreTurns limits channel parts = (channels : List Message) (offset : ℕ) → AreApart channels
    → IsReadWhole (read_from limits channels offset (pieces_of_parts parts)).ending
    → messages_on channel (read_from limits channels offset (pieces_of_parts parts)).messages
    ≡ made_of (bytes_of channel channels) (parts_of channel parts)

-- With one part more, that isn't refused.
one_turn : (why : Option BadFrame) (limits : Limits) (channel : ℕ) (part : Part) (parts : List Part) (channels : List Message) (offset : ℕ)
    → refusal limits channels (record { channel = part.channel; size = length part.bytes; last = part.last }) ≡ why
    → part.channel < 4294967296 → length part.bytes ≤ 65536 → AreTurns limits channel parts → AreApart channels
    → IsReadWhole (read_from limits channels offset (pieces_of_parts (part ∷ parts))).ending
    → messages_on channel (read_from limits channels offset (pieces_of_parts (part ∷ parts))).messages
    ≡ made_of (bytes_of channel channels) (parts_of channel (part ∷ parts))
one_turn (Some fault) limits channel part parts channels offset why less small next apart whole =
    let head : Head = record { channel = part.channel; size = length part.bytes; last = part.last } in
    absurd (refused_so fault (is_one_more limits channels head)
    (nat_lt limits.bytes (length (bytes_of part.channel channels) + length part.bytes)) why
    (subst (λ o. IsReadWhole o.ending)
    (piece_refused limits channels offset part.channel part.bytes part.last (pieces_of_parts parts) fault less small why) whole))
one_turn None limits channel part parts channels offset why less small next apart whole =
    let later = offset + length (piece part.channel part.bytes part.last) in
    let others : List Message = without part.channel channels in
    let message : Message = grown channels part in
    let x : Outcome = read_from limits others later (pieces_of_parts parts) in
    let y : Outcome = read_from limits (others ++ message ∷ []) later (pieces_of_parts parts) in
    let is : read_from limits channels offset (pieces_of_parts (part ∷ parts)) ≡ cond part.last (gives message x) y =
    piece_read limits channels offset part.channel part.bytes part.last (pieces_of_parts parts) less small why in
    let left : AreApart others = apart_without part.channel channels apart in
    ap (λ o. messages_on channel o.messages) is
    ∙ turn_by part.last (nat_eq part.channel channel) channel part parts channels x y refl refl apart
    (subst (λ o. IsReadWhole o.ending) is whole) (λ w. next others later left w)
    (λ w. next (others ++ message ∷ []) later (apart_behind others message left (gone_closed part.channel channels apart)) w)

-- With any parts.
turns : (limits : Limits) (channel : ℕ) (parts : List Part) → ArePieces parts → AreTurns limits channel parts
turns limits channel [] pieces channels offset apart whole =
    ap (λ o. messages_on channel o.messages) (read_end limits channels offset [] no_header)
turns limits channel (part ∷ parts) pieces channels offset apart whole =
    one_turn (refusal limits channels (record { channel = part.channel; size = length part.bytes; last = part.last })) limits channel part
    parts channels offset refl pieces.0 pieces.1 (turns limits channel parts pieces.2) apart whole

-- However pieces take turns, each channel's messages are those of its own parts.
pub turns_are_read : TurnsAreRead
turns_are_read limits parts channel pieces whole = turns limits channel parts pieces [] 0 tt whole
