-- A whole piece goes on with the message of the channel that was opened last.
use Rattle.std.proofs.Common.{◌≡◌, ◌∙◌, ℕ, zero, suc, ◌+◌, ◌<◌, ◌≤◌, List, [], ◌∷◌, ◌++◌, false, length, length-append}
use Rattle.std.proofs.Common.{sym, ap, subst, refl, arith}
use Rattle.std.specs.Prelude.{Option, None, IfSome, remove, slice_index_or, slice_set}
use Rattle.frame_io.specs.declared.header.Begun.{Begun}
use Rattle.frame_io.specs.declared.header.Head.{Head}
use Rattle.frame_io.specs.declared.message.Message.{Message}
use Rattle.frame_io.specs.Channels.{Extends, HasPlace}
use Rattle.frame_io.specs.declared.limits.Limits.{Limits}
use Rattle.frame_io.specs.Decoder.{AreShort, Decoding, IsBounded, rest_of}
use Rattle.frame_io.specs.Frames.{Outcome, begun, bytes_of, ended, inside, read_from, refusal, taken, without}
use Rattle.frame_io.proofs.Bounds.{one_less, short_append, short_without}
use Rattle.frame_io.proofs.Reading.{inside_more, inside_whole}
use Rattle.frame_io.proofs.Steps.{fits, rest_head, was_open}

-- The last of a list is set: the list without it, and then what it is set to.
set_last : (xs : List Message) (place : ℕ) (x : Message) → place + 1 ≡ length xs → slice_set xs place x ≡ remove xs place ++ x ∷ []
set_last [] place x last = absurd (omega (arith, last))
set_last (y ∷ []) zero x last = refl
set_last (y ∷ z ∷ xs) zero x last = absurd (omega (arith, last))
set_last (y ∷ xs) (suc place) x last = ap (λ l. y ∷ l) (set_last xs place x (omega (arith, last)))

-- The last channel is set to itself with more bytes.
pub extends_last : (channel : ℕ) (more : List ℕ) (most : ℕ) (old : List Message) (m d : Message) (bytes : List ℕ) (place : ℕ)
    → HasPlace channel old place → place + 1 ≡ length old → m ≡ slice_index_or old place d → length m.bytes + length more ≤ most
    → bytes ≡ m.bytes ++ more → Extends channel more most old (slice_set old place (record { channel = m.channel; bytes = bytes }))
extends_last channel more most old m d bytes place there last is within longer =
    let own : m.bytes ≡ bytes_of channel old = ap (λ (x : Message). x.bytes) is ∙ there.bytes d in
    let named : m.channel ≡ channel = ap (λ (x : Message). x.channel) is ∙ there.named d in
    let all : bytes ≡ bytes_of channel old ++ more = longer ∙ ap (λ l. l ++ more) own in
    record {
      known = there.known;
      within = subst (λ l. length l + length more ≤ most) own within;
      now = set_last old place (record { channel = m.channel; bytes = bytes }) last
          ∙ ap (λ l. l ++ record { channel = m.channel; bytes = bytes } ∷ []) there.rest
          ∙ ap (λ n. without channel old ++ record { channel = n; bytes = bytes } ∷ []) named
          ∙ ap (λ b. without channel old ++ record { channel = channel; bytes = b } ∷ []) all;
    }

-- What is still to be read behind such a piece.
pub rest_extended : (was : Decoding) (head : Head) (count : ℕ) (bytes left : List ℕ) (channels : List Message) (offset : ℕ)
    → was.stop ≡ None → was.piece ≡ None → was.head ≡ [] → length bytes ≡ head.size → head.last ≡ false
    → Extends head.channel bytes was.limits.bytes was.channels channels → offset ≡ was.offset + (count + head.size)
    → rest_of (record was { channels = channels; offset = offset }) left
    ≡ taken (λ o n b. read_from was.limits o n b) was.channels was.offset head count (bytes ++ left)
    (refusal was.limits was.channels head)
rest_extended was head count bytes left channels offset stop piece empty size last more now =
    let next : List Message → ℕ → List ℕ → Outcome = λ o n b. read_from was.limits o n b in
    let others : List Message = without head.channel was.channels in
    let own : List ℕ = bytes_of head.channel was.channels in
    let whole : Begun = record { channel = head.channel; last = head.last; lacks = 0; size = count + head.size } in
    let message : Message = record { channel = head.channel; bytes = own ++ bytes } in
    let why : refusal was.limits was.channels head ≡ None =
    fits was.limits was.channels head (was_open was.limits was.channels head more.known) (omega (arith, size, more.within)) in
    let read : inside next others was.offset (begun head count) own (bytes ++ left) ≡ inside next others was.offset whole (own ++ bytes) left =
    inside_more next others was.offset head.channel head.last head.size (count + head.size) 0 own bytes left (omega (arith, size)) in
    let ends : inside next others was.offset whole (own ++ bytes) left
    ≡ ended (λ o s. next o (was.offset + (count + head.size)) s) others whole (own ++ bytes) left =
    inside_whole next others was.offset whole (own ++ bytes) left refl in
    let open_on : ended (λ o s. next o (was.offset + (count + head.size)) s) others whole (own ++ bytes) left
    ≡ next (others ++ message ∷ []) (was.offset + (count + head.size)) left =
    ap (λ b. ended (λ o s. next o (was.offset + (count + head.size)) s) others (record whole { last = b }) (own ++ bytes) left) last in
    rest_head (record was { channels = channels; offset = offset }) left stop piece
    ∙ ap (λ h. next channels offset (h ++ left)) empty ∙ ap (λ o. next o offset left) more.now
    ∙ ap (λ n. next (others ++ message ∷ []) n left) now ∙ sym open_on ∙ sym ends ∙ sym read
    ∙ ap (λ w. taken next was.channels was.offset head count (bytes ++ left) w) (sym why)

-- What is kept stays within the limits.
pub bounded_extended : (limits : Limits) (channel : ℕ) (more : List ℕ) (old new : List Message) (piece : Option Begun) (bytes : List ℕ)
    → piece ≡ None → IsBounded limits old piece bytes → Extends channel more limits.bytes old new → IsBounded limits new piece bytes
bounded_extended limits channel more old new piece bytes none bound extends =
    let message : Message = record { channel = channel; bytes = bytes_of channel old ++ more } in
    let size : length message.bytes ≤ limits.bytes = omega (arith, length-append (bytes_of channel old) more, extends.within) in
    let count : length new ≡ length (without channel old) + 1 =
    ap length extends.now ∙ length-append (without channel old) (message ∷ []) in
    let fewer = one_less channel old extends.known in
    record {
      few = omega (arith, count, fewer, bound.few);
      short = subst (λ l. AreShort limits.bytes l) (sym extends.now)
          (short_append limits.bytes (without channel old) message (short_without limits.bytes channel old bound.short) size);
      within = bound.within;
      begun = subst (λ q. IfSome q (λ p. (length bytes + p.lacks ≤ limits.bytes) × (p.last ≡ false → length new < limits.channels)))
          (sym none) tt;
    }
