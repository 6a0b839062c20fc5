-- What a reader keeps is within its limits.
use Rattle.std.proofs.Common.{◌≡◌, ℕ, suc, ◌+◌, ◌<◌, ◌≤◌, List, [], ◌∷◌, ◌++◌, Bool, true, false, length, refl, arith}
use Rattle.std.proofs.Common.{cond}
use Rattle.std.specs.Prelude.{Option, None, Some, IfSome, not, ◌&&◌, nat_eq, nat_le}
use Rattle.std.proofs.lemmas.Bool.{leb-false}
use Rattle.frame_io.specs.declared.header.Begun.{Begun}
use Rattle.frame_io.specs.declared.header.Head.{Head}
use Rattle.frame_io.specs.declared.limits.Limits.{Limits}
use Rattle.frame_io.specs.declared.message.Message.{Message}
use Rattle.frame_io.specs.Frames.{is_open, without, is_one_more}
use Rattle.frame_io.specs.Decoder.{AreShort, IsBounded}

-- A channel more.
pub short_append : (most : ℕ) (channels : List Message) (message : Message) → AreShort most channels → length message.bytes ≤ most
    → AreShort most (channels ++ message ∷ [])
short_append most [] message all less = (less, tt)
short_append most (first ∷ channels) message all less = (all.0, short_append most channels message all.1 less)

-- A channel less.
short_if : (b : Bool) (most : ℕ) (first : Message) (channels rest : List Message) → length first.bytes ≤ most → AreShort most channels
    → AreShort most rest → AreShort most (cond b channels (first ∷ rest))
short_if true most first channels rest less all others = all
short_if false most first channels rest less all others = (less, others)

-- Channels that have so many bytes at most have so without one of them too.
pub short_without : (most channel : ℕ) (channels : List Message) → AreShort most channels → AreShort most (without channel channels)
short_without most channel [] all = tt
short_without most channel (first ∷ channels) all =
    short_if (nat_eq first.channel channel) most first channels (without channel channels) all.0 all.1
    (short_without most channel channels all.1)

-- Without the first channel, or with it before no more others than there were, there are no more channels.
fewer_if : (b : Bool) (first : Message) (channels rest : List Message) → length rest ≤ length channels
    → length (cond b channels (first ∷ rest)) ≤ suc (length channels)
fewer_if true first channels rest less = omega arith
fewer_if false first channels rest less = omega arith

-- There are no more channels without one than with it.
pub fewer : (channel : ℕ) (channels : List Message) → length (without channel channels) ≤ length channels
fewer channel [] = omega arith
fewer channel (first ∷ channels) =
    fewer_if (nat_eq first.channel channel) first channels (without channel channels) (fewer channel channels)

-- An open channel is the first, which is taken out, or is among the others, which are fewer without it: so all are fewer.
one_less_if : (b : Bool) (channel : ℕ) (first : Message) (channels : List Message) → cond b true (is_open channel channels) ≡ true
    → (is_open channel channels ≡ true → length (without channel channels) < length channels)
    → length (cond b channels (first ∷ without channel channels)) < suc (length channels)
one_less_if true channel first channels known less = omega arith
one_less_if false channel first channels known less = let one = less known in omega arith

-- Without a channel that is open, there are fewer channels.
pub one_less : (channel : ℕ) (channels : List Message) → is_open channel channels ≡ true → length (without channel channels) < length channels
one_less channel [] known = absurd (cc)
one_less channel (first ∷ channels) known =
    one_less_if (nat_eq first.channel channel) channel first channels known (λ k. one_less channel channels k)

-- Where no channel too many is opened, there is room for one.
room_if : (known last : Bool) (limits : Limits) (channels : List Message) (channel : ℕ) → is_open channel channels ≡ known
    → (not last && not known && nat_le limits.channels (length channels)) ≡ false → length channels ≤ limits.channels → last ≡ false
    → length (without channel channels) < limits.channels
room_if true last limits channels channel is one few more = let less = one_less channel channels is in omega arith
room_if false true limits channels channel is one few more = absurd (cc)
room_if false false limits channels channel is one few more = let less = fewer channel channels in
    let some : length channels < limits.channels = leb-false limits.channels (length channels) one in omega arith

-- Where a piece opens no channel too many, and isn't its message's last, there is room for its channel beside the others.
pub room_left : (limits : Limits) (channels : List Message) (head : Head) → is_one_more limits channels head ≡ false
    → length channels ≤ limits.channels → head.last ≡ false → length (without head.channel channels) < limits.channels
room_left limits channels head one few last =
    room_if (is_open head.channel channels) head.last limits channels head.channel refl one few last

-- The bounds of a begun piece hold without a channel too.
begun_without : (limits : Limits) (channel : ℕ) (channels : List Message) (piece : Option Begun) (bytes : List ℕ)
    → IfSome piece (λ p. (length bytes + p.lacks ≤ limits.bytes) × (p.last ≡ false → length channels < limits.channels))
    → IfSome piece (λ p. (length bytes + p.lacks ≤ limits.bytes) × (p.last ≡ false → length (without channel channels) < limits.channels))
begun_without limits channel channels None bytes begun = tt
begun_without limits channel channels (Some p) bytes begun =
    (begun.0, λ last. let less = fewer channel channels in omega (arith, begun.1 last))

-- A channel that is taken out leaves the others within the limits.
pub bounded_without : (limits : Limits) (channel : ℕ) (channels : List Message) (piece : Option Begun) (bytes : List ℕ)
    → IsBounded limits channels piece bytes → IsBounded limits (without channel channels) piece bytes
bounded_without limits channel channels piece bytes bound = record {
  few = let less = fewer channel channels in omega (arith, bound.few);
  short = short_without limits.bytes channel channels bound.short;
  within = bound.within;
  begun = begun_without limits channel channels piece bytes bound.begun;
}
