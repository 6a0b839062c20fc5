use Rattle.std.proofs.Common.{◌∙◌, sym}
use Rattle.rent_buf.specs.Parts.{parts_of_pairs}
use Rattle.event_text.proofs.TextParts.{rooms-alone, rooms-no_room, rooms-no_bytes, rooms-more, rooms-pushed, rooms-done}
use Rattle.event_text.proofs.buffer.read_rooms.Goals as goal

pub returns-in_default-next_bytes_word : goal.returns-in_default-next_bytes_word
returns-in_default-next_bytes_word c =
    sym (rooms-alone _ _ _ _ (parts_of_pairs c.loop-room.pairs.items) c.in-Some.ensures.reads c.in_default-next_bytes_word.ensures.reads
    c.loop-room.invariant)

pub returns-in_default-read_number : goal.returns-in_default-read_number
returns-in_default-read_number c =
    sym (rooms-no_room _ _ _ _ _ _ (parts_of_pairs c.loop-room.pairs.items) c.in-Some.ensures.reads c.in-Some-next_bytes_word.ensures.reads
    (sym c.read_number.ensures ∙ c.in_default-read_number.is) c.loop-room.invariant)

pub returns-in_default-2 : goal.returns-in_default-2
returns-in_default-2 c =
    sym (rooms-no_bytes _ _ _ _ _ _ (parts_of_pairs c.loop-room.pairs.items) c.in-Some-read_number.room c.in-Some.ensures.reads
    c.in-Some-next_bytes_word.ensures.reads
    (sym c.read_number.ensures ∙ c.in-Some-read_number.is) (sym c.in_ok-bytes.ensures ∙ c.in_default-2.is) c.loop-room.invariant)

pub loop-room-preserved : goal.loop-room-preserved
loop-room-preserved c =
    rooms-pushed _ _ c.loop-room.pairs.items c.push.new.self.items c.in-Some-read_number.room c.in-Some-2.bytes c.in_ok-push.ensures.items
    (rooms-more _ _ _ _ _ _ (parts_of_pairs c.loop-room.pairs.items) c.in-Some-read_number.room c.in-Some-2.bytes c.in-Some.ensures.reads
    c.in-Some-next_bytes_word.ensures.reads
    (sym c.read_number.ensures ∙ c.in-Some-read_number.is) (sym c.in_ok-bytes.ensures ∙ c.in-Some-2.is) c.loop-room.invariant)

pub returns : goal.returns
returns c = sym (rooms-done _ _ (parts_of_pairs c.loop-room.pairs.items) c.in_default.ensures.reads c.loop-room.invariant)
