use Rattle.std.proofs.Common.{◌≡◌, length}
use Rattle.rent_buf.specs.Parts.{parts_of_pairs}
use Rattle.event_text.specs.TextLook.{words_left}
use Rattle.event_text.specs.TextReads.{parts_end}
use Rattle.event_text.proofs.TextHex.{onto}
use Rattle.event_text.proofs.buffer.read_rooms.Given as goal

-- The parts so far, then those of the words that are left, are those of all.
abbrev pub invariant-loop-room : goal.invariant-loop-room
invariant-loop-room l = parts_end (words_left l.initial.rest) ≡ onto (parts_of_pairs l.pairs.items) (parts_end (words_left l.rest))

abbrev pub decreases-loop-room : goal.decreases-loop-room
decreases-loop-room l = length (words_left l.rest)
