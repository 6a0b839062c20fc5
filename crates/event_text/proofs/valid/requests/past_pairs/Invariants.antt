use Rattle.std.proofs.Common.{◌≡◌, length}
use Rattle.event_text.specs.TextLook.{line_end, words_left}
use Rattle.event_text.specs.TextReads.{parts_end}
use Rattle.event_text.proofs.TextValid.{PartsSeen}
use Rattle.event_text.proofs.valid.requests.past_pairs.Given as goal

-- The parts so far fit, and this many are to come, on the same line.
abbrev pub invariant-loop-room : goal.invariant-loop-room
invariant-loop-room l = record {
  seen : PartsSeen (parts_end (words_left l.initial.rest)) (words_left l.rest) l.count l.left l.rooms;
  line : line_end l.rest ≡ line_end l.initial.rest;
}

abbrev pub decreases-loop-room : goal.decreases-loop-room
decreases-loop-room l = length (words_left l.rest)
