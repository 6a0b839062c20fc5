use Rattle.std.proofs.Common.{◌-◌, ◌≤◌, length}
use Rattle.event_text.specs.TextDigits.{AreDigits}
use Rattle.event_text.proofs.word.hex.past_blocks.Given as goal

-- The bytes so far are digits.
abbrev pub invariant-loop-at : goal.invariant-loop-at
invariant-loop-at l = record { within : l.at ≤ length l.text; before : AreDigits l.text l.at }

abbrev pub decreases-loop-at : goal.decreases-loop-at
decreases-loop-at l = length l.text - l.at
