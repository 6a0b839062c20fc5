use Rattle.std.proofs.Common.{◌≡◌, ◌≤◌, ◌-◌, length, map, take}
use Rattle.fault_run.proofs.session.ring.words_of.Given as goal

-- The words are those of the first entries.
abbrev pub invariant-loop-entry : goal.invariant-loop-entry
invariant-loop-entry l = record {
  words_are : l.words ≡ map (λ flight. flight.entry.word) (take (length l.words) l.ring.flying);
  few : length l.words ≤ length l.ring.flying;
}

abbrev pub decreases-loop-entry : goal.decreases-loop-entry
decreases-loop-entry l = length l.ring.flying - length l.words
