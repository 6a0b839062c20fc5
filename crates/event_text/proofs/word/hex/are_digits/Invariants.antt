use Rattle.std.proofs.Common.{◌≡◌}
use Rattle.std.specs.Prelude.{IsTrue, false}
use Rattle.event_text.specs.TextDigits.{AreDigits, HasOther}
use Rattle.event_text.proofs.word.hex.are_digits.Given as goal

-- The bytes so far are digits, or one of them is none.
abbrev pub invariant-loop-byte : goal.invariant-loop-byte
invariant-loop-byte l = record {
  yes : IsTrue l.all → AreDigits l.block l.byte-index;
  no : l.all ≡ false → HasOther l.block l.byte-index;
}
