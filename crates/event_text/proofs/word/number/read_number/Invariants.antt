use Rattle.std.proofs.Common.{◌≡◌, take}
use Rattle.std.specs.Str.Parse.{AllDigits, digits_value}
use Rattle.event_text.proofs.word.number.read_number.Given as goal

-- The number is the value of the digits so far.
abbrev pub invariant-loop-byte : goal.invariant-loop-byte
invariant-loop-byte l = record {
  value : l.number ≡ digits_value 10 (take l.byte-index l.word);
  digits : AllDigits 10 (take l.byte-index l.word);
}
