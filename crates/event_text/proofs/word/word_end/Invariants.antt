use Rattle.std.proofs.Common.{◌≡◌, take}
use Rattle.std.specs.Prelude.{true}
use Rattle.event_text.specs.TextLook.{is_unbroken}
use Rattle.event_text.proofs.word.word_end.Given as goal

-- The bytes so far belong to the first word.
abbrev pub invariant-loop-at : goal.invariant-loop-at
invariant-loop-at l = record { unbroken : is_unbroken (take l.at l.text) ≡ true }
