use Rattle.std.proofs.Common.{◌≡◌, true, take}
use Rattle.std.specs.Prelude.{All}
use Rattle.fault_run.specs.Script.{is_letter}
use Rattle.fault_run.proofs.run.is_script.Given as goal

-- The bytes so far are letters.
abbrev pub invariant-loop-letter : goal.invariant-loop-letter
invariant-loop-letter l = All (λ letter. is_letter letter ≡ true) (take l.letter-index l.word)
