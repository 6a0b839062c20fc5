use Rattle.std.proofs.Common.{◌≡◌, ◌++◌, take}
use Rattle.fault_run.specs.Texts.{behind_spaces}
use Rattle.fault_run.proofs.answer.put_words.Given as goal

-- The numbers so far were appended, each behind a space.
abbrev pub invariant-loop-word : goal.invariant-loop-word
invariant-loop-word l = l.out.items ≡ l.initial.out.items ++ behind_spaces (take l.word-index l.words)
