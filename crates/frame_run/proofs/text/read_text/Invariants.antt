use Rattle.std.proofs.Common.{vec_len}
use Rattle.frame_run.proofs.Sendings.{ReadingText}
use Rattle.frame_run.proofs.text.read_text.Given as goal

-- What was read, then what is left, is all.
abbrev pub invariant-loop : goal.invariant-loop
invariant-loop g l = ((goal.iterator-loop g).can_next l.iterator' × (goal.iterator-loop g).is_finite l.iterator')
    × ReadingText g.S.ByteSource.tells l.most (g.S.ByteSource.left l.initial.source) (g.S.ByteSource.left l.source) l.text.items
    (g.S.ByteSource.faults l.initial.source) (g.S.ByteSource.faults l.source) (vec_len l.piece)
