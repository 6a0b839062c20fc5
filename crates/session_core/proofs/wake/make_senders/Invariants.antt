use Rattle.std.proofs.Common.{◌≡◌, vec_len}
use Rattle.session_core.proofs.wake.make_senders.Given as goal

-- As many senders were made as turns of the loop.
abbrev pub invariant-loop-i : goal.invariant-loop-i
invariant-loop-i g l = (vec_len l.jobs ≡ l.i) × (l.sleeper.made ≡ l.i)
