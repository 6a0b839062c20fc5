use Rattle.std.proofs.Common.{◌≡◌, ◌+◌, vec_len}
use Rattle.std.specs.Vec.Iter.{into_iter_len}
use Rattle.session_core.proofs.wake.join_all.Given as goal

-- The senders that are done and the threads that are left are all senders.
abbrev pub invariant-loop-thread : goal.invariant-loop-thread
invariant-loop-thread g l = vec_len l.done + into_iter_len l.thread-iterator ≡ vec_len l.fn.started.threads + vec_len l.fn.started.done
