use Rattle.std.proofs.Common.{◌≡◌, ◌+◌, vec_len}
use Rattle.std.specs.Vec.Iter.{into_iter_len}
use Rattle.session_core.proofs.wake.start_all.Given as goal

-- The threads, the senders that are done and the jobs that are left are all jobs.
abbrev pub invariant-loop-job : goal.invariant-loop-job
invariant-loop-job g l = (vec_len l.threads + vec_len l.done) + into_iter_len l.job-iterator ≡ vec_len l.fn.jobs
