use Rattle.op_job.proofs.op_job.+run.Given as goal

-- An end fewer is left.
abbrev pub decreases-run : goal.decreases-run
decreases-run g l = l.most
