use Rattle.relay_run.proofs.run.relay_all.Given as goal

-- The borrow that the run begins with.
abbrev pub ghosts-relay_at : goal.ghosts-relay_at
ghosts-relay_at g a = record { net = a.net.ghost_name }
