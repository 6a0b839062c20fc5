use Rattle.relay_run.proofs.run.run_over.Given as goal

-- The ledgers of the sleeper are those that were made.
abbrev pub ghosts-run_counted-P-Ledger : goal.ghosts-run_counted-P-Ledger
ghosts-run_counted-P-Ledger g a = record { name = a.pushes.name; parts = a.pushes.parts }

abbrev pub ghosts-run_counted-D-Ledger : goal.ghosts-run_counted-D-Ledger
ghosts-run_counted-D-Ledger g a = record { name = a.drains.name; parts = a.drains.parts }
