use Rattle.wake_core.proofs.work.with_sleeper.Given as goal

abbrev pub ghosts-run_over-P-Ledger : goal.ghosts-run_over-P-Ledger
ghosts-run_over-P-Ledger g a = record { name = a.pushes.name; parts = a.pushes.parts }

abbrev pub ghosts-run_over-D-Ledger : goal.ghosts-run_over-D-Ledger
ghosts-run_over-D-Ledger g a = record { name = a.drains.name; parts = a.drains.parts }
