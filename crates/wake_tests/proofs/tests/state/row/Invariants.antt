use Rattle.wake_tests.proofs.tests.state.row.Given as goal

abbrev pub ghosts-run_new-P-Ledger : goal.ghosts-run_new-P-Ledger
ghosts-run_new-P-Ledger g a = record { name = a.pushes.name; parts = a.pushes.parts }

abbrev pub ghosts-run_new-D-Ledger : goal.ghosts-run_new-D-Ledger
ghosts-run_new-D-Ledger g a = record { name = a.drains.name; parts = a.drains.parts }
