use Rattle.ready_tests.proofs.tests.memory.reads_wait_and_are_returned.Given as goal

abbrev pub ghosts-run_all-P-Ledger : goal.ghosts-run_all-P-Ledger
ghosts-run_all-P-Ledger g a = record { name = a.pushes.name; parts = a.pushes.parts }

abbrev pub ghosts-run_all-D-Ledger : goal.ghosts-run_all-D-Ledger
ghosts-run_all-D-Ledger g a = record { name = a.drains.name; parts = a.drains.parts }
