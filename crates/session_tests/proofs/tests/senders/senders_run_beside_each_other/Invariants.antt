use Rattle.session_tests.proofs.tests.senders.senders_run_beside_each_other.Given as goal

abbrev pub ghosts-wake_all-P-Ledger : goal.ghosts-wake_all-P-Ledger
ghosts-wake_all-P-Ledger g a = record { name = a.pushes.name; parts = a.pushes.parts }

abbrev pub ghosts-wake_all-D-Ledger : goal.ghosts-wake_all-D-Ledger
ghosts-wake_all-D-Ledger g a = record { name = a.drains.name; parts = a.drains.parts }
