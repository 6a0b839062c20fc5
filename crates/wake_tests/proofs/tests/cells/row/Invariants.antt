use Rattle.wake_tests.proofs.tests.cells.row.Given as goal

abbrev pub ghosts-play_new-P-Ledger : goal.ghosts-play_new-P-Ledger
ghosts-play_new-P-Ledger g a = record { name = a.pushes.name; parts = a.pushes.parts }

abbrev pub ghosts-play_new-D-Ledger : goal.ghosts-play_new-D-Ledger
ghosts-play_new-D-Ledger g a = record { name = a.drains.name; parts = a.drains.parts }
