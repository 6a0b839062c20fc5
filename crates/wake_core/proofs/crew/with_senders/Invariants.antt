use Rattle.wake_core.proofs.crew.with_senders.Given as goal

abbrev pub ghosts-start_over-P-Ledger : goal.ghosts-start_over-P-Ledger
ghosts-start_over-P-Ledger g a = record { name = a.pushes.name; parts = a.pushes.parts }

abbrev pub ghosts-start_over-D-Ledger : goal.ghosts-start_over-D-Ledger
ghosts-start_over-D-Ledger g a = record { name = a.drains.name; parts = a.drains.parts }
