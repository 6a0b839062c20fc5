use Rattle.driver_examples.proofs.tests.park.a_park_ends_by_an_unpark_or_a_waker_or_a_completion.Given as goal

abbrev pub ghosts-parks_new-P-Ledger : goal.ghosts-parks_new-P-Ledger
ghosts-parks_new-P-Ledger g a = record { name = a.pushes.name; parts = a.pushes.parts }

abbrev pub ghosts-parks_new-D-Ledger : goal.ghosts-parks_new-D-Ledger
ghosts-parks_new-D-Ledger g a = record { name = a.drains.name; parts = a.drains.parts }
