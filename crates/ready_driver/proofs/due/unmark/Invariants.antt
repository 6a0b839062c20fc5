use Rattle.std.proofs.Common.{◌≡◌, ℕ, true, false, drop, length, get_or}
use Rattle.machine.specs.Lists.{has_number}
use Rattle.ready_driver.proofs.due.unmark.Given as goal

-- What is marked is among the handles that are left.
abbrev pub invariant-loop-at : goal.invariant-loop-at
invariant-loop-at l = record {
  left : (h : ℕ) → get_or l.marks.items h false ≡ true → has_number h (drop l.at l.list) ≡ true;
  len : length l.marks.items ≡ length l.initial.marks.items;
}
