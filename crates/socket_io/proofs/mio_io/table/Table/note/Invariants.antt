use Rattle.std.proofs.Common.{◌≡◌}
use Rattle.socket_io.proofs.mio_io.table.Table.note.Given as goal

-- The handles are as they were.
abbrev pub invariant-loop-report : goal.invariant-loop-report
invariant-loop-report l = (l.self.made ≡ l.initial.self.made) × (l.self.kinds ≡ l.initial.self.kinds)
