use Rattle.std.proofs.Common.{◌≡◌, ◌++◌, drop}
use Rattle.ready_driver.specs.Reports.{reports_of}
use Rattle.ready_driver.proofs.mem_io.MemIo.report_all.Given as goal

-- The reports so far, and those of the handles that are left, are those of all that are due.
abbrev pub invariant-loop-at : goal.invariant-loop-at
invariant-loop-at l =
    l.reports ++ reports_of l.self.world l.self.keys (drop l.at l.self.due) ≡ reports_of l.self.world l.self.keys l.self.due
