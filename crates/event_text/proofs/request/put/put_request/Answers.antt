use Rattle.std.proofs.Common.{sym}
use Rattle.event_text.proofs.request.put.put_request.Goals as goal

pub returns-in-SpliceFrom-clause-ok : goal.returns-in-SpliceFrom-clause-ok
returns-in-SpliceFrom-clause-ok c =
    rw (c.in-SpliceFrom.is, sym c.number-in-SpliceFrom.ensures, sym c.number-in-SpliceFrom-2.ensures)
    c.put_numbers-in-SpliceFrom.ensures.ok
