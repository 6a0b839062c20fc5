use Rattle.std.proofs.Common.{◌+◌}
use Rattle.rent_io.specs.Runs.{AfterCalls, AreUsed}
use Rattle.rent_io.proofs.state.StateBy.drive.Given as goal

abbrev pub invariant-loop : goal.invariant-loop
invariant-loop g l =
    let s = g.S.Polled in
    s.goes l.initial.io l.io l.initial.state l.state
    × AfterCalls (g.C.HowCalled.group l.call) l.counter (s.counts l.initial.io) (s.counts l.io)
    × AreUsed l.counter (s.moved l.initial.state + s.due l.state) (s.moved l.state + s.due l.initial.state)
    (s.counts l.initial.io) (s.counts l.io)
