use Rattle.std.proofs.Common.{◌≤◌, arith}
use Rattle.core_exec.proofs.Pairs.{pair_within}
use Rattle.core_exec.proofs.deadlines.Deadlines.pop.Goals as goal

-- the first is to come, and no other is before it
pub returns-then-first-now-clause-none : goal.returns-then-first-now-clause-none
returns-then-first-now-clause-none c = λ d s was.
    let within : c.in-Some.pair.now.0 ≤ d = pair_within c.in-Some.pair.now.0 d c.in-Some.pair.now.1 s (c.in-Some.ensures.least
    (d, s) was) in
    let later = c.if-first-now.true in
    omega (arith, within, later)
