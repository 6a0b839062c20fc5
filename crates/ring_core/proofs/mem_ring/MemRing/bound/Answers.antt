use Rattle.std.proofs.Common.{sym, ◌∙◌, ap, subst}
use Rattle.ring_core.specs.declared.entry.Flight.{Flight}
use Rattle.machine.specs.Lists.{passes}
use Rattle.ring_core.specs.Bound.{HasLeader}
use Rattle.ring_core.proofs.Leading.{led-first}
use Rattle.ring_core.proofs.mem_ring.MemRing.bound.Goals as goal

pub returns-in-Some-clause-led : goal.returns-in-Some-clause-led
returns-in-Some-clause-led c = λ bound.
    subst (λ v. HasLeader v.flying c.args.place) c.self.view_is
    (led-first c.self.inside.flying.flights c.args.place c.self.invariant.1
    (ap (passes (λ (flight : Flight). flight.bound)) (sym c.in-Some.ensures) ∙ bound))
