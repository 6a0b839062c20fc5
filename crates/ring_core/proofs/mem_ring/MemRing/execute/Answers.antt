use Rattle.std.proofs.Common.{◌≡◌, sym, subst}
use Rattle.ring_core.specs.Flights.{InFlight}
use Rattle.ring_core.specs.MemRing.{IsExecuted, completed}
use Rattle.ring_core.proofs.Executed.{run-executed}
use Rattle.ring_core.proofs.mem_ring.MemRing.execute.Goals as goal

pub returns-in-Ok-clause-executes : goal.returns-in-Ok-clause-executes
returns-in-Ok-clause-executes g c =
    subst (λ old. IsExecuted g.P.Payloads.offered g.P.Payloads.stores old c.args.place c.args.told c.complete.new.self c.args.payloads.now
    c.carry_out.new.payloads c.complete.result)
    c.self.view_is
    (run-executed _ _ _ _ c.carry_out.new.world _ _ _ _ c.in-Some.flight c.in-Ok.outcome _
    (sym c.in-Some.ensures.value) c.if-flight.false c.in-Ok.ensures.runs
    (subst (λ (f : InFlight). c.complete.new.self ≡ completed (record {
      capacity = c.self.inside.entries;
      queue = c.self.inside.queue.items;
      flying = f.flights;
      done = c.self.inside.done.items;
      world = c.carry_out.new.world;
      spare = c.self.inside.spare;
      faults = 0;
      busies = 0;
      to_come = 0;
    }) c.args.place c.in-Some.flight.entry c.in-Ok.outcome) c.in-Some.ensures.same c.complete.ensures.ring)
    c.complete.ensures.answer)
