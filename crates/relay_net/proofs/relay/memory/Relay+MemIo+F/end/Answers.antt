use Rattle.std.proofs.Common.{subst, sym}
use Rattle.ready_driver.specs.LegacyState.{ops_in}
use Rattle.relay_net.specs.Relay.{IsSound}
use Rattle.relay_net.proofs.Feeds.{ended_kept}
use Rattle.relay_net.proofs.Marks.{all_still}
use Rattle.relay_net.proofs.relay.memory.Relay+MemIo+F.end.Goals as goal

pub invariant_of-self : goal.invariant_of-self
invariant_of-self g c = (
  subst (λ d. IsSound c.self.inside.state.room (ops_in d) d.handling.table c.self.inside.state.listener c.self.inside.state.accept
      c.self.inside.state.open.items) (sym c.end.ensures.rest) c.self.invariant.0,
  c.self.invariant.1,
  c.self.invariant.2,
  c.self.invariant.3,
  λ told. all_still c.self.inside.state.driver.handling.io.world c.end.new.self.handling.io.world c.self.inside.state.open.items
      (ended_kept c.self.inside.state.driver.handling.io.world c.end.new.self.handling.io.world c.args.h c.end.result
      c.end.ensures.ends) (c.self.invariant.4 told),
)
