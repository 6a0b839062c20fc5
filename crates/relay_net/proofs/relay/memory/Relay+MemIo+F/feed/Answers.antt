use Rattle.std.proofs.Common.{rules, ℕ, ◌≡◌, ◌++◌, true, length, subst, sym}
use Rattle.std.specs.Prelude.{OnOk, List, nat_lt}
use Rattle.relay_net.specs.Flow.{line}
use Rattle.ready_driver.specs.LegacyState.{ops_in}
use Rattle.relay_net.specs.Relay.{IsSound}
use Rattle.relay_net.proofs.Feeds.{fed_kept, feeds_line}
use Rattle.relay_net.proofs.Marks.{all_still}
use Rattle.relay_net.proofs.relay.memory.Relay+MemIo+F.feed.Goals as goal

pub returns-clause-line : goal.returns-clause-line
returns-clause-line g c =
    let driver : c.args.self.now.driver ≡ c.self.inside.state.driver = search rules in
    let within : nat_lt c.args.h (length c.self.inside.state.driver.handling.io.world) ≡ true = search rules in
    subst (λ d. OnOk c.feed.result ((to : ℕ) (held : List ℕ) → line c.feed.new.self.handling.io.world c.args.h to held
    ≡ line d.handling.io.world c.args.h to held ++ c.args.bytes.now)) (sym driver)
    (feeds_line c.self.inside.state.driver.handling.io.world c.feed.new.self.handling.io.world c.args.h c.args.bytes.now c.feed.result
    within c.feed.ensures.feeds)

pub invariant_of-self : goal.invariant_of-self
invariant_of-self g c = (
  subst (λ d. IsSound c.self.inside.state.room (ops_in d) d.handling.table c.self.inside.state.listener c.self.inside.state.accept
      c.self.inside.state.open.items) (sym c.feed.ensures.rest) c.self.invariant.0,
  c.self.invariant.1,
  c.self.invariant.2,
  c.self.invariant.3,
  λ told. all_still c.self.inside.state.driver.handling.io.world c.feed.new.self.handling.io.world c.self.inside.state.open.items
      (fed_kept c.args.bytes.now c.self.inside.state.driver.handling.io.world c.feed.new.self.handling.io.world c.args.h c.feed.result
      c.feed.ensures.feeds) (c.self.invariant.4 told),
)
