use Rattle.std.proofs.Common.{◌∙◌}
use Rattle.ready_driver.specs.LegacyState.{ops_in}
use Rattle.ready_driver.proofs.Still.{later-then}
use Rattle.relay_net.proofs.Relays.{served_last, served_rest}
use Rattle.relay_net.proofs.relay.ending.end_each.Goals as goal

pub end-requires-clause-fits : goal.end-requires-clause-fits
end-requires-clause-fits g c =
    (served_last (ops_in c.loop-conn.driver) c.loop-conn.driver.handling.table c.args.listener c.loop-conn.conns.items
    c.pop.new.self.items c.in-Some.conn c.in-Some.ensures.items c.loop-conn.invariant.served).fits

pub end-requires-clause-near : goal.end-requires-clause-near
end-requires-clause-near g c =
    (served_last (ops_in c.loop-conn.driver) c.loop-conn.driver.handling.table c.args.listener c.loop-conn.conns.items
    c.pop.new.self.items c.in-Some.conn c.in-Some.ensures.items c.loop-conn.invariant.served).near

pub end-requires-clause-far : goal.end-requires-clause-far
end-requires-clause-far g c =
    (served_last (ops_in c.loop-conn.driver) c.loop-conn.driver.handling.table c.args.listener c.loop-conn.conns.items
    c.pop.new.self.items c.in-Some.conn c.in-Some.ensures.items c.loop-conn.invariant.served).far

pub loop-conn-preserved : goal.loop-conn-preserved
loop-conn-preserved g c = record {
  served = served_rest g.I.NonBlock.view g.I.NonBlock.tells c.loop-conn.driver c.end.new.driver c.args.listener c.loop-conn.conns.items
      c.pop.new.self.items
      c.in-Some.conn c.in-Some.ensures.items c.loop-conn.invariant.served c.end.ensures.ends;
  later = later-then (g.I.NonBlock.view c.args.driver.now.handling.io) (g.I.NonBlock.view c.loop-conn.driver.handling.io)
      (g.I.NonBlock.view c.end.new.driver.handling.io) c.loop-conn.invariant.later c.end.ensures.ends.later;
  made = c.end.ensures.ends.made ∙ c.loop-conn.invariant.made;
}
