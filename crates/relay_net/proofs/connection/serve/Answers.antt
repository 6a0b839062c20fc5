use Rattle.std.proofs.Common.{arith}
use Rattle.ready_driver.specs.LegacyState.{ops_in}
use Rattle.relay_net.specs.declared.connection.Served.TheVariants.{Open}
use Rattle.relay_net.proofs.Connections.{going_over, serves_closed, serves_then}
use Rattle.relay_net.proofs.Keyed.{keeps_then}
use Rattle.relay_net.proofs.Stepping.{both_forward}
use Rattle.relay_net.proofs.Seeing.{seen_then}
use Rattle.relay_net.proofs.connection.serve.Goals as goal

pub returns-in_default : goal.returns-in_default
returns-in_default g c =
    let given = c.step_forth.ensures.given in
    record {
      serves = c.step_forth.ensures.serves;
      over = going_over (ops_in c.step_forth.new.driver) c.step_forth.new.conn c.step_forth.result c.step_forth.ensures.going;
      given = omega (arith, given);
      keyed = c.step_forth.ensures.keyed;
      seen = c.step_forth.ensures.seen;
      forwards = λ memory can going on. absurd (c.in_default.not-Open on);
    }

pub returns-in_default-step_back : goal.returns-in_default-step_back
returns-in_default-step_back g c =
    let first = c.step_forth.ensures.given in
    let second = c.step_back.ensures.given in
    record {
      serves = serves_then g.I.NonBlock.view g.I.NonBlock.tells c.args.driver.now c.step_forth.new.driver c.step_back.new.driver
          c.args.conn.now c.step_forth.new.conn
          c.step_back.new.conn c.step_back.result c.in-Open.ensures.serves c.step_back.ensures.serves;
      over = going_over (ops_in c.step_back.new.driver) c.step_back.new.conn c.step_back.result c.step_back.ensures.going;
      given = omega (arith, first, second);
      keyed = keeps_then _ _ _ _ _ c.step_forth.ensures.keyed c.step_back.ensures.keyed;
      seen = seen_then g.I.NonBlock.view g.I.NonBlock.tells g.I.NonBlock.memory g.met.I.NonBlock.memory_tells c.args.driver.now
          c.step_forth.new.driver c.step_back.new.driver c.step_forth.ensures.serves.leaves.users
          (λ t h. (c.step_forth.ensures.serves.leaves.streams t h).0) c.step_forth.ensures.seen c.step_back.ensures.seen;
      forwards = λ memory can going on. absurd (c.in_default-step_back.not-Open on);
    }

pub returns-then-is_over-clause-serves : goal.returns-then-is_over-clause-serves
returns-then-is_over-clause-serves g c =
    serves_closed g.I.NonBlock.view g.I.NonBlock.tells c.args.driver.now c.step_back.new.driver c.args.conn.now c.step_back.new.conn
    (serves_then g.I.NonBlock.view g.I.NonBlock.tells c.args.driver.now c.step_forth.new.driver c.step_back.new.driver c.args.conn.now
    c.step_forth.new.conn
    c.step_back.new.conn Open c.in-Open.ensures.serves c.in-Open-step_back.ensures.serves)

pub returns-clause-serves : goal.returns-clause-serves
returns-clause-serves g c =
    serves_then g.I.NonBlock.view g.I.NonBlock.tells c.args.driver.now c.step_forth.new.driver c.step_back.new.driver c.args.conn.now
    c.step_forth.new.conn
    c.step_back.new.conn Open c.in-Open.ensures.serves c.in-Open-step_back.ensures.serves

pub returns-then-is_over-clause-keyed : goal.returns-then-is_over-clause-keyed
returns-then-is_over-clause-keyed g c =
    keeps_then _ _ _ _ _ c.step_forth.ensures.keyed c.step_back.ensures.keyed

pub returns-clause-keyed : goal.returns-clause-keyed
returns-clause-keyed g c =
    keeps_then _ _ _ _ _ c.step_forth.ensures.keyed c.step_back.ensures.keyed

pub returns-then-is_over-clause-seen : goal.returns-then-is_over-clause-seen
returns-then-is_over-clause-seen g c =
    seen_then g.I.NonBlock.view g.I.NonBlock.tells g.I.NonBlock.memory g.met.I.NonBlock.memory_tells c.args.driver.now
    c.step_forth.new.driver c.step_back.new.driver c.step_forth.ensures.serves.leaves.users
    (λ t h. (c.step_forth.ensures.serves.leaves.streams t h).0) c.step_forth.ensures.seen c.step_back.ensures.seen

pub returns-clause-seen : goal.returns-clause-seen
returns-clause-seen g c =
    seen_then g.I.NonBlock.view g.I.NonBlock.tells g.I.NonBlock.memory g.met.I.NonBlock.memory_tells c.args.driver.now
    c.step_forth.new.driver c.step_back.new.driver c.step_forth.ensures.serves.leaves.users
    (λ t h. (c.step_forth.ensures.serves.leaves.streams t h).0) c.step_forth.ensures.seen c.step_back.ensures.seen

pub returns-clause-forwards : goal.returns-clause-forwards
returns-clause-forwards g c =
    both_forward g.I.NonBlock.view g.I.NonBlock.tells g.I.NonBlock.memory g.met.I.NonBlock.memory_tells c.args.driver.now
    c.step_forth.new.driver c.step_back.new.driver c.args.conn.now c.step_forth.new.conn
    c.step_back.new.conn Open c.in-Open.ensures.serves c.in-Open.ensures.forwards c.step_forth.ensures.seen
    c.in-Open-step_back.ensures.serves c.in-Open-step_back.ensures.forwards c.requires.near c.requires.far
