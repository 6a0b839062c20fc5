use Rattle.std.proofs.Common.{subst}
use Rattle.driver_core.specs.Requests.{request_in, StaysHeld}
use Rattle.uring_driver.proofs.Wholes.{stopped}
use Rattle.uring_driver.proofs.Parks.{drains_for_treated, waits_for, waits_for_stopped}
use Rattle.uring_driver.proofs.uring.park.park_for.Goals as goal

pub returns-in-Ok-clause-turns : goal.returns-in-Ok-clause-turns
returns-in-Ok-clause-turns g c = (c.end_turn-turned.ensures.meets c.args.driver.now c.in-Ok.ensures.ok).0

pub returns-in-Ok-clause-keeps : goal.returns-in-Ok-clause-keeps
returns-in-Ok-clause-keeps g c =
    subst (λ slots. StaysHeld request_in slots c.end_turn-turned.new.self.slots.values) c.in-Ok.ensures.ok.same.slots
    c.end_turn-turned.ensures.requests

pub returns-in-Ok-clause-drains : goal.returns-in-Ok-clause-drains
returns-in-Ok-clause-drains g c =
    let ends = c.end_turn-turned.ensures.meets c.args.driver.now c.in-Ok.ensures.ok in
    let park = c.park-remote.ensures in
    drains_for_treated g.R.Ring.view g.R.Ring.tells c.args.driver.now c.end_turn-turned.new.self c.end_turn-turned.result ends.0.queued
    c.end_turn-turned.result.stop ends.0.treats c.is_ready-ready.result c.args.limit c.args.sleeper.now c.park-remote.new.self
    c.park-remote.result (rw c.is_ready-ready.ensures ends.1) c.end_turn-turned.ensures.treated
    (record { first = park.given.0; again = park.given.1; waits = park.waited })

pub returns-in-Ok-clause-parks : goal.returns-in-Ok-clause-parks
returns-in-Ok-clause-parks g c =
    let ends = c.end_turn-turned.ensures.meets c.args.driver.now c.in-Ok.ensures.ok in
    record {
      turns = ends.0;
      waits =
          waits_for g.R.Ring.view g.R.Ring.tells c.args.driver.now c.end_turn-turned.new.self _ ends.0.queued
          c.end_turn-turned.result.stop ends.0.treats c.is_ready-ready.result c.args.limit c.park-remote.new.self
          (rw c.is_ready-ready.ensures ends.1) c.park-remote.ensures.waited;
    }

pub returns-in-Err-clause-turns : goal.returns-in-Err-clause-turns
returns-in-Err-clause-turns g c =
    stopped g.R.Ring.view g.B.IoBufMut.buffer g.R.Ring.tells g.R.Ring.steady c.args.driver.now c.begin_turn.new.self c.stop-turned.result
    c.in-Err.stop c.in-Err.ensures.err c.stop-turned.ensures.reaped c.stop-turned.ensures.closed c.stop-turned.ensures.woken
    c.stop-turned.ensures.stop

pub returns-in-Err-clause-parks : goal.returns-in-Err-clause-parks
returns-in-Err-clause-parks g c =
    let turns = stopped g.R.Ring.view g.B.IoBufMut.buffer g.R.Ring.tells g.R.Ring.steady c.args.driver.now c.begin_turn.new.self
    c.stop-turned.result c.in-Err.stop c.in-Err.ensures.err c.stop-turned.ensures.reaped c.stop-turned.ensures.closed
    c.stop-turned.ensures.woken c.stop-turned.ensures.stop in
    record {
      turns = turns;
      waits = waits_for_stopped g.R.Ring.view g.R.Ring.tells c.args.driver.now c.begin_turn.new.self c.stop-turned.result turns.queued
          c.stop-turned.result.stop turns.treats c.in-Err.stop c.args.limit _ _ c.stop-turned.ensures.stop;
    }
