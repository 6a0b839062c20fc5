use Rattle.std.proofs.Common.{subst}
use Rattle.driver_core.specs.Requests.{request_in, StaysHeld}
use Rattle.uring_driver.proofs.Wholes.{stopped, turn_stands}
use Rattle.uring_driver.proofs.uring.park.IoUringDriverDriver.submit.Goals as goal

pub returns-in-Ok : goal.returns-in-Ok
returns-in-Ok g c =
    let meets = (c.end_turn.ensures.meets c.args.self.now c.in-Ok.ensures.ok).0 in
    record {
      turns = meets;
      keeps = subst (λ slots. StaysHeld request_in slots c.end_turn.new.self.slots.values) c.in-Ok.ensures.ok.same.slots
          c.end_turn.ensures.requests;
      stands = turn_stands g.R.Ring.view g.B.IoBufMut.buffer g.R.Ring.tells g.R.Ring.steady g.met.R.Ring.steady_tells _ _ _ meets;
    }

pub returns-in-Err-clause-turns : goal.returns-in-Err-clause-turns
returns-in-Err-clause-turns g c =
    stopped g.R.Ring.view g.B.IoBufMut.buffer g.R.Ring.tells g.R.Ring.steady c.args.self.now c.begin_turn.new.self c.stop.result
    c.in-Err.stop c.in-Err.ensures.err c.stop.ensures.reaped c.stop.ensures.closed c.stop.ensures.woken c.stop.ensures.stop
