use Rattle.std.proofs.Common.{◌+◌, ◌-◌, length, None, refl, ◌∙◌, arith}
use Rattle.driver_core.specs.Requests.{request_in}
use Rattle.driver_core.proofs.Requests.{stays-on}
use Rattle.driver_core.specs.Slot.{KeepsNumbers}
use Rattle.uring_driver.specs.Reaps.{midway}
use Rattle.uring_driver.proofs.Treating.{room-fewer}
use Rattle.uring_driver.proofs.Treated.{reaps-none, reaps-on}
use Rattle.uring_driver.proofs.uring.turn.reap_all.Goals as goal

pub loop-i-init : goal.loop-i-init
loop-i-init g c = record {
  reaps = reaps-none g.R.Ring.view g.R.Ring.tells g.R.Ring.steady (midway c.args.ring.now c.args.ops.now c.args.handles.now)
      c.args.named.now;
  none_due = λ s h. h;
  room = room-fewer c.args.named.now _ _ c.requires.room (omega arith);
  numbers = λ key. refl;
  requests = λ op h k. refl;
  given = refl;
  sound = c.requires.sound;
  holding = c.requires.holding;
}

pub returns-in-Some-clause-reaps : goal.returns-in-Some-clause-reaps
returns-in-Some-clause-reaps g c = (
  c.loop-i.i + 1,
  (let below = c.loop-i-test.true in let ready = c.ready-ready.ensures in omega (arith, below, ready)),
  reaps-on g.R.Ring.view g.R.Ring.tells g.R.Ring.steady (midway c.args.ring.now c.args.ops.now c.args.handles.now)
      (midway c.loop-i.ring c.loop-i.ops c.loop-i.handles) (midway c.reap_one.new.ring c.reap_one.new.ops c.reap_one.new.handles)
      c.args.named.now c.loop-i.named c.reap_one.new.named c.loop-i.i 1 _ c.loop-i.invariant.reaps c.in-Some.ensures.reaps,
)

pub returns-in-Some-clause-requests : goal.returns-in-Some-clause-requests
returns-in-Some-clause-requests g c =
    stays-on request_in c.args.ops.now.slots.values c.loop-i.ops.slots.values c.reap_one.new.ops.slots.values
    c.loop-i.invariant.numbers c.loop-i.invariant.requests c.reap_one.ensures.requests

pub loop-i-preserved : goal.loop-i-preserved
loop-i-preserved g c =
    let view = g.R.Ring.view in
    let i = c.loop-i.i in
    let ready = length (view c.args.ring.now.ring).done in
    let below = c.loop-i-test.true in
    let same = c.ready-ready.ensures in
    let loop = c.loop-i.invariant in
    let one = c.reap_one.ensures in
    let keeps : KeepsNumbers c.args.ops.now.slots.values c.reap_one.new.ops.slots.values =
    λ key. one.numbers key ∙ loop.numbers key in
    record {
      reaps = reaps-on view g.R.Ring.tells g.R.Ring.steady (midway c.args.ring.now c.args.ops.now c.args.handles.now)
          (midway c.loop-i.ring c.loop-i.ops c.loop-i.handles) (midway c.reap_one.new.ring c.reap_one.new.ops c.reap_one.new.handles)
          c.args.named.now c.loop-i.named c.reap_one.new.named i 1 None loop.reaps c.in_default.ensures.reaps;
      none_due = λ always none. one.none_due always (loop.none_due always none);
      room = one.room (ready - (i + 1))
          (room-fewer c.loop-i.named (ready - i) (ready - (i + 1) + 1) loop.room (omega (arith, below, same)));
      numbers = keeps;
      requests = stays-on request_in c.args.ops.now.slots.values c.loop-i.ops.slots.values c.reap_one.new.ops.slots.values
          loop.numbers loop.requests one.requests;
      given = one.given ∙ loop.given;
      sound = one.sound;
      holding = one.holding;
    }
