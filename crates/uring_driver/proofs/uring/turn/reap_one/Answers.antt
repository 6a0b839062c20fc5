use Rattle.uring_driver.specs.Reaps.{midway}
use Rattle.uring_driver.proofs.Treated.{reaps-one}
use Rattle.uring_driver.proofs.uring.turn.reap_one.Goals as goal

pub returns-clause-reaps : goal.returns-clause-reaps
returns-clause-reaps g c =
    reaps-one g.R.Ring.view g.R.Ring.tells g.R.Ring.steady
    (midway c.args.ring.now c.args.ops.now c.args.handles.now) (midway c.treat.new.ring c.treat.new.ops c.treat.new.handles)
    (midway c.next.new.self c.args.ops.now c.args.handles.now) c.args.named.now c.treat.new.named c.in-Some.completion c.treat.result
    c.in-Some.ensures.next c.next.ensures.due c.next.ensures.room c.treat.ensures.posts c.treat.ensures.treats
