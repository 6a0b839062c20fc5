use Rattle.std.proofs.Common.{arith, ap, length}
use Rattle.uring_driver.proofs.Entering.{enters-on, still-on}
use Rattle.uring_driver.proofs.submissions.flush.Goals as goal

pub returns-in_err-push_first-clause-enters : goal.returns-in_err-push_first-clause-enters
returns-in_err-push_first-clause-enters g c =
    enters-on g.R.Ring.view g.R.Ring.tells c.args.out.now c.loop-i.out c.push_first.new.self (λ t fits. (c.loop-i.invariant.fits fits).1 t)
    c.loop-i.invariant.enters c.push_first.ensures.enters

pub loop-i-preserved : goal.loop-i-preserved
loop-i-preserved g c = record {
  same = λ none. absurd (let z = ap length none in omega (arith, z, c.due-count.ensures, c.loop-i.auto, c.loop-i.invariant.left));
  left = omega (arith, c.loop-i.invariant.left, c.in_ok-push_first.ensures.one);
  enters =
      enters-on g.R.Ring.view g.R.Ring.tells c.args.out.now c.loop-i.out c.push_first.new.self
      (λ t fits. (c.loop-i.invariant.fits fits).1 t) c.loop-i.invariant.enters c.push_first.ensures.enters;
  fits =
      still-on g.R.Ring.view g.R.Ring.tells c.args.out.now c.loop-i.out c.push_first.new.self c.loop-i.invariant.enters.later
      c.loop-i.invariant.fits c.in_ok-push_first.ensures.fits;
}
