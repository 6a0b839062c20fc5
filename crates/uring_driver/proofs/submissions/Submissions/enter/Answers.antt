use Rattle.uring_driver.proofs.Entering.{enters-on}
use Rattle.uring_driver.proofs.submissions.Submissions.enter.Goals as goal

pub returns-clause-enters : goal.returns-clause-enters
returns-clause-enters g c =
    enters-on g.R.Ring.view g.R.Ring.tells c.args.self.now c.flush.new.out c.enter_ring.new.self c.in_ok-flush.ensures.told
    c.flush.ensures.enters c.enter_ring.ensures.enters
