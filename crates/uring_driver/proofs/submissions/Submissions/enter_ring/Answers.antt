use Rattle.uring_driver.proofs.Entering.{enters-ring}
use Rattle.uring_driver.proofs.submissions.Submissions.enter_ring.Goals as goal

pub returns-clause-enters : goal.returns-clause-enters
returns-clause-enters g c =
    enters-ring g.R.Ring.view g.R.Ring.tells c.args.self.now _ c.enter.new.self c.enter.result c.self.view_is c.enter.ensures.enters
