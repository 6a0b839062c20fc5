use Rattle.uring_driver.proofs.Entering.{enters-on}
use Rattle.uring_driver.proofs.submissions.Submissions.make_way.Goals as goal

pub returns-clause-enters : goal.returns-clause-enters
returns-clause-enters g c =
    enters-on g.R.Ring.view g.R.Ring.tells c.args.self.now c.flush.new.out c.make_room.new.self c.in_ok-flush.ensures.told
    c.flush.ensures.enters c.make_room.ensures.enters
