use Rattle.driver_core.proofs.Placing.{left-again}
use Rattle.driver_core.proofs.members.Members.enroll.Goals as goal

pub returns-in-Some-clause-again : goal.returns-in-Some-clause-again
returns-in-Some-clause-again c =
    left-again c.join.result c.args.self.now c.join.new.self c.in-Some.g c.args.number 0 c.join.ensures.placed c.requires.apart
    c.join.ensures.ok
