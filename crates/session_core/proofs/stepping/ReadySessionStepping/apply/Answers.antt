use Rattle.session_core.proofs.Replying.{ready-stepped}
use Rattle.session_core.proofs.stepping.ReadySessionStepping.apply.Goals as goal

pub returns : goal.returns
returns c = ready-stepped c.args.self.now c.apply.new.self c.args.event c.apply.result c.apply.ensures.answers
