use Rattle.session_core.proofs.Parts.{parts_turned}
use Rattle.session_tests.proofs.tests.sessions.reap.Goals as goal

pub returns : goal.returns
returns c = parts_turned c.args.driver.now c.submit.new.self c.args.tokens.now c.submit.result c.requires c.submit.ensures.turns
