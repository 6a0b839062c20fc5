use Rattle.session_core.proofs.Parts.{parts_executed}
use Rattle.session_tests.proofs.tests.sessions.execute_first.Goals as goal

pub returns : goal.returns
returns c = parts_executed c.args.driver.now c.execute.new.self c.args.tokens.now _ _ c.execute.result c.requires c.execute.ensures.answers
    c.execute.ensures.err c.execute.ensures.handles c.execute.ensures.due c.execute.ensures.tokens c.execute.ensures.given
