use Rattle.std.proofs.Common.{◌∙◌}
use Rattle.session_core.proofs.Single.{single-same}
use Rattle.ready_run.proofs.Kept.{tokens-same}
use Rattle.session_core.proofs.Steps.{answers-executed, steps-unexecuted}
use Rattle.session_core.proofs.session.Session.execute.Goals as goal

pub returns-in-Ok : goal.returns-in-Ok
returns-in-Ok c = λ L stands. rw c.executed_reply.ensures (answers-executed c.args.self.now _ L c.args.place c.args.told c.in-Ok.executed
    stands (tokens-same _) (c.in-Ok.ensures.answers L stands.driver) (λ none. c.execute.ensures.due ∙ none)
    (single-same c.args.self.now.driver c.execute.new.self c.execute.ensures.handles) c.execute.ensures.tokens c.execute.ensures.given)

pub returns-in-Err : goal.returns-in-Err
returns-in-Err c = λ L stands. steps-unexecuted c.args.self.now _ L c.args.place c.args.told c.in-Err.why _ stands (tokens-same _)
    (c.in-Err.ensures.answers L stands.driver) c.in-Err.ensures.err c.refused_execution.ensures
