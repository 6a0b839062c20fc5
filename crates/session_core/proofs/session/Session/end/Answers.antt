use Rattle.std.proofs.Common.{refl, sym, subst, ◌∙◌}
use Rattle.machine.specs.declared.ledger.Event.TheVariants.{End}
use Rattle.uring_driver.specs.Handles.{RefusedFor}
use Rattle.session_core.proofs.Refusals.{cause-end}
use Rattle.session_core.proofs.Single.{has-held, single-same}
use Rattle.ready_run.proofs.Kept.{tokens-same}
use Rattle.session_core.proofs.Steps.{answers-kept, answers-refused}
use Rattle.session_core.proofs.session.Session.end.Goals as goal

pub returns-then-not-has_handle : goal.returns-then-not-has_handle
returns-then-not-has_handle c = λ L stands. answers-refused c.args.self.now _ L _ _ stands
    (cause-end L c.args.h (sym (has-held c.args.self.now.driver L c.args.h stands.driver) ∙ sym c.has_handle.ensures
    ∙ c.if-not-has_handle.true)) refl (tokens-same _)

pub returns-in-Ok : goal.returns-in-Ok
returns-in-Ok c = λ L stands.
    answers-kept c.args.self.now _ L _ _ stands (tokens-same _) refl (c.in-Ok.ensures.answers L stands.driver)
    (λ none. c.in-Ok.ensures.due ∙ none)
    (single-same c.args.self.now.driver c.end.new.self c.in-Ok.ensures.rest.1.holding) c.in-Ok.ensures.tokens c.in-Ok.ensures.given

pub returns-in-Err : goal.returns-in-Err
returns-in-Err c = λ L stands. answers-refused c.args.self.now _ L _ _ stands
    (subst (λ why. RefusedFor L (End c.args.h) why) c.in-Err.ensures.memory (c.in-Err.ensures.answers L stands.driver))
    c.in-Err.ensures.err (tokens-same _)
