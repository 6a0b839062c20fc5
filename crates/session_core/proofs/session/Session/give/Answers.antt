use Rattle.std.proofs.Common.{refl, ◌∙◌}
use Rattle.session_core.proofs.Single.{single-adopted, single-reserved}
use Rattle.ready_run.proofs.Kept.{tokens-same}
use Rattle.session_core.proofs.Steps.{answers-kept, stands-kept}
use Rattle.session_core.proofs.session.Session.give.Goals as goal

pub returns-in-Ok : goal.returns-in-Ok
returns-in-Ok c = λ L stands.
    answers-kept c.args.self.now _ L _ _ stands (tokens-same _) refl (rw c.number.ensures (c.in-Ok.ensures.answers L stands.driver))
    (λ none. c.give.ensures.due ∙ none) (single-adopted c.args.self.now.driver c.give.new.self _ c.in-Ok.ensures.handles)
    c.give.ensures.tokens c.give.ensures.given

pub returns-in-Err : goal.returns-in-Err
returns-in-Err c = λ L stands. record {
  stands = stands-kept c.args.self.now _ L L stands (tokens-same _) refl (c.in-Err.ensures.stands L stands.driver)
      (λ none. c.give.ensures.due ∙ none)
      (single-reserved c.args.self.now.driver c.give.new.self c.in-Err.ensures.err.1) c.give.ensures.tokens c.give.ensures.given;
  unrefused = refl;
}
