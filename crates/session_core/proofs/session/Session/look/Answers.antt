use Rattle.std.proofs.Common.{refl, sym, ◌∙◌}
use Rattle.session_core.proofs.Refusals.{cause-look, unrefused-look}
use Rattle.session_core.proofs.Single.{has-held}
use Rattle.ready_run.proofs.Kept.{tokens-same}
use Rattle.session_core.proofs.Steps.{answers-looked, answers-refused}
use Rattle.session_core.proofs.session.Session.look.Goals as goal

pub returns-then-not-has_handle : goal.returns-then-not-has_handle
returns-then-not-has_handle c = λ L stands. answers-refused c.args.self.now _ L _ _ stands
    (cause-look L c.args.h (sym (has-held c.args.self.now.driver L c.args.h stands.driver) ∙ sym c.has_handle.ensures
    ∙ c.if-not-has_handle.true)) refl (tokens-same _)

pub returns-in-Ok : goal.returns-in-Ok
returns-in-Ok c = λ L stands. answers-looked c.args.self.now L c.args.h c.in-Ok.look _ stands c.look_reply.ensures
    (c.in-Ok.ensures.answers L stands.driver)

pub returns-in-Err : goal.returns-in-Err
returns-in-Err c = λ L stands. record {
  stands = stands;
  unrefused = unrefused-look L c.args.h
      (sym (has-held c.args.self.now.driver L c.args.h stands.driver) ∙ sym c.has_handle.ensures ∙ c.if-not-has_handle.false);
}
