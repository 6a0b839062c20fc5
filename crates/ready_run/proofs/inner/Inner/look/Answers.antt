use Rattle.std.proofs.Common.{refl, sym, ◌∙◌}
use Rattle.ready_run.proofs.Kept.{tokens-same}
use Rattle.ready_run.proofs.Refusals.{cause-look, unrefused-look}
use Rattle.ready_run.proofs.Single.{has-held}
use Rattle.ready_run.proofs.Steps.{answers-looked, answers-refused}
use Rattle.ready_run.proofs.inner.Inner.look.Goals as goal

pub returns-then-not-has_handle : goal.returns-then-not-has_handle
returns-then-not-has_handle c = λ D stands. answers-refused c.args.self.now _ D _ _ stands
    (cause-look D c.args.h (sym (has-held c.args.self.now.driver D c.args.h stands.driver) ∙ sym c.has_handle.ensures
    ∙ c.if-not-has_handle.true)) refl (tokens-same _)

pub returns-in-Ok : goal.returns-in-Ok
returns-in-Ok c = λ D stands. answers-looked c.args.self.now D c.args.h c.in-Ok.look _ stands c.look_reply.ensures
    (c.in-Ok.ensures.answers D stands.driver)

pub returns-in-Err : goal.returns-in-Err
returns-in-Err c = λ D stands. record {
  stands = stands;
  unrefused = unrefused-look D c.args.h
      (sym (has-held c.args.self.now.driver D c.args.h stands.driver) ∙ sym c.has_handle.ensures ∙ c.if-not-has_handle.false);
}
