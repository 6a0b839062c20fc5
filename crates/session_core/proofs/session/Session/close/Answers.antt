use Rattle.std.proofs.Common.{refl, sym, subst, ◌∙◌}
use Rattle.rent_buf.specs.Buf.{built}
use Rattle.uring_driver.specs.Released.{ReleasesFor, ReleasesIf}
use Rattle.uring_driver.specs.Holding.{user_count}
use Rattle.uring_driver.specs.Uring.{holding_in}
use Rattle.session_core.proofs.Refusals.{cause-close}
use Rattle.session_core.proofs.Single.{once-held, single-released}
use Rattle.ready_run.proofs.Kept.{tokens-same}
use Rattle.session_core.proofs.Steps.{answers-kept, answers-refused}
use Rattle.session_core.proofs.session.Session.close.Goals as goal

pub returns-then-not-user_holds : goal.returns-then-not-user_holds
returns-then-not-user_holds c = λ L stands. answers-refused c.args.self.now _ L _ _ stands
    (cause-close L c.args.h (sym (stands.driver.handles.holders.users c.args.h) ∙ sym c.user_holds.ensures
    ∙ c.if-not-user_holds.true)) refl (tokens-same _)

pub returns : goal.returns
returns c = λ L stands.
    let old = c.args.self.now.driver in
    let new = c.close.new.self in
    let answers : ReleasesFor (λ r. r) built L c.args.h (user_count (holding_in old) c.args.h) new =
    subst (λ h. ReleasesFor (λ r. r) built L h (user_count (holding_in old) h) new) c.new.ensures
    (c.close.ensures.answers refl L stands.driver) in
    answers-kept c.args.self.now _ L _ _ stands (tokens-same _) refl
    (subst (λ b. ReleasesIf (λ r. r) built L c.args.h b new)
    (once-held old c.args.h stands.single (sym c.user_holds.ensures ∙ c.if-not-user_holds.false)) answers)
    (c.close.ensures.none_due refl) (single-released old new c.new.result c.close.ensures.handles)
    c.close.ensures.tokens c.close.ensures.ops.given
