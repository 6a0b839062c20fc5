use Rattle.std.proofs.Common.{refl, sym, subst, ◌∙◌}
use Rattle.rent_buf.specs.Buf.{built}
use Rattle.handle_core.specs.Table.{holders_at, without_user}
use Rattle.driver_core.specs.Holds.{settled}
use Rattle.ready_driver.specs.LegacyStands.{ReleasesFor, ReleasesIf}
use Rattle.ready_driver.specs.MemIo.{memory_view}
use Rattle.ready_run.proofs.Kept.{tokens-same}
use Rattle.ready_run.proofs.Polling.{single-as}
use Rattle.ready_run.proofs.Refusals.{cause-close}
use Rattle.ready_run.proofs.Single.{once-held, single-released}
use Rattle.ready_run.proofs.Steps.{answers-kept, answers-refused, same-ops}
use Rattle.ready_run.proofs.inner.Inner.close.Goals as goal

pub returns-then-not-user_holds : goal.returns-then-not-user_holds
returns-then-not-user_holds c = λ D stands. answers-refused c.args.self.now _ D _ _ stands
    (cause-close D c.args.h (sym (stands.driver.handles.users c.args.h) ∙ sym c.user_holds.ensures
    ∙ c.if-not-user_holds.true)) refl (tokens-same _)

pub returns : goal.returns
returns c = λ D stands.
    let old = c.args.self.now.driver in
    let new = c.close.new.self in
    let table = old.handling.table in
    let answers : ReleasesFor memory_view built D c.args.h (holders_at table c.args.h).user new =
    subst (λ h. ReleasesFor memory_view built D h (holders_at table h).user new) c.new.ensures
    (c.close.ensures.answers refl D stands.driver) in
    answers-kept c.args.self.now _ D _ _ stands (tokens-same _) tt
    (subst (λ b. ReleasesIf memory_view built D c.args.h b new)
    (once-held table c.args.h stands.single (sym c.user_holds.ensures ∙ c.if-not-user_holds.false)) answers)
    (λ single. single-as (settled table c.new.result (without_user (holders_at table c.new.result))) new.handling.table
    c.close.ensures.handles.holders (single-released table c.new.result single))
    (same-ops old new c.close.ensures.rest)
