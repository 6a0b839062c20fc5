use Rattle.std.proofs.Common.{refl, sym, ◌∙◌}
use Rattle.ready_run.proofs.Kept.{tokens-same}
use Rattle.ready_run.proofs.Refusals.{cause-end}
use Rattle.ready_run.proofs.Single.{has-held}
use Rattle.ready_run.proofs.Steps.{answers-kept, answers-refused, answers-unended, keeps-world, single-world}
use Rattle.ready_run.proofs.inner.Inner.end.Goals as goal

pub returns-then-not-has_handle : goal.returns-then-not-has_handle
returns-then-not-has_handle c = λ D stands. answers-refused c.args.self.now _ D _ _ stands
    (cause-end D c.args.h (sym (has-held c.args.self.now.driver D c.args.h stands.driver) ∙ sym c.has_handle.ensures
    ∙ c.if-not-has_handle.true)) refl (tokens-same _)

pub returns-in-Ok : goal.returns-in-Ok
returns-in-Ok c = λ D stands.
    let old = c.args.self.now.driver in
    let new = c.end.new.self in
    answers-kept c.args.self.now _ D _ _ stands (tokens-same _) tt (c.in-Ok.ensures.answers D stands.driver)
    (single-world old new new.handling.io c.end.ensures.rest) (keeps-world old new new.handling.io c.end.ensures.rest)

pub returns-in-Err : goal.returns-in-Err
returns-in-Err c = λ D stands.
    let old = c.args.self.now.driver in
    let new = c.end.new.self in
    answers-unended c.args.self.now _ D c.args.h c.in-Err.field-0 stands (tokens-same _) (c.in-Err.ensures.answers D stands.driver)
    c.in-Err.ensures.ends
    (single-world old new new.handling.io c.end.ensures.rest) (keeps-world old new new.handling.io c.end.ensures.rest)
