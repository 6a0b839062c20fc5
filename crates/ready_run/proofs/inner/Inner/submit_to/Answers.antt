use Rattle.std.proofs.Common.{refl, ◌∙◌, ap}
use Rattle.ready_driver.specs.LegacyState.{holds_all}
use Rattle.ready_run.proofs.Kept.{tokens-same}
use Rattle.ready_run.proofs.Steps.{answers-refused, stands-same, steps-built}
use Rattle.ready_run.proofs.inner.Inner.submit_to.Goals as goal

pub returns-in-Some : goal.returns-in-Some
returns-in-Some c = λ D under stands is.
    answers-refused c.args.self.now _ D _ _ stands (c.in-Some.ensures.named D under stands is) refl (tokens-same _)

pub returns-then-given-ge-MOST_GIVEN : goal.returns-then-given-ge-MOST_GIVEN
returns-then-given-ge-MOST_GIVEN c = λ D under stands is.
    record { stands = stands; unrefused = c.refusal_of.ensures.named D under stands is ∙ c.in-None.is }

pub returns-then-is_err : goal.returns-then-is_err
returns-then-is_err c = λ D under stands is. record {
  stands = stands-same c.args.self.now _ D stands refl
      (record { ops = c.reserve_one.ensures.items; groups = c.reserve_one.ensures.groups });
  unrefused = c.refusal_of.ensures.named D under stands is ∙ c.in-None.is;
}

pub submit_built-requires-clause-held : goal.submit_built-requires-clause-held
submit_built-requires-clause-held c =
    ap (holds_all c.args.self.now.driver.handling.table) c.in-Ok.ensures.names ∙ c.in-None.ensures.held

pub returns-in-Ok : goal.returns-in-Ok
returns-in-Ok c = λ D under stands is. steps-built c.submit_built.new.self _ D _ _ c.args.group under c.submit_built.result
    c.submit_built.ensures.ok c.submit_built.ensures.err c.in-Ok.ensures.plain
    (stands-same c.args.self.now _ D stands refl
    (record { ops = c.reserve_one.ensures.items; groups = c.reserve_one.ensures.groups })) is
    (c.refusal_of.ensures.named D under stands is ∙ c.in-None.is)

pub returns-in-Err : goal.returns-in-Err
returns-in-Err c = λ D under stands is. record {
  stands = stands-same c.args.self.now _ D stands refl
      (record { ops = c.reserve_one.ensures.items; groups = c.reserve_one.ensures.groups });
  unrefused = c.refusal_of.ensures.named D under stands is ∙ c.in-None.is;
}
