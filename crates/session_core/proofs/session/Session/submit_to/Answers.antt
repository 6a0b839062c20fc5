use Rattle.std.proofs.Common.{refl, ◌∙◌, ap}
use Rattle.uring_driver.specs.Uring.{holds_all}
use Rattle.ready_run.proofs.Kept.{tokens-same}
use Rattle.session_core.proofs.Steps.{answers-refused, stands-same, steps-built}
use Rattle.session_core.proofs.session.Session.submit_to.Goals as goal

pub returns-in-Some : goal.returns-in-Some
returns-in-Some c = λ L under stands is.
    answers-refused c.args.self.now _ L _ _ stands (c.in-Some.ensures.named L under c.args.linked stands is) refl (tokens-same _)

pub returns-then-given-ge-MOST_GIVEN : goal.returns-then-given-ge-MOST_GIVEN
returns-then-given-ge-MOST_GIVEN c = λ L under stands is.
    record { stands = stands; unrefused = c.refusal_of.ensures.named L under c.args.linked stands is ∙ c.in-None.is }

pub returns-then-is_err : goal.returns-then-is_err
returns-then-is_err c = λ L under stands is. record {
  stands = stands-same c.args.self.now _ L stands refl
      (record { ops = c.reserve_one.ensures.items; groups = c.reserve_one.ensures.groups });
  unrefused = c.refusal_of.ensures.named L under c.args.linked stands is ∙ c.in-None.is;
}

pub submit_built-requires-clause-held : goal.submit_built-requires-clause-held
submit_built-requires-clause-held c = ap (holds_all c.args.self.now.driver) c.in-Ok.ensures.names ∙ c.in-None.ensures.held

pub returns-in-Ok : goal.returns-in-Ok
returns-in-Ok c = λ L under stands is. steps-built _ c.submit_built.new.self L _ _ c.args.group under c.args.linked c.submit_built.result
    c.submit_built.ensures.ok c.submit_built.ensures.err c.in-Ok.ensures.plain
    (stands-same c.args.self.now _ L stands refl
    (record { ops = c.reserve_one.ensures.items; groups = c.reserve_one.ensures.groups })) is
    (c.refusal_of.ensures.named L under c.args.linked stands is ∙ c.in-None.is)

pub returns-in-Err : goal.returns-in-Err
returns-in-Err c = λ L under stands is. record {
  stands = stands-same c.args.self.now _ L stands refl
      (record { ops = c.reserve_one.ensures.items; groups = c.reserve_one.ensures.groups });
  unrefused = c.refusal_of.ensures.named L under c.args.linked stands is ∙ c.in-None.is;
}
