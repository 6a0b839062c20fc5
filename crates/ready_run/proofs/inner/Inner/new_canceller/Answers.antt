use Rattle.std.proofs.Common.{◌++◌, [], ◌∷◌, Some, length, refl, ◌∙◌, ap}
use Rattle.ready_run.proofs.Canceling.{answers-canceller}
use Rattle.ready_run.proofs.Polling.{single-as}
use Rattle.ready_run.proofs.Steps.{keeps-members, stands-same}
use Rattle.ready_run.proofs.inner.Inner.new_canceller.Goals as goal

pub returns-then-is_err : goal.returns-then-is_err
returns-then-is_err c = λ D stands. record {
  stands = stands-same c.args.self.now _ D stands refl
      (record { ops = c.reserve_canceller.ensures.ops; groups = c.reserve_canceller.ensures.groups });
  unrefused = refl;
}

pub returns-in-Ok : goal.returns-in-Ok
returns-in-Ok c = λ D stands.
    let old = c.args.self.now.driver in
    let new = c.new_canceller.new.self in
    let reserved = c.reserve_canceller.ensures.groups in
    let made = c.in-Ok.ensures.made in
    answers-canceller c.args.self.now _ D c.in-Ok.canceller c.add_canceller.result stands
    (c.add_canceller.ensures.ops ∙ c.reserve_canceller.ensures.ops)
    (c.add_canceller.ensures.added ∙ ap (λ xs. xs ++ Some c.in-Ok.canceller ∷ []) reserved.cancellers)
    (c.add_canceller.ensures.handles ∙ reserved.handles)
    (c.add_canceller.ensures.number ∙ ap (λ xs. length xs) reserved.cancellers)
    (c.in-Ok.ensures.answers refl D stands.driver)
    (single-as old.handling.table new.handling.table (ap (λ d. d.handling.table) made)) (keeps-members old new _ made)

pub returns-in-Err : goal.returns-in-Err
returns-in-Err c = λ D stands. record {
  stands = stands-same c.args.self.now _ D stands c.in-Err.ensures.err
      (record { ops = c.reserve_canceller.ensures.ops; groups = c.reserve_canceller.ensures.groups });
  unrefused = refl;
}
