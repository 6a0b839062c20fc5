use Rattle.std.proofs.Common.{◌++◌, [], ◌∷◌, Some, length, refl, ◌∙◌, ap}
use Rattle.uring_driver.specs.Uring.{due_in, given_by, holding_in}
use Rattle.session_core.proofs.Canceling.{answers-canceller}
use Rattle.session_core.proofs.Single.{single-same}
use Rattle.session_core.proofs.Steps.{stands-same}
use Rattle.session_core.proofs.session.Session.new_canceller.Goals as goal

pub returns-then-is_err : goal.returns-then-is_err
returns-then-is_err c = λ L stands. record {
  stands = stands-same c.args.self.now _ L stands refl
      (record { ops = c.reserve_canceller.ensures.ops; groups = c.reserve_canceller.ensures.groups });
  unrefused = refl;
}

pub returns-in-Ok : goal.returns-in-Ok
returns-in-Ok c = λ L stands.
    let reserved = c.reserve_canceller.ensures.groups in
    let made = c.in-Ok.ensures.made in
    answers-canceller c.args.self.now _ L c.in-Ok.canceller c.add_canceller.result stands
    (c.add_canceller.ensures.ops ∙ c.reserve_canceller.ensures.ops)
    (c.add_canceller.ensures.added ∙ ap (λ xs. xs ++ Some c.in-Ok.canceller ∷ []) reserved.cancellers)
    (c.add_canceller.ensures.handles ∙ reserved.handles)
    (c.add_canceller.ensures.number ∙ ap (λ xs. length xs) reserved.cancellers)
    (c.in-Ok.ensures.answers L stands.driver) (λ none. ap (λ d. due_in d) made ∙ none)
    (single-same c.args.self.now.driver c.new_canceller.new.self (ap (λ d. holding_in d) made))
    c.new_canceller.ensures.tokens (ap (λ d. given_by d) made)

pub returns-in-Err : goal.returns-in-Err
returns-in-Err c = λ L stands. record {
  stands = stands-same c.args.self.now _ L stands c.in-Err.ensures.err
      (record { ops = c.reserve_canceller.ensures.ops; groups = c.reserve_canceller.ensures.groups });
  unrefused = refl;
}
