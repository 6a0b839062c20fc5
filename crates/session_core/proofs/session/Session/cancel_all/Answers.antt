use Rattle.std.proofs.Common.{◌≡◌, Some, None, refl, sym, ◌∙◌, ap, arith}
use Rattle.std.proofs.lemmas.Option.{slice_get_within}
use Rattle.machine.specs.Lists.{amended}
use Rattle.uring_driver.specs.Uring.{given_by, holding_in}
use Rattle.driver_core.specs.Tokens.{token_at, cancellers_in}
use Rattle.session_core.proofs.Canceling.{answers-cancels, canceller-at, canceller-made, canceller-none}
use Rattle.driver_core.proofs.KeptTokens.{emptied-none, put-taken}
use Rattle.session_core.proofs.Refusals.{cause-cancel_all, unrefused-cancel_all}
use Rattle.session_core.proofs.Single.{single-same}
use Rattle.session_core.proofs.Steps.{answers-refused, stands-kept}
use Rattle.session_core.proofs.session.Session.cancel_all.Goals as goal

pub returns-in-None : goal.returns-in-None
returns-in-None c = λ L stands.
    let none : token_at (cancellers_in c.args.self.now.tokens) c.args.c ≡ None = sym c.in-None.ensures.value in
    answers-refused c.args.self.now _ L _ _ stands
    (cause-cancel_all L c.args.c (canceller-none c.args.self.now L c.args.c stands none)) refl
    (record {
      ops = c.take_canceller.ensures.ops;
      groups = record {
        cancellers = c.take_canceller.ensures.rest ∙ emptied-none (cancellers_in c.args.self.now.tokens) c.args.c none;
        handles = c.take_canceller.ensures.handles;
      };
    })

pub returns-then-group-groups : goal.returns-then-group-groups
returns-then-group-groups c = λ L stands. absurd (
    let made = canceller-made c.args.self.now L c.args.c _ stands (sym c.in-Some.ensures.value) in
    omega (arith, made))

pub returns-in-Ok : goal.returns-in-Ok
returns-in-Ok c = λ L stands.
    let marked = c.in-Ok.ensures.marked in
    answers-cancels c.args.self.now _ L c.args.c c.in-Some.canceller c.in-Ok.fresh c.in-Ok.numbers stands
    (c.put_canceller.ensures.ops ∙ c.take_canceller.ensures.ops)
    (c.put_canceller.ensures.put
    ∙ ap (λ xs. amended xs c.args.c (λ place. Some c.in-Ok.fresh)) c.take_canceller.ensures.rest)
    (c.put_canceller.ensures.handles ∙ c.take_canceller.ensures.handles) (sym c.in-Some.ensures.value)
    (c.in-Ok.ensures.answers refl L stands.driver) (c.cancel.ensures.none_due refl)
    (single-same c.args.self.now.driver c.cancel.new.self (ap (λ d. holding_in d) marked)) c.cancel.ensures.tokens
    (ap (λ d. given_by d) marked)

pub returns-in-Err : goal.returns-in-Err
returns-in-Err c = λ L stands.
    let there : token_at (cancellers_in c.args.self.now.tokens) c.args.c ≡ Some c.in-Some.canceller = sym c.in-Some.ensures.value in
    record {
      stands = stands-kept c.args.self.now _ L L stands
          (record {
            ops = c.put_canceller-in-Err.ensures.ops ∙ c.take_canceller.ensures.ops;
            groups = record {
              cancellers = c.put_canceller-in-Err.ensures.put
                  ∙ ap (λ xs. amended xs c.args.c (λ place. Some c.in-Err.same)) c.take_canceller.ensures.rest
                  ∙ ap (λ g. amended (amended (cancellers_in c.args.self.now.tokens) c.args.c (λ place. None)) c.args.c (λ place. Some g))
                  c.in-Err.ensures.back
                  ∙ put-taken (cancellers_in c.args.self.now.tokens) c.args.c c.in-Some.canceller there;
              handles = c.put_canceller-in-Err.ensures.handles ∙ c.take_canceller.ensures.handles;
            };
          })
          refl (c.in-Err.ensures.stands L stands.driver) (c.cancel.ensures.none_due refl)
          (single-same c.args.self.now.driver c.cancel.new.self c.in-Err.ensures.err.0.holding) c.cancel.ensures.tokens
          c.in-Err.ensures.err.0.given;
      unrefused = unrefused-cancel_all L c.args.c
          (slice_get_within L.cancellers c.args.c _ (canceller-at c.args.self.now L c.args.c _ stands there));
    }
