use Rattle.std.proofs.Common.{◌≡◌, Some, None, refl, sym, ◌∙◌, ap}
use Rattle.std.proofs.lemmas.Option.{slice_get_within}
use Rattle.machine.specs.Lists.{amended}
use Rattle.driver_core.specs.Tokens.{token_at, cancellers_in}
use Rattle.driver_core.proofs.KeptTokens.{emptied-none, put-taken}
use Rattle.ready_driver.specs.LegacyCalls.{asking_in}
use Rattle.ready_run.proofs.Canceling.{answers-cancels, canceller-at, canceller-none}
use Rattle.ready_run.proofs.Parts.{group-made}
use Rattle.ready_run.proofs.Polling.{single-as}
use Rattle.ready_run.proofs.Refusals.{cause-cancel_all, unrefused-cancel_all}
use Rattle.ready_run.proofs.Single.{asks-table}
use Rattle.ready_run.proofs.Steps.{answers-refused, stands-same}
use Rattle.ready_run.proofs.inner.Inner.cancel_all.Goals as goal

pub returns-in-None : goal.returns-in-None
returns-in-None c = λ D stands.
    let none : token_at (cancellers_in c.args.self.now.tokens) c.args.c ≡ None = sym c.in-None.ensures.value in
    answers-refused c.args.self.now _ D _ _ stands
    (cause-cancel_all D c.args.c (canceller-none c.args.self.now D c.args.c stands none)) refl
    (record {
      ops = c.take_canceller.ensures.ops;
      groups = record {
        cancellers = c.take_canceller.ensures.rest ∙ emptied-none (cancellers_in c.args.self.now.tokens) c.args.c none;
        handles = c.take_canceller.ensures.handles;
      };
    })

pub cancel-requires : goal.cancel-requires
cancel-requires c = group-made c.args.self.now c.args.c c.in-Some.canceller c.requires (sym c.in-Some.ensures.value)

pub returns-in-Ok : goal.returns-in-Ok
returns-in-Ok c = λ D stands.
    let old = c.args.self.now.driver in
    let new = c.cancel.new.self in
    answers-cancels c.args.self.now _ D c.args.c c.in-Some.canceller c.in-Ok.fresh c.in-Ok.numbers stands
    (c.put_canceller.ensures.ops ∙ c.take_canceller.ensures.ops)
    (c.put_canceller.ensures.put
    ∙ ap (λ xs. amended xs c.args.c (λ place. Some c.in-Ok.fresh)) c.take_canceller.ensures.rest)
    (c.put_canceller.ensures.handles ∙ c.take_canceller.ensures.handles) (sym c.in-Some.ensures.value)
    (c.in-Ok.ensures.answers refl D stands.driver)
    (single-as old.handling.table new.handling.table (ap (λ a. a.handling.table) c.in-Ok.ensures.asks
    ∙ asks-table old.members (asking_in old) c.in-Ok.numbers))
    (record { tokens = c.cancel.ensures.tokens; given = c.cancel.ensures.given })

pub returns-in-Err : goal.returns-in-Err
returns-in-Err c = λ D stands.
    let there : token_at (cancellers_in c.args.self.now.tokens) c.args.c ≡ Some c.in-Some.canceller = sym c.in-Some.ensures.value in
    record {
      stands = stands-same c.args.self.now _ D stands c.in-Err.ensures.err
          (record {
            ops = c.put_canceller-in-Err.ensures.ops ∙ c.take_canceller.ensures.ops;
            groups = record {
              cancellers = c.put_canceller-in-Err.ensures.put
                  ∙ ap (λ xs. amended xs c.args.c (λ place. Some c.in-Err.same)) c.take_canceller.ensures.rest
                  ∙ ap (λ g. amended (amended (cancellers_in c.args.self.now.tokens) c.args.c (λ place. None)) c.args.c (λ place. Some g))
                  c.in-Err.ensures.back
                  ∙ put-taken (cancellers_in c.args.self.now.tokens) c.args.c c.in-Some.canceller there;
              handles = c.put_canceller-in-Err.ensures.handles ∙ c.take_canceller.ensures.handles;
            };
          });
      unrefused = unrefused-cancel_all D c.args.c
          (slice_get_within D.cancellers c.args.c _ (canceller-at c.args.self.now D c.args.c _ stands there));
    }
