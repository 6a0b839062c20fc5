use Rattle.std.proofs.Common.{◌++◌, [], ◌∷◌, refl, ◌∙◌, ap, arith}
use Rattle.std.proofs.lemmas.Option.{slice_get_within}
use Rattle.driver_core.specs.Tokens.{handles_in}
use Rattle.session_core.proofs.Canceling.{answers-handle, canceller-at, canceller-made, canceller-none}
use Rattle.ready_run.proofs.Kept.{tokens-same}
use Rattle.session_core.proofs.Refusals.{cause-new_handle, unrefused-new_handle}
use Rattle.session_core.proofs.Steps.{answers-refused, stands-same}
use Rattle.session_core.proofs.session.Session.new_handle.Goals as goal

pub returns-in-None : goal.returns-in-None
returns-in-None c = λ L stands. answers-refused c.args.self.now _ L _ _ stands
    (cause-new_handle L c.args.c (canceller-none c.args.self.now L c.args.c stands c.in-None.ensures)) refl (tokens-same _)

pub returns-then-group-groups : goal.returns-then-group-groups
returns-then-group-groups c = λ L stands. absurd (
    let made = canceller-made c.args.self.now L c.args.c c.in-Some.canceller.now stands c.in-Some.ensures in
    omega (arith, made))

pub returns-in-Ok : goal.returns-in-Ok
returns-in-Ok c = λ L stands.
    answers-handle c.args.self.now _ L c.args.c c.in-Some.canceller.now c.in-Ok.number stands refl c.add_handle.ensures.ops
    c.add_handle.ensures.cancellers
    (c.in-Ok.ensures.added ∙ ap (λ g. handles_in c.args.self.now.tokens ++ g ∷ []) c.cancel_handle-handle.ensures.group)
    c.in-Ok.ensures.number
    c.in-Some.ensures (c.cancel_handle-handle.ensures.answers L stands.driver)

pub returns-in-Err : goal.returns-in-Err
returns-in-Err c = λ L stands. record {
  stands = stands-same c.args.self.now _ L stands refl
      (record {
        ops = c.add_handle.ensures.ops;
        groups = record { cancellers = c.add_handle.ensures.cancellers; handles = c.in-Err.ensures.err };
      });
  unrefused = unrefused-new_handle L c.args.c
      (slice_get_within L.cancellers c.args.c _ (canceller-at c.args.self.now L c.args.c _ stands c.in-Some.ensures));
}
