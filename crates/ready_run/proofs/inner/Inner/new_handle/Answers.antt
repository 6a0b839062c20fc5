use Rattle.std.proofs.Common.{◌++◌, [], ◌∷◌, refl, ◌∙◌, ap}
use Rattle.std.proofs.lemmas.Option.{slice_get_within}
use Rattle.driver_core.specs.Tokens.{handles_in}
use Rattle.ready_run.proofs.Canceling.{answers-handle, canceller-at, canceller-none}
use Rattle.ready_run.proofs.Kept.{tokens-same}
use Rattle.ready_run.proofs.Parts.{group-made}
use Rattle.ready_run.proofs.Refusals.{cause-new_handle, unrefused-new_handle}
use Rattle.ready_run.proofs.Steps.{answers-refused, stands-same}
use Rattle.ready_run.proofs.inner.Inner.new_handle.Goals as goal

pub returns-in-None : goal.returns-in-None
returns-in-None c = λ D stands. answers-refused c.args.self.now _ D _ _ stands
    (cause-new_handle D c.args.c (canceller-none c.args.self.now D c.args.c stands c.in-None.ensures)) refl (tokens-same _)

pub cancel_handle-handle-requires : goal.cancel_handle-handle-requires
cancel_handle-handle-requires c = group-made c.args.self.now c.args.c c.in-Some.canceller.now c.requires c.in-Some.ensures

pub returns-in-Ok : goal.returns-in-Ok
returns-in-Ok c = λ D stands.
    answers-handle c.args.self.now _ D c.args.c c.in-Some.canceller.now c.in-Ok.number stands refl c.add_handle.ensures.ops
    c.add_handle.ensures.cancellers
    (c.in-Ok.ensures.added ∙ ap (λ g. handles_in c.args.self.now.tokens ++ g ∷ []) c.cancel_handle-handle.ensures.group)
    c.in-Ok.ensures.number
    c.in-Some.ensures (c.cancel_handle-handle.ensures.answers D stands.driver)

pub returns-in-Err : goal.returns-in-Err
returns-in-Err c = λ D stands. record {
  stands = stands-same c.args.self.now _ D stands refl
      (record {
        ops = c.add_handle.ensures.ops;
        groups = record { cancellers = c.add_handle.ensures.cancellers; handles = c.in-Err.ensures.err };
      });
  unrefused = unrefused-new_handle D c.args.c
      (slice_get_within D.cancellers c.args.c _ (canceller-at c.args.self.now D c.args.c _ stands c.in-Some.ensures));
}
