use Rattle.std.proofs.Common.{◌∙◌, ◌++◌, ◌∷◌, [], ap, arith, refl}
use Rattle.machine.specs.declared.ledger.Event.TheVariants.{Give}
use Rattle.machine.specs.declared.world.HandleKind.TheVariants.{Stream}
use Rattle.session_core.proofs.Generating.{round-added, rounds-begun, rounds-done}
use Rattle.session_core.proofs.generated.generated.Goals as goal

pub loop-i-init : goal.loop-i-init
loop-i-init c = record {
  small = omega arith;
  all = rounds-begun c.args.seed c.args.rounds _ _
      (c.in_ok-push.ensures.items ∙ ap (λ xs. xs ++ Give Stream ∷ []) c.in_ok-events.ensures.items) (omega arith);
}

pub loop-i-preserved : goal.loop-i-preserved
loop-i-preserved c = record {
  small = omega arith;
  all = round-added _ _ _ c.loop-i.x c.next-x.result _ c.loop-i.i _ _ _ _
      (omega arith) c.next-x.ensures.value c.next-x-in-loop-i.ensures.value refl refl c.in_ok-push_round.ensures c.loop-i.invariant.all;
}

pub returns : goal.returns
returns c = rounds-done _ _ c.loop-i.x c.loop-i.i _ (omega arith) c.loop-i.invariant.all
