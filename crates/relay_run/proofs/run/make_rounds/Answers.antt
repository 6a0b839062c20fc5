use Rattle.std.proofs.Common.{◌≡◌, ◌+◌, ◌-◌, ◌∙◌, suc, subst, ap, arith}
use Rattle.std.specs.Prelude.{◌^◌, min}
use Rattle.relay_run.specs.Relaying.{MakesRounds, made_of}
use Rattle.relay_run.proofs.Rounds.{opens_made}
use Rattle.relay_run.proofs.run.make_rounds.Goals as goal

pub loop-made-preserved : goal.loop-made-preserved
loop-made-preserved g c =
    let round = c.in-Ok.round in
    let serving = c.in-Ok.ensures.serving in
    let counted = ◌∙◌ {b = min (c.loop-made.closed + c.len.result) (2 ^ 64 - 1)} c.saturating_add-closed.ensures
    (ap (λ n. min (c.loop-made.closed + n) (2 ^ 64 - 1)) c.len.ensures) in
    let next : suc c.loop-made._made ≡ c.loop-made._made + 1 = omega arith in
    record {
      made = subst
          (λ n. MakesRounds g.I.NonBlock.view g.I.NonBlock.tells g.I.NonBlock.memory c.args.relay.now n c.saturating_add-closed.result
          c.round.new.self) next (
            c.loop-made.relay,
            c.loop-made.closed,
            c.loop-made.invariant.made,
            record {
              round = round;
              serving = serving;
              names = c.in-Ok.ensures.names;
              accepts = c.in-Ok.ensures.accepts;
              keyed = c.round.ensures.keyed;
              grows = opens_made round.opened (made_of g.I.NonBlock.view c.loop-made.relay)
                  (made_of g.I.NonBlock.view c.round.new.self) c.in-Ok.ensures.grows c.round.ensures.order c.in-Ok.ensures.one;
              closes = c.in-Ok.ensures.closes;
              counted = counted;
              listener = c.round.ensures.same.0;
              limit = c.round.ensures.same.1;
            },
          );
      given = let before = c.loop-made.invariant.given in let more = c.round.ensures.given in omega arith;
      later = let before = c.loop-made.invariant.later in let more = serving.later.faults in omega arith;
    }
