use Rattle.std.proofs.Common.{Some, ap, inr, refl, sym, ◌∙◌}
use Rattle.machine.specs.Lists.{amended}
use Rattle.driver_core.specs.Tokens.{cancellers_in}
use Rattle.fault_run.proofs.Answering.{filled, group-there}
use Rattle.fault_run.proofs.session.FaultSession.cancel_all.Goals as goal

pub returns-in-Ok : goal.returns-in-Ok
returns-in-Ok c =
    let e = c.in-Ok.ensures in
    inr (record {
      group = c.in-Some.canceller;
      there = group-there c.args.self.now c.args.c c.in-Some.canceller (c.has_group.ensures.0 c.if-not-has_group.false)
          (sym c.in-Some.ensures.value);
      fresh = c.in-Ok.fresh;
      numbers = c.in-Ok.numbers;
      call = record {
        members = e.members;
        ascending = e.ascending;
        moves = e.moves refl;
        number = e.number;
        marked = e.marked;
        tokens = e.tokens;
        requests = e.requests;
      };
      answer_is = refl;
      cancellers = c.put_canceller.ensures.put
          ∙ ap (λ xs. amended xs c.args.c (λ place. Some c.in-Ok.fresh)) c.take_canceller.ensures.rest
          ∙ filled (cancellers_in c.args.self.now.tokens) c.args.c c.in-Ok.fresh;
      cancel_handles = c.put_canceller.ensures.handles ∙ c.take_canceller.ensures.handles;
      ops = c.put_canceller.ensures.ops ∙ c.take_canceller.ensures.ops;
      handles = refl;
    })
