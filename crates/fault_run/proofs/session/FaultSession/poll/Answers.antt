use Rattle.std.proofs.Common.{Some, ap, inr, refl, sym, ◌∙◌}
use Rattle.machine.specs.Lists.{amended}
use Rattle.machine.specs.declared.ledger.Reply.TheVariants.{Handed}
use Rattle.driver_core.specs.Tokens.{by_number, token_at}
use Rattle.driver_core.specs.declared.op.PollOp.TheVariants.{Pending, Ready}
use Rattle.driver_core.proofs.KeptTokens.{put-taken, token_at-emptied}
use Rattle.fault_run.specs.declared.answer.Answer.TheVariants.{Plain}
use Rattle.fault_run.proofs.Answering.{groups-then, op-there}
use Rattle.fault_run.proofs.session.FaultSession.poll.Goals as goal

pub returns-in-Pending : goal.returns-in-Pending
returns-in-Pending c =
    let items = by_number c.args.self.now.tokens in
    let there = sym c.in-Some.ensures.value in
    let emptied = ap (λ x. token_at x c.args.n) c.in-Some.ensures.rest ∙ token_at-emptied items c.args.n in
    let back = ap (λ o. amended (by_number c.take.new.self) c.args.n (λ token. Some o)) c.in-Pending.ensures.tokens.0 in
    let e = c.in-Pending.ensures in
    inr (record {
      op = c.in-Some.op;
      there = op-there c.args.self.now c.args.n c.in-Some.op (c.holds.ensures.0 c.if-not-holds.false) there;
      result = Pending c.in-Pending.op;
      call = record {
        answers = e.answers;
        waits = e.pending;
        polls = e.polls;
        tokens = e.tokens;
        request = e.request;
        requests = e.requests;
        handles = e.handles;
        moves = e.moves refl;
        ring = e.ring;
        given = e.given;
        members = e.members;
      };
      answer_is = refl;
      ops = c.put.ensures.items emptied ∙ back ∙ ap (λ x. amended x c.args.n (λ token. Some c.in-Some.op)) c.in-Some.ensures.rest
          ∙ put-taken items c.args.n c.in-Some.op there;
      groups = groups-then c.args.self.now.tokens c.take.new.self c.put.new.self c.in-Some.ensures.groups c.put.ensures.groups;
      handles = refl;
    })

pub returns-in-Ready : goal.returns-in-Ready
returns-in-Ready c =
    let e = c.in-Ready.ensures in
    inr (record {
      op = c.in-Some.op;
      there = op-there c.args.self.now c.args.n c.in-Some.op (c.holds.ensures.0 c.if-not-holds.false) (sym c.in-Some.ensures.value);
      result = Ready c.in-Ready.done;
      call = record {
        answers = e.answers;
        waits = e.pending;
        polls = e.polls;
        tokens = e.tokens;
        request = e.request;
        requests = e.requests;
        handles = e.handles;
        moves = e.moves refl;
        ring = e.ring;
        given = e.given;
        members = e.members;
      };
      answer_is = ap (λ held. Plain (Handed c.in-Ready.done.outcome held)) c.plain_held.ensures;
      ops = c.in-Some.ensures.rest;
      groups = c.in-Some.ensures.groups;
      handles = refl;
    })
