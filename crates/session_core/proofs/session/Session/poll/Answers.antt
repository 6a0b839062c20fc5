use Rattle.std.proofs.Common.{◌≡◌, Some, None, ap, inl, refl, sym, subst, ◌∙◌}
use Rattle.rent_buf.specs.Buf.{built}
use Rattle.machine.specs.Lists.{amended}
use Rattle.machine.specs.Request.{held_of, plain_request}
use Rattle.machine.specs.declared.ledger.Event.TheVariants.{Poll}
use Rattle.machine.specs.declared.ledger.Reply.TheVariants.{Pending, Handed}
use Rattle.uring_driver.specs.Stands.{Answers}
use Rattle.driver_core.specs.Tokens.{token_at, by_number}
use Rattle.driver_core.proofs.KeptTokens.{emptied-none, token_at-emptied, put-taken}
use Rattle.session_core.proofs.Refusals.{cause-poll, no_token-lacks}
use Rattle.session_core.proofs.Single.{single-same, single-polled}
use Rattle.ready_run.proofs.Kept.{groups-then}
use Rattle.session_core.proofs.Steps.{answers-kept, answers-refused, answers-taken}
use Rattle.session_core.proofs.session.Session.poll.Goals as goal

pub returns-in-None : goal.returns-in-None
returns-in-None c = λ L stands.
    let items = by_number c.args.self.now.tokens in
    let none : token_at items c.args.n ≡ None = sym c.in-None.ensures.value in
    answers-refused c.args.self.now _ L _ _ stands (cause-poll L c.args.n c.args.task
    (no_token-lacks c.args.self.now L c.args.n stands none _ refl)) refl
    (record { ops = c.in-None.ensures.rest ∙ emptied-none items c.args.n none; groups = c.in-None.ensures.groups })

pub poll_op-requires : goal.poll_op-requires
poll_op-requires c = c.holds.ensures.0 c.if-not-holds.false

pub returns-in-Pending : goal.returns-in-Pending
returns-in-Pending c = λ L stands.
    let items = by_number c.args.self.now.tokens in
    let there = sym c.in-Some.ensures.value in
    let emptied = ap (λ x. token_at x c.args.n) c.in-Some.ensures.rest ∙ token_at-emptied items c.args.n in
    let back = ap (λ o. amended (by_number c.take.new.self) c.args.n (λ token. Some o)) c.in-Pending.ensures.tokens.0 in
    answers-kept c.args.self.now _ L _ _ stands
    (record {
      ops = c.put.ensures.items emptied ∙ back ∙ ap (λ x. amended x c.args.n (λ token. Some c.in-Some.op)) c.in-Some.ensures.rest
          ∙ put-taken items c.args.n c.in-Some.op there;
      groups = groups-then c.args.self.now.tokens c.take.new.self c.put.new.self c.in-Some.ensures.groups c.put.ensures.groups;
    }) refl
    (subst (λ n. Answers (λ r. r) built L (Poll n c.args.task) Pending c.poll_op.new.self) ((stands.tokens c.args.n c.in-Some.op).0 there).1
    (c.in-Pending.ensures.answers (inl refl) L stands.driver))
    (c.poll_op.ensures.none_due refl) (single-same c.args.self.now.driver c.poll_op.new.self c.in-Pending.ensures.handles)
    c.in-Pending.ensures.tokens.1 c.poll_op.ensures.given

pub returns-in-Ready : goal.returns-in-Ready
returns-in-Ready c = λ L stands.
    let there = sym c.in-Some.ensures.value in
    rw c.plain_held.ensures
    (answers-taken c.args.self.now _ L c.args.n c.in-Some.op _ _ stands there c.in-Some.ensures.rest c.in-Some.ensures.groups refl
    c.in-Ready.ensures.tokens
    (c.poll_op.ensures.none_due refl)
    (single-polled c.args.self.now.driver c.poll_op.new.self c.in-Ready.done c.in-Ready.ensures.handles) c.poll_op.ensures.given
    (subst (λ n. Answers (λ r. r) built L (Poll n c.args.task)
    (Handed c.in-Ready.done.outcome (held_of (plain_request built c.in-Ready.done.request))) c.poll_op.new.self)
    ((stands.tokens c.args.n c.in-Some.op).0 there).1 (c.in-Ready.ensures.answers (inl refl) L stands.driver).0))
