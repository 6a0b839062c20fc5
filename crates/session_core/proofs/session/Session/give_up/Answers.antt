use Rattle.std.proofs.Common.{◌≡◌, None, refl, sym, subst, ◌∙◌}
use Rattle.rent_buf.specs.Buf.{built}
use Rattle.machine.specs.declared.ledger.Event.TheVariants.{Drop}
use Rattle.machine.specs.declared.ledger.Reply.TheVariants.{Dropped}
use Rattle.uring_driver.specs.Stands.{Answers}
use Rattle.driver_core.specs.Tokens.{token_at, by_number}
use Rattle.driver_core.proofs.KeptTokens.{emptied-none}
use Rattle.session_core.proofs.Refusals.{cause-drop, no_token-lacks}
use Rattle.session_core.proofs.Single.{single-dropped}
use Rattle.session_core.proofs.Steps.{answers-refused, answers-taken}
use Rattle.session_core.proofs.session.Session.give_up.Goals as goal

pub returns-in-None : goal.returns-in-None
returns-in-None c = λ L stands.
    let items = by_number c.args.self.now.tokens in
    let none : token_at items c.args.n ≡ None = sym c.in-None.ensures.value in
    answers-refused c.args.self.now _ L _ _ stands (cause-drop L c.args.n (no_token-lacks c.args.self.now L c.args.n stands none _ refl))
    refl (record { ops = c.in-None.ensures.rest ∙ emptied-none items c.args.n none; groups = c.in-None.ensures.groups })

pub drop_op-requires : goal.drop_op-requires
drop_op-requires c = c.holds.ensures.0 c.if-not-holds.false

pub returns-else-not-holds : goal.returns-else-not-holds
returns-else-not-holds c = λ L stands.
    let there = sym c.in-Some.ensures.value in
    answers-taken c.args.self.now _ L c.args.n c.in-Some.op _ _ stands there c.in-Some.ensures.rest c.in-Some.ensures.groups refl
    c.drop_op.ensures.tokens
    (c.drop_op.ensures.none_due refl)
    (single-dropped c.args.self.now.driver c.drop_op.new.self c.in-Some.op
    (c.holds.ensures.0 c.if-not-holds.false) c.drop_op.ensures.drops) c.drop_op.ensures.given
    (subst (λ n. Answers (λ r. r) built L (Drop n) Dropped c.drop_op.new.self) ((stands.tokens c.args.n c.in-Some.op).0 there).1
    (c.drop_op.ensures.answers refl L stands.driver))
