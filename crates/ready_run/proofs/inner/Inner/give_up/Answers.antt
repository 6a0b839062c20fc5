use Rattle.std.proofs.Common.{◌≡◌, None, refl, sym, subst, ◌∙◌}
use Rattle.std.specs.FinMap as map
use Rattle.rent_buf.specs.Buf.{built}
use Rattle.machine.specs.declared.ledger.Event.TheVariants.{Drop}
use Rattle.machine.specs.declared.ledger.Reply.TheVariants.{Dropped}
use Rattle.driver_core.specs.Holds.{named_in, without_ops}
use Rattle.driver_core.specs.Op.{key_of}
use Rattle.driver_core.specs.Tokens.{token_at, by_number}
use Rattle.driver_core.proofs.KeptTokens.{emptied-none}
use Rattle.ready_driver.specs.LegacyStands.{LegacyAnswers}
use Rattle.ready_driver.specs.MemIo.{memory_view}
use Rattle.ready_run.proofs.Parts.{token-held}
use Rattle.ready_run.proofs.Polling.{single-as}
use Rattle.ready_run.proofs.Refusals.{cause-drop, no_token-gone}
use Rattle.ready_run.proofs.Single.{single-left}
use Rattle.ready_run.proofs.Steps.{answers-refused, answers-taken}
use Rattle.ready_run.proofs.inner.Inner.give_up.Goals as goal

pub returns-in-None : goal.returns-in-None
returns-in-None c = λ D stands.
    let items = by_number c.args.self.now.tokens in
    let none : token_at items c.args.n ≡ None = sym c.in-None.ensures.value in
    answers-refused c.args.self.now _ D _ _ stands (cause-drop D c.args.n (no_token-gone c.args.self.now D c.args.n stands none))
    refl (record { ops = c.in-None.ensures.rest ∙ emptied-none items c.args.n none; groups = c.in-None.ensures.groups })

pub drop_op-requires : goal.drop_op-requires
drop_op-requires c = token-held c.args.self.now c.args.n c.in-Some.op c.requires (sym c.in-Some.ensures.value)

pub returns-in-Some : goal.returns-in-Some
returns-in-Some c = λ D stands.
    let old = c.args.self.now.driver in
    let new = c.drop_op.new.self in
    let there = sym c.in-Some.ensures.value in
    let names = named_in (map.get old.slots.values (key_of c.in-Some.op)) in
    answers-taken c.args.self.now _ D c.args.n c.in-Some.op _ _ stands there c.in-Some.ensures.rest c.in-Some.ensures.groups tt
    c.drop_op.ensures.tokens
    (λ single. single-as (without_ops old.handling.table names) new.handling.table c.drop_op.ensures.handles.holders
    (single-left old.handling.table names single)) c.drop_op.ensures.given
    (subst (λ n. LegacyAnswers memory_view built D (Drop n) Dropped new) ((stands.tokens c.args.n c.in-Some.op).0 there).1
    (c.drop_op.ensures.answers refl D stands.driver))
