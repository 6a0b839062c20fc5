use Rattle.std.proofs.Common.{refl, sym, ◌∙◌, ap}
use Rattle.std.specs.Prelude.{is_some}
use Rattle.driver_core.specs.Tokens.{token_at, by_number}
use Rattle.ready_run.proofs.Kept.{tokens-same}
use Rattle.ready_run.proofs.Refusals.{cause-poll, unrefused-poll}
use Rattle.ready_run.proofs.Steps.{answers-refused}
use Rattle.ready_run.proofs.inner.Inner.poll.Goals as goal

pub returns-then-not-has_token : goal.returns-then-not-has_token
returns-then-not-has_token c = λ D stands. answers-refused c.args.self.now _ D _ _ stands
    (cause-poll D c.args.n c.args.task (sym (c.has_token.ensures.live D stands) ∙ c.if-not-has_token.true)) refl (tokens-same _)

pub poll_reported-requires-clause-parts : goal.poll_reported-requires-clause-parts
poll_reported-requires-clause-parts c =
    record { plain = c.requires.plain; stands = c.in_ok-turn.ensures.stands c.requires.plain c.requires.stands }

pub poll_reported-requires-clause-there : goal.poll_reported-requires-clause-there
poll_reported-requires-clause-there c =
    ap (λ tokens. is_some (token_at (by_number tokens) c.args.n)) c.turn.ensures.tokens ∙ sym c.has_token.ensures.there
    ∙ c.if-not-has_token.false

pub returns : goal.returns
returns c = λ D stands.
    c.poll_reported.ensures (c.in_ok-turn.ensures.reported D stands) D (c.in_ok-turn.ensures.stands D stands)

pub returns-then-handles-ge-MOST_HANDLES : goal.returns-then-handles-ge-MOST_HANDLES
returns-then-handles-ge-MOST_HANDLES c = λ D stands. record {
  stands = stands;
  unrefused = unrefused-poll D c.args.n c.args.task (sym (c.has_token.ensures.live D stands) ∙ c.if-not-has_token.false);
}
