use Rattle.ready_run.proofs.Kept.{tokens-same}
use Rattle.ready_run.proofs.Turning.{reported-turned, stands-turned, world-turned}
use Rattle.ready_run.proofs.inner.Inner.turn.Goals as goal

pub returns-in-None-clause-stands : goal.returns-in-None-clause-stands
returns-in-None-clause-stands c = λ D stands.
    stands-turned c.args.self.now _ c.submit-turned.result D stands (tokens-same _) c.submit-turned.ensures.turns

pub returns-in-None-clause-reported : goal.returns-in-None-clause-reported
returns-in-None-clause-reported c = λ D stands.
    reported-turned c.args.self.now.driver c.submit-turned.new.self c.submit-turned.result c.submit-turned.ensures.turns c.in-None.is D
    stands.driver

pub returns-in-None-clause-world : goal.returns-in-None-clause-world
returns-in-None-clause-world c =
    world-turned c.args.self.now.driver c.submit-turned.new.self c.submit-turned.result c.submit-turned.ensures.turns

pub returns-clause-stands : goal.returns-clause-stands
returns-clause-stands c = λ D stands.
    stands-turned c.args.self.now _ c.submit-turned.result D stands (tokens-same _) c.submit-turned.ensures.turns

pub returns-clause-world : goal.returns-clause-world
returns-clause-world c =
    world-turned c.args.self.now.driver c.submit-turned.new.self c.submit-turned.result c.submit-turned.ensures.turns
