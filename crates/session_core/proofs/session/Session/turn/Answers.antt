use Rattle.std.proofs.Common.{true, inl, refl, subst}
use Rattle.rent_buf.specs.Buf.{built}
use Rattle.uring_driver.specs.Turned.{TurnsFor, TreatsFor}
use Rattle.session_core.proofs.Single.{single-turned}
use Rattle.ready_run.proofs.Kept.{tokens-same}
use Rattle.session_core.proofs.Steps.{answers-kept, stands-same, stopped-same}
use Rattle.session_core.proofs.session.Session.turn.Goals as goal

pub returns-in-None : goal.returns-in-None
returns-in-None c = λ L stands.
    let old = c.args.self.now.driver in
    let new = c.submit-turned.new.self in
    let turned = c.submit-turned.result in
    let meets = c.submit-turned.ensures.turns in
    let turns = subst (λ stop. TurnsFor (λ r. r) built true L old new turned meets.queued stop) c.in-None.is
    (meets.turns refl L stands.driver) in
    let treats = subst (λ stop. TreatsFor (λ r. r) true old new turned meets.queued stop) c.in-None.is meets.treats in
    answers-kept c.args.self.now _ L _ _ stands (tokens-same _) refl (turns.1 (inl refl)) (meets.none_due refl)
    (single-turned old new turned meets.queued _ treats) meets.tokens meets.given

pub returns-in-Some : goal.returns-in-Some
returns-in-Some c = λ L stands.
    let old = c.args.self.now.driver in
    let new = c.submit-turned.new.self in
    let turned = c.submit-turned.result in
    let meets = c.submit-turned.ensures.turns in
    let turns = subst (λ stop. TurnsFor (λ r. r) built true L old new turned meets.queued stop) c.in-Some.is
    (meets.turns refl L stands.driver) in
    record {
      unrefused = refl;
      stands = stands-same c.args.self.now _ L stands (stopped-same L old new turned meets.queued c.in-Some.field-0 turns) (tokens-same _);
    }
