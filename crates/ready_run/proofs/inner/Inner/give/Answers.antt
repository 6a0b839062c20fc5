use Rattle.std.proofs.Common.{refl}
use Rattle.ready_run.proofs.Kept.{tokens-same}
use Rattle.ready_run.proofs.Parts.{next-unknown}
use Rattle.ready_run.proofs.Single.{single-given, single-same}
use Rattle.ready_run.proofs.Steps.{answers-kept, same-ops, stands-kept}
use Rattle.ready_run.proofs.inner.Inner.give.Goals as goal

pub give-requires-clause-fresh : goal.give-requires-clause-fresh
give-requires-clause-fresh c = next-unknown c.args.self.now c.requires

pub returns-in-Ok : goal.returns-in-Ok
returns-in-Ok c = λ D stands.
    let old = c.args.self.now.driver in
    let new = c.give.new.self in
    answers-kept c.args.self.now _ D _ _ stands (tokens-same _) tt (rw c.number.ensures (c.in-Ok.ensures.answers D stands.driver))
    (single-given old.handling.table new.handling.table _ c.in-Ok.ensures.handles.table) (same-ops old new c.give.ensures.rest)

pub returns-in-Err : goal.returns-in-Err
returns-in-Err c = λ D stands.
    let old = c.args.self.now.driver in
    let new = c.give.new.self in
    record {
      stands = stands-kept c.args.self.now _ D D stands (tokens-same _) refl (c.in-Err.ensures.stands D stands.driver)
          (single-same old.handling.table new.handling.table c.in-Err.ensures.err.table) (same-ops old new c.give.ensures.rest);
      unrefused = refl;
    }
