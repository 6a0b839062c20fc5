use Rattle.std.proofs.Common.{rules, subst}
use Rattle.std.specs.Prelude.{IfOk, IfErr}
use Rattle.std.proofs.lemmas.List.Sorted.{answers_always}
use Rattle.ready_driver.specs.WaitList.{number_of, IsSpot, IsAway}
use Rattle.ready_driver.proofs.Ordered.{searched}
use Rattle.ready_driver.proofs.scheduled_io.wait_list.spot_by_halves.Goals as goal

-- the closure gives an entry's number
pub returns-in-Ok-clause-some : goal.returns-in-Ok-clause-some
returns-in-Ok-clause-some c =
    let facts = c.binary_search_by_key.ensures in
    let by_number = facts.position number_of (answers_always _ _ _ (λ f a r g called. search rules)) in
    subst (λ r. IfOk r (λ at. IsSpot c.args.entries.now c.args.serial at)) c.in-Ok.is
    (searched c.args.entries.now c.requires c.args.serial c.binary_search_by_key.result facts.bound by_number).0

pub returns-in-Err-clause-none : goal.returns-in-Err-clause-none
returns-in-Err-clause-none c =
    let facts = c.binary_search_by_key.ensures in
    let by_number = facts.position number_of (answers_always _ _ _ (λ f a r g called. search rules)) in
    subst (λ r. IfErr r (λ at. IsAway c.args.entries.now c.args.serial)) c.in-Err.is
    (searched c.args.entries.now c.requires c.args.serial c.binary_search_by_key.result facts.bound by_number).1
