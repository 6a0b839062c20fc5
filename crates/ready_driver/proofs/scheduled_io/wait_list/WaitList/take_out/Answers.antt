use Rattle.std.proofs.Common.{◌≡◌, None, refl, sym, subst, set}
use Rattle.ready_driver.specs.declared.scheduled_io.wait_list.Entry.TheVariants.{Gap}
use Rattle.ready_driver.specs.ScheduledIo.{waiter_of, forgotten, IsOnceEach}
use Rattle.ready_driver.specs.WaitList.{Line, live, IsPlace}
use Rattle.ready_driver.proofs.Gaps.{counted_gap}
use Rattle.ready_driver.proofs.Spots.{indexed_gap, once_gap, away_gap}
use Rattle.ready_driver.proofs.Waiting.{forgotten-none}
use Rattle.ready_driver.proofs.scheduled_io.wait_list.WaitList.take_out.Goals as goal

pub returns-in_default-clause-rest : goal.returns-in_default-clause-rest
returns-in_default-clause-rest c =
    let es = c.self.inside.entries.items in
    let away = subst (λ xs. waiter_of (live xs) c.args.serial ≡ None) c.deref.ensures.value c.in_default.ensures.none in
    sym (subst (λ (l : Line). forgotten l.waiters c.args.serial ≡ l.waiters) c.self.view_is (forgotten-none (live es) c.args.serial away))

pub squeeze-requires-clause-counted : goal.squeeze-requires-clause-counted
squeeze-requires-clause-counted c =
    let es = c.self.inside.entries.items in
    let there = subst (λ xs. IsPlace xs c.args.serial c.in-Some.at c.in-Some.waiter) c.deref.ensures.value c.in-Some.ensures.some in
    counted_gap c.self.inside.gaps es (set es c.in-Some.at (Gap c.args.serial)) c.args.serial c.in-Some.at c.in-Some.waiter refl there
    c.self.invariant.0

pub squeeze-requires-clause-once : goal.squeeze-requires-clause-once
squeeze-requires-clause-once c =
    let es = c.self.inside.entries.items in
    let there = subst (λ xs. IsPlace xs c.args.serial c.in-Some.at c.in-Some.waiter) c.deref.ensures.value c.in-Some.ensures.some in
    once_gap es (set es c.in-Some.at (Gap c.args.serial)) c.args.serial c.in-Some.at c.in-Some.waiter refl there
    (subst (λ (l : Line). IsOnceEach l.waiters) (sym c.self.view_is) c.requires)

pub squeeze-requires-clause-index : goal.squeeze-requires-clause-index
squeeze-requires-clause-index c = λ apart.
    let es = c.self.inside.entries.items in
    let ys = set es c.in-Some.at (Gap c.args.serial) in
    let there = subst (λ xs. IsPlace xs c.args.serial c.in-Some.at c.in-Some.waiter) c.deref.ensures.value c.in-Some.ensures.some in
    let once = subst (λ (l : Line). IsOnceEach l.waiters) (sym c.self.view_is) c.requires in
    indexed_gap c.self.inside.places c.leave.new.places es ys c.in-Some.at c.args.serial c.in-Some.waiter (c.self.invariant.2 apart) refl
    there (away_gap es ys c.args.serial c.in-Some.at c.in-Some.waiter refl there once) (c.leave.ensures.gone apart)
    (c.leave.ensures.len apart)
