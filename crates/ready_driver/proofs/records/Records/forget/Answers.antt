use Rattle.std.proofs.Common.{option_map, unwrap_or, refl, sym, ◌∙◌, ap}
use Rattle.ready_driver.specs.ScheduledIo.{waiter_of, forgotten}
use Rattle.ready_driver.specs.Records.{quiet, with_io}
use Rattle.ready_driver.proofs.Kept.{found-at, unfound-at, not-unplaced, written-record, written-paired, unchanged-record}
use Rattle.ready_driver.proofs.records.Records.forget.Goals as goal

pub unreachable-requires : goal.unreachable-requires
unreachable-requires c = not-unplaced c.self.inside.keys c.self.inside.slab _ c.self.invariant _ c.self.view_is c.args.h _
    c.in-Some.ensures.value c.in_default-get_mut.ensures.value

pub invariant_of-self : goal.invariant_of-self
invariant_of-self c = written-paired c.self.inside.keys c.self.inside.slab _ c.self.invariant _ c.self.view_is c.args.h _ _ _
    c.in-Some.ensures.value c.in-Some-get_mut.ensures.value refl refl

pub returns-clause-task : goal.returns-clause-task
returns-clause-task c =
    c.forget.ensures.task
    ∙ sym (ap (λ x. option_map (λ w. w.task) (waiter_of (unwrap_or (option_map (λ r. r.io) x) quiet).waiting c.args.serial))
    (found-at c.self.inside.keys c.self.inside.slab _ c.self.invariant _ c.self.view_is c.args.h _ _ c.in-Some.ensures.value
    c.in-Some-get_mut.ensures.value))

pub returns-clause-rest : goal.returns-clause-rest
returns-clause-rest c =
    written-record c.self.inside.keys c.self.inside.slab _ c.self.invariant _ c.self.view_is c.args.h _ _ _ c.in-Some.ensures.value
    c.in-Some-get_mut.ensures.value (with_io (λ io. record io { waiting = forgotten io.waiting c.args.serial }))
    (ap (λ io. record c.in-Some-get_mut.one.now { kept = record c.in-Some-get_mut.one.now.kept { io = io } }) c.forget.ensures.rest)

pub returns-in_default-clause-task : goal.returns-in_default-clause-task
returns-in_default-clause-task c =
    sym (ap (λ x. option_map (λ w. w.task) (waiter_of (unwrap_or (option_map (λ r. r.io) x) quiet).waiting c.args.serial))
    (unfound-at c.self.inside.keys c.self.inside.slab _ c.self.invariant _ c.self.view_is c.args.h c.in_default.ensures.value))

pub returns-in_default-clause-rest : goal.returns-in_default-clause-rest
returns-in_default-clause-rest c = unchanged-record c.self.inside.keys c.self.inside.slab _ c.self.invariant _ c.self.view_is c.args.h
    (with_io (λ io. record io { waiting = forgotten io.waiting c.args.serial }))
    c.in_default.ensures.value
