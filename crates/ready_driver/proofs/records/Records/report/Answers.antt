use Rattle.std.proofs.Common.{◌∙◌, refl, sym, ap}
use Rattle.std.specs.Prelude.{bit_or}
use Rattle.ready_driver.specs.ScheduledIo.{Scheduled, taken, left, tasks_of}
use Rattle.ready_driver.specs.Records.{with_io}
use Rattle.ready_driver.proofs.Kept.{io-found, io-unfound, key-found, unchanged-named, written-named, written-paired}
use Rattle.ready_driver.proofs.records.Records.report.Goals as goal

pub invariant_of-self-2 : goal.invariant_of-self-2
invariant_of-self-2 c = written-paired c.self.inside.keys c.self.inside.slab _ c.self.invariant _ c.self.view_is _ c.args.key _ _
    (key-found c.self.inside.keys c.self.inside.slab _ c.self.invariant _ c.self.view_is c.args.key _ c.in-Some.ensures.value)
    c.in-Some.ensures.value refl refl

pub returns-clause-tasks : goal.returns-clause-tasks
returns-clause-tasks c =
    c.wake.ensures.tasks ∙ ap (λ (io : Scheduled). tasks_of (taken c.args.ready io.waiting)) (c.set_readiness.ensures
    ∙ sym (ap (λ (io : Scheduled). record io { ready = bit_or io.ready c.args.ready })
    (io-found c.self.inside.keys c.self.inside.slab _ c.self.invariant _ c.self.view_is c.args.key _ c.in-Some.ensures.value)))

pub returns-clause-rest : goal.returns-clause-rest
returns-clause-rest c =
    written-named c.self.inside.keys c.self.inside.slab _ c.self.invariant _ c.self.view_is c.args.key _ _
    (with_io (λ io. record { ready = bit_or io.ready c.args.ready; waiting = left c.args.ready io.waiting }))
    c.in-Some.ensures.value (ap (λ io. record c.in-Some.one.now { kept = record c.in-Some.one.now.kept { io = io } })
    (c.wake.ensures.rest ∙ ap (λ (io : Scheduled). record io { waiting = left c.args.ready io.waiting }) c.set_readiness.ensures))

pub returns-in_default-clause-tasks : goal.returns-in_default-clause-tasks
returns-in_default-clause-tasks c =
    c.new.ensures ∙ sym (ap (λ (io : Scheduled). tasks_of (taken c.args.ready io.waiting))
    (io-unfound c.self.inside.keys c.self.inside.slab _ c.self.invariant _ c.self.view_is c.args.key c.in_default.ensures.value))

pub returns-in_default-clause-rest : goal.returns-in_default-clause-rest
returns-in_default-clause-rest c = c.self.view_is
    ∙ unchanged-named c.self.inside.keys c.self.inside.slab _ c.self.invariant _ c.self.view_is c.args.key
    (with_io (λ io. record { ready = bit_or io.ready c.args.ready; waiting = left c.args.ready io.waiting }))
    c.in_default.ensures.value
