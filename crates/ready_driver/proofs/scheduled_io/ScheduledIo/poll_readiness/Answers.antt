use Rattle.std.proofs.Common.{Some, refl, ap, subst}
use Rattle.ready_driver.specs.declared.scheduled_io.Waiter.{Waiter}
use Rattle.ready_driver.specs.ScheduledIo.{Scheduled, ChangesOnly}
use Rattle.ready_driver.proofs.Waiting.{kept_changes}
use Rattle.ready_driver.proofs.scheduled_io.ScheduledIo.poll_readiness.Goals as goal

pub returns-clause-own : goal.returns-clause-own
returns-clause-own c = λ none.
    let entry : Waiter = record { serial = c.args.serial; task = c.args.task; direction = c.args.dir } in
    subst (λ ws. ChangesOnly ws c.keep.new.waiting.waiters c.args.serial (Some entry)) (ap (λ (s : Scheduled). s.waiting) c.self.view_is)
    (kept_changes c.self.inside.waiting.waiters _ entry c.args.serial c.in_ok-keep.ensures.ok refl)
