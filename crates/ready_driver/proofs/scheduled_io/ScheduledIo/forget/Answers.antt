use Rattle.std.proofs.Common.{None, ap, subst}
use Rattle.ready_driver.specs.ScheduledIo.{Scheduled, ChangesOnly}
use Rattle.ready_driver.proofs.Memory.{sound_forgotten}
use Rattle.ready_driver.proofs.Waiting.{forgotten_changes}
use Rattle.ready_driver.proofs.scheduled_io.ScheduledIo.forget.Goals as goal

pub invariant_of-self : goal.invariant_of-self
invariant_of-self c =
    sound_forgotten c.self.inside.waiting.waiters c.take_out.new.self.waiters c.self.inside.rooms c.args.serial c.take_out.ensures.rest
    c.self.invariant

pub returns-clause-own : goal.returns-clause-own
returns-clause-own c =
    subst (λ ws. ChangesOnly ws c.take_out.new.self.waiters c.args.serial None) (ap (λ (s : Scheduled). s.waiting) c.self.view_is)
    (forgotten_changes c.self.inside.waiting.waiters c.take_out.new.self.waiters c.args.serial c.take_out.ensures.rest)
