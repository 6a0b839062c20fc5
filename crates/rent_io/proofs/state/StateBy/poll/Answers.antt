use Rattle.std.proofs.Common.{ap}
use Rattle.rent_io.specs.declared.poll.Step.TheVariants.{Ready, Pending, Again}
use Rattle.rent_io.proofs.States.{completes}
use Rattle.rent_io.proofs.state.StateBy.poll.Goals as goal

pub returns-in-Ready-clause-complete : goal.returns-in-Ready-clause-complete
returns-in-Ready-clause-complete g c =
    let s = g.S.Polled in
    completes s.moved s.due (s.short c.args.io.now c.poll_by.new.io) (s.counts c.args.io.now) (s.counts c.poll_by.new.io) _ _
    (ap (λ x. x.state) c.self.view_is)
    (Ready c.in-Ready.end) (c.laws.ensures.advances c.args.task _ _ _ _ c.in-Ready.ensures.answer)

pub returns-in-Pending-clause-complete : goal.returns-in-Pending-clause-complete
returns-in-Pending-clause-complete g c =
    let s = g.S.Polled in
    completes s.moved s.due (s.short c.args.io.now c.poll_by.new.io) (s.counts c.args.io.now) (s.counts c.poll_by.new.io) _ _
    (ap (λ x. x.state) c.self.view_is)
    (Pending c.in-Pending.state) (c.laws.ensures.advances c.args.task _ _ _ _ c.in-Pending.ensures.answer)

pub returns-in-Again-clause-complete : goal.returns-in-Again-clause-complete
returns-in-Again-clause-complete g c =
    let s = g.S.Polled in
    completes s.moved s.due (s.short c.args.io.now c.poll_by.new.io) (s.counts c.args.io.now) (s.counts c.poll_by.new.io) _ _
    (ap (λ x. x.state) c.self.view_is)
    (Again c.in-Again.state) (c.laws.ensures.advances c.args.task _ _ _ _ c.in-Again.ensures.answer)
