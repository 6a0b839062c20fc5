use Rattle.std.proofs.Common.{sym, ap, ◌∙◌, subst}
use Rattle.ring_core.specs.Ring.{IsPushed}
use Rattle.uring_driver.proofs.Entering.{first-in}
use Rattle.uring_driver.proofs.submissions.Submissions.push_first.Goals as goal

pub returns-clause-fits : goal.returns-clause-fits
returns-clause-fits g c =
    first-in g.R.Ring.view g.R.Ring.tells c.args.self.now c.make_room.new.self
    (record { ring = c.push_reserved.new.self; due = c.pop_front.new.self.items; room = c.self.inside.room }) c.in-Some.entry c.requires
    c.make_room.ensures.same
    (sym (ap (λ x. x.due) c.self.view_is) ∙ c.in-Some.ensures.items)
    (subst (λ x. IsPushed g.R.Ring.tells c.in-Some.entry (g.R.Ring.view x.ring)
    (g.R.Ring.view c.push_reserved.new.self)) c.self.view_is c.in-Done.ensures)
