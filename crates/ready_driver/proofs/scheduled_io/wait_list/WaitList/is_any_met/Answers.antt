use Rattle.std.proofs.Common.{◌∙◌, ap}
use Rattle.std.specs.List.{list_any}
use Rattle.ready_driver.specs.ScheduledIo.{is_met}
use Rattle.ready_driver.specs.WaitList.{Line, is_taken}
use Rattle.ready_driver.proofs.Gaps.{any_live}
use Rattle.ready_driver.proofs.scheduled_io.wait_list.WaitList.is_any_met.Goals as goal

pub returns : goal.returns
returns c =
    c.is_any_taken.ensures
    ∙ ap (list_any (is_taken c.args.ready)) c.deref.ensures.value
    ∙ any_live c.args.ready c.self.inside.entries.items
    ∙ ap (λ (l : Line). list_any (is_met c.args.ready) l.waiters) c.self.view_is
