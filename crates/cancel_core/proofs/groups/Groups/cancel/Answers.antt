use Rattle.std.proofs.lemmas.List.{set-append_left}
use Rattle.cancel_core.specs.Group.{canceled}
use Rattle.cancel_core.proofs.groups.Groups.cancel.Goals as goal

pub returns-clause-marked : goal.returns-clause-marked
returns-clause-marked c =
    rw (c.cancel.ensures, c.c.view_is, c.self-2.view_is, c.in-Ok-new_canceller.ensures.made)
    (set-append_left c.args.self.now _ c.args.c canceled c.requires)
