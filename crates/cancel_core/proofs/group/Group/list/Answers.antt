use Rattle.std.proofs.lemmas.Map.Keys.{IsStrictlyIncreasing-from_sorted}
use Rattle.cancel_core.proofs.group.Group.list.Goals as goal

pub returns-in_err-items-clause-ascending : goal.returns-in_err-items-clause-ascending
returns-in_err-items-clause-ascending c = rw (← c.self.view_is)
    (IsStrictlyIncreasing-from_sorted c.self.inside.members.keys c.iter.ensures.ordered)

pub returns-clause-ascending : goal.returns-clause-ascending
returns-clause-ascending c = rw (← c.self.view_is) (IsStrictlyIncreasing-from_sorted c.self.inside.members.keys c.iter.ensures.ordered)
