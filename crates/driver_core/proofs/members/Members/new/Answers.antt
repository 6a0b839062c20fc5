use Rattle.driver_core.proofs.Membership.{placed-none}
use Rattle.driver_core.proofs.members.Members.new.Goals as goal

pub invariant_of-result : goal.invariant_of-result
invariant_of-result c = rw (c.new.ensures, c.new-2.ensures) placed-none
