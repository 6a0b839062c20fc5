use Rattle.driver_core.specs.Members.{Membership}
use Rattle.driver_core.proofs.Membership.{placed-moved}
use Rattle.driver_core.proofs.members.Members.set_key.Goals as goal

pub invariant_of-self : goal.invariant_of-self
invariant_of-self c =
    let old : Membership = record { groups = c.self.inside.groups; places = c.self.inside.places } in
    rw (c.set_key.ensures) (placed-moved old c.self.invariant c.args.number c.args.key)
