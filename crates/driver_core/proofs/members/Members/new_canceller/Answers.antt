use Rattle.std.specs.Prelude.{[], ◌∷◌, ◌++◌}
use Rattle.cancel_core.specs.Group.{fresh}
use Rattle.driver_core.specs.Members.{Membership, ArePlaced}
use Rattle.driver_core.proofs.Membership.{either, placed-fresh}
use Rattle.driver_core.proofs.members.Members.new_canceller.Goals as goal

pub invariant_of-self : goal.invariant_of-self
invariant_of-self c =
    let old : Membership = record { groups = c.self.inside.groups; places = c.self.inside.places } in
    either c.new_canceller.result (λ groups. ArePlaced (record old { groups = groups })) c.new_canceller.new.self
    (old.groups ++ fresh ∷ []) old.groups c.new_canceller.ensures.made c.new_canceller.ensures.err (placed-fresh old c.self.invariant)
    c.self.invariant
