use Rattle.std.specs.Prelude.{◌<◌, [], ◌∷◌, ◌++◌, length, slice_set}
use Rattle.std.proofs.Common.{sym, subst}
use Rattle.cancel_core.specs.Group.{fresh, canceled}
use Rattle.driver_core.specs.Members.{Membership, ArePlaced}
use Rattle.driver_core.proofs.Membership.{either, placed-canceled, answered-keyed}
use Rattle.driver_core.proofs.members.Members.cancel.Goals as goal

pub invariant_of-self : goal.invariant_of-self
invariant_of-self c =
    let old : Membership = record { groups = c.self.inside.groups; places = c.self.inside.places } in
    let known : c.args.c < length old.groups = subst (λ (m : Membership). c.args.c < length m.groups) (sym c.self.view_is) c.requires in
    either c.cancel.result (λ groups. ArePlaced (record old { groups = groups })) c.cancel.new.self
    (slice_set old.groups c.args.c canceled ++ fresh ∷ []) old.groups c.cancel.ensures.marked c.cancel.ensures.err
    (placed-canceled old c.self.invariant c.args.c known) c.self.invariant

pub returns-clause-keys : goal.returns-clause-keys
returns-clause-keys c =
    let old : Membership = record { groups = c.self.inside.groups; places = c.self.inside.places } in
    answered-keyed c.cancel.result old c.self.invariant c.args.c c.cancel.ensures.members
