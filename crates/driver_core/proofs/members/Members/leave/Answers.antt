use Rattle.std.specs.Prelude.{◌≡◌, Some, None}
use Rattle.std.proofs.Common.{sym, ap, ◌∙◌}
use Rattle.std.specs.FinMap as map
use Rattle.op_slots.proofs.Places.{map-absent}
use Rattle.driver_core.specs.Members.{Membership, leaves, leaves_from}
use Rattle.driver_core.proofs.Membership.{left-known, placed-left, apart-left, apart-none}
use Rattle.driver_core.proofs.members.Members.leave.Goals as goal

pub leave-requires : goal.leave-requires
leave-requires c =
    let old : Membership = record { groups = c.self.inside.groups; places = c.self.inside.places } in
    let here : map.get old.places c.args.number ≡ Some c.in-Some.place = sym c.take.ensures.place ∙ c.in-Some.is in
    left-known old c.self.invariant c.args.number c.in-Some.place here

pub invariant_of-self : goal.invariant_of-self
invariant_of-self c =
    let old : Membership = record { groups = c.self.inside.groups; places = c.self.inside.places } in
    let here : map.get old.places c.args.number ≡ Some c.in-Some.place = sym c.take.ensures.place ∙ c.in-Some.is in
    rw (c.leave.ensures, c.take.ensures.rest) (placed-left old c.self.invariant c.args.number c.in-Some.place here)

pub invariant_of-self-in_default : goal.invariant_of-self-in_default
invariant_of-self-in_default c =
    let old : Membership = record { groups = c.self.inside.groups; places = c.self.inside.places } in
    let none : map.get old.places c.args.number ≡ None = sym c.take.ensures.place ∙ c.in_default.is in
    rw (c.take.ensures.rest, map-absent old.places c.args.number none) c.self.invariant

pub returns-in-Some-clause-apart : goal.returns-in-Some-clause-apart
returns-in-Some-clause-apart c =
    let old : Membership = record { groups = c.self.inside.groups; places = c.self.inside.places } in
    let here : map.get old.places c.args.number ≡ Some c.in-Some.place = sym c.take.ensures.place ∙ c.in-Some.is in
    rw (c.leave.ensures, c.take.ensures.rest) (apart-left old c.self.invariant c.args.number c.in-Some.place here)

pub returns-in_default-clause-left : goal.returns-in_default-clause-left
returns-in_default-clause-left c =
    let old : Membership = record { groups = c.self.inside.groups; places = c.self.inside.places } in
    let none : map.get old.places c.args.number ≡ None = sym c.take.ensures.place ∙ c.in_default.is in
    ap (λ p. record old { places = p }) (c.take.ensures.rest ∙ map-absent old.places c.args.number none)
    ∙ sym (ap (leaves_from old c.args.number) none) ∙ ap (λ (m : Membership). leaves m c.args.number) c.self.view_is

pub returns-in_default-clause-apart : goal.returns-in_default-clause-apart
returns-in_default-clause-apart c =
    let old : Membership = record { groups = c.self.inside.groups; places = c.self.inside.places } in
    let none : map.get old.places c.args.number ≡ None = sym c.take.ensures.place ∙ c.in_default.is in
    rw (c.take.ensures.rest, map-absent old.places c.args.number none) (apart-none old c.self.invariant c.args.number none)
