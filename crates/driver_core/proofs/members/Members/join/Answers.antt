use Rattle.std.specs.Prelude.{◌≡◌, ◌<◌, length, None}
use Rattle.std.proofs.Common.{sym, subst}
use Rattle.driver_core.specs.Members.{Membership, key_at}
use Rattle.driver_core.proofs.Membership.{placed-joined, place-none, put-taken}
use Rattle.driver_core.proofs.members.Members.join.Goals as goal

pub invariant_of-self-in-Ok : goal.invariant_of-self-in-Ok
invariant_of-self-in-Ok c =
    let old : Membership = record { groups = c.self.inside.groups; places = c.self.inside.places } in
    let known = subst (λ (m : Membership). c.args.g < length m.groups) (sym c.self.view_is) c.requires.known in
    let apart = place-none old c.args.number (subst (λ m. key_at m c.args.number ≡ None) (sym c.self.view_is) c.requires.apart) in
    rw (c.in-Ok.ensures.ok, c.in_ok-put.ensures.ok) (placed-joined old c.self.invariant c.args.g c.args.number c.args.key known apart)

pub invariant_of-self-in-Err : goal.invariant_of-self-in-Err
invariant_of-self-in-Err c =
    let old : Membership = record { groups = c.self.inside.groups; places = c.self.inside.places } in
    let apart = place-none old c.args.number (subst (λ m. key_at m c.args.number ≡ None) (sym c.self.view_is) c.requires.apart) in
    let undone = put-taken old.places c.args.number (record { key = c.args.key; group = c.args.g }) apart in
    rw (c.in-Err.ensures.err, c.take.ensures.rest, c.in_ok-put.ensures.ok, undone) c.self.invariant

pub returns-in-Err-clause-err : goal.returns-in-Err-clause-err
returns-in-Err-clause-err c =
    let old : Membership = record { groups = c.self.inside.groups; places = c.self.inside.places } in
    let apart = place-none old c.args.number (subst (λ m. key_at m c.args.number ≡ None) (sym c.self.view_is) c.requires.apart) in
    let undone = put-taken old.places c.args.number (record { key = c.args.key; group = c.args.g }) apart in
    rw (c.in-Err.ensures.err, c.take.ensures.rest, c.in_ok-put.ensures.ok, undone) c.self.view_is
