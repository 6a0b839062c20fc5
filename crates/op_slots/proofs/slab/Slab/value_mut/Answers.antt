use Rattle.std.proofs.Common.{refl, sym, ap, subst, ◌∙◌, arith}
use Rattle.std.specs.Prelude.{IsSome}
use Rattle.std.proofs.lemmas.Option.{slice_get_within}
use Rattle.op_slots.specs.Slots.{with_value}
use Rattle.op_slots.specs.Entry.{value_of}
use Rattle.op_slots.proofs.Entries.{read-entry}
use Rattle.op_slots.proofs.Kept.{live-entry, live-on, get-entry, kept-keep, slots-keep}
use Rattle.op_slots.proofs.slab.Slab.value_mut.Goals as goal

pub index_mut-requires : goal.index_mut-requires
index_mut-requires g c =
    let found = live-entry c.self.inside.entries.items c.self.inside.pages c.self.inside.removals c.args.key
    (rw (← c.self.view_is) at c.requires) in
    omega (arith, slice_get_within c.self.inside.entries.items c.args.key _ found.1)

pub value_mut-requires : goal.value_mut-requires
value_mut-requires g c =
    let found = live-entry c.self.inside.entries.items c.self.inside.pages c.self.inside.removals c.args.key
    (rw (← c.self.view_is) at c.requires) in
    let read = read-entry c.self.inside.entries.items c.args.key _ c.index_mut.result.now found.1 c.index_mut.ensures.value in
    subst (λ e. IsSome (value_of e)) (sym read) refl

pub invariant_of-self-lent : goal.invariant_of-self-lent
invariant_of-self-lent g c w =
    let found = live-entry c.self.inside.entries.items c.self.inside.pages c.self.inside.removals c.args.key
    (rw (← c.self.view_is) at c.requires) in
    (c.self.invariant.0, kept-keep _ _ _ _ _ _ c.args.key found.0 w c.self.invariant.1 found.1)

pub returns : goal.returns
returns g c =
    let found = live-entry c.self.inside.entries.items c.self.inside.pages c.self.inside.removals c.args.key
    (rw (← c.self.view_is) at c.requires) in
    let read = read-entry c.self.inside.entries.items c.args.key _ c.index_mut.result.now found.1 c.index_mut.ensures.value in
    let here = get-entry c.self.inside.entries.items c.self.inside.pages c.self.inside.removals c.args.key _ found.1 in (
      (
        refl,
        λ w. slots-keep c.self.inside.entries.items c.self.inside.pages c.self.inside.removals c.args.key found.0 w found.1
            ∙ ap (λ s. with_value s c.args.key w) c.self.view_is,
      ),
      record {
        writes_back = tt;
        value = rw (← c.self.view_is) (here ∙ ap value_of (sym read) ∙ c.value_mut.ensures.value);
        below = (live-on _ _ _ c.self.inside.removals c.args.key c.self.invariant.1.laid (rw (← c.self.view_is) at c.requires)).0;
      },
    )
