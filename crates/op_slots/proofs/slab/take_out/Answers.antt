use Rattle.std.proofs.Common.{Some, set, refl, sym, ap, ◌∙◌, arith}
use Rattle.std.proofs.lemmas.Option.{slice_get_within}
use Rattle.op_slots.proofs.Entries.{entry-at, read-entry, not_vacant}
use Rattle.op_slots.proofs.slab.take_out.Goals as goal

pub index_mut-requires : goal.index_mut-requires
index_mut-requires g c =
    let found = entry-at c.args.entries.now.items c.args.key c.requires.held in
    omega (arith, slice_get_within c.args.entries.now.items c.args.key _ found.1)

pub overflow_cast-list : goal.overflow_cast-list
overflow_cast-list g c =
    let found = entry-at c.args.entries.now.items c.args.key c.requires.held in
    let within = slice_get_within c.args.entries.now.items c.args.key _ found.1 in
    omega (arith, within, c.requires.few)

pub unreachable-requires : goal.unreachable-requires
unreachable-requires g c =
    let found = entry-at c.args.entries.now.items c.args.key c.requires.held in
    let read = read-entry c.args.entries.now.items c.args.key _ c.index_mut.result.now found.1 c.index_mut.ensures.value in
    not_vacant found.0 _ (sym c.in-Vacant.is ∙ c.replace.ensures.value ∙ read)

pub returns-clause-takes : goal.returns-clause-takes
returns-clause-takes g c =
    let found = entry-at c.args.entries.now.items c.args.key c.requires.held in
    let read = read-entry c.args.entries.now.items c.args.key _ c.index_mut.result.now found.1 c.index_mut.ensures.value in
    let was = sym read ∙ sym c.replace.ensures.value ∙ c.in-Occupied.is in
    record { held = found.1 ∙ ap Some was; emptied = ap (set c.args.entries.now.items c.args.key) c.replace.ensures.after; leads = refl }
