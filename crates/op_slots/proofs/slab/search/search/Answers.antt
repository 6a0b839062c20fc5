use Rattle.std.proofs.Common.{inl, refl, arith}
use Rattle.op_slots.proofs.Laid.{all-held}
use Rattle.op_slots.proofs.slab.search.search.Goals as goal

pub returns-in-Some-clause-ok : goal.returns-in-Some-clause-ok
returns-in-Some-clause-ok g c = inl (refl, omega (arith, c.in-Some.ensures.some.0), inl c.in-Some.ensures.some.1)

pub returns-in-Some-open_page-clause-ok : goal.returns-in-Some-open_page-clause-ok
returns-in-Some-open_page-clause-ok g c =
    let found = c.in-Some-open_page.ensures.some in
    let same = c.in-Err.ensures.err in
    inl (same, omega (arith, found.0, same), inl found.1)

pub returns-in-None-clause-held : goal.returns-in-None-clause-held
returns-in-None-clause-held g c =
    let same = c.in-Err.ensures.err in
    let none = rw same at c.in-None.ensures.none in
    omega (arith, all-held c.args.entries.now.items c.args.lists.now c.args.pages.now c.requires.laid none, c.requires.laid.within)
