use Rattle.std.proofs.Common.{refl, sym, ◌∙◌, ap, arith}
use Rattle.std.specs.FinMap.{len}
use Rattle.op_slots.specs.Layout.{places_of}
use Rattle.op_slots.proofs.Pages.{first-mono}
use Rattle.op_slots.proofs.Places.{len-places}
use Rattle.op_slots.proofs.Inserting.{inserted_at, can-put_at, held-live}
use Rattle.op_slots.proofs.slab.Slab.insert.Goals as goal

pub put-key-requires : goal.put-key-requires
put-key-requires g c =
    can-put_at _ _ _ _ _ c.self.inside.removals _ _ _ c.self.invariant.1.laid c.in-Ok.ensures.ok c.make_place.ensures.same
    c.make_place.ensures.memory

pub invariant_of-self : goal.invariant_of-self
invariant_of-self g c = (
  rw c.put-key.ensures.memory c.make_place.ensures.memory,
  (inserted_at _ _ _ _ _ _ _ _ _ _ _ _ _ c.args.val c.self.invariant.1 c.in-Ok.ensures.ok c.make_place.ensures.same
      c.put-key.ensures.put).kept,
)

pub returns-in-Ok-clause-fresh : goal.returns-in-Ok-clause-fresh
returns-in-Ok-clause-fresh g c =
    rw (← c.self.view_is)
    (inserted_at _ _ _ _ _ _ _ _ _ _ _ _ _ c.args.val c.self.invariant.1 c.in-Ok.ensures.ok c.make_place.ensures.same
    c.put-key.ensures.put).fresh

pub returns-in-Ok-clause-below : goal.returns-in-Ok-clause-below
returns-in-Ok-clause-below g c =
    (inserted_at _ _ _ _ _ _ _ _ _ _ _ _ _ c.args.val c.self.invariant.1 c.in-Ok.ensures.ok c.make_place.ensures.same
    c.put-key.ensures.put).below

pub returns-in-Ok-clause-ok : goal.returns-in-Ok-clause-ok
returns-in-Ok-clause-ok g c =
    rw (← c.self.view_is)
    (inserted_at _ _ _ _ _ _ _ _ _ _ _ _ _ c.args.val c.self.invariant.1 c.in-Ok.ensures.ok c.make_place.ensures.same
    c.put-key.ensures.put).values

pub returns-in-Ok-clause-full : goal.returns-in-Ok-clause-full
returns-in-Ok-clause-full g c = (
  λ e. cc,
  λ full.
      let put = inserted_at _ _ _ _ _ _ _ _ _ _ _ _ _ c.args.val c.self.invariant.1 c.in-Ok.ensures.ok c.make_place.ensures.same
      c.put-key.ensures.put in
      let live = len-places (places_of c.self.inside.entries.items) in
      let is = ap (λ s. len s.values) c.self.view_is in
      absurd (omega (arith, put.space, live, is, full)),
)

pub returns-in-Ok-clause-pages : goal.returns-in-Ok-clause-pages
returns-in-Ok-clause-pages g c =
    rw (← c.self.view_is)
    (inserted_at _ _ _ _ _ _ _ _ _ _ _ _ _ c.args.val c.self.invariant.1 c.in-Ok.ensures.ok c.make_place.ensures.same
    c.put-key.ensures.put).pages

pub returns-in-Ok-clause-made : goal.returns-in-Ok-clause-made
returns-in-Ok-clause-made g c =
    rw (← c.self.view_is)
    (inserted_at _ _ _ _ _ _ _ _ _ _ _ _ _ c.args.val c.self.invariant.1 c.in-Ok.ensures.ok c.make_place.ensures.same
    c.put-key.ensures.put).made

pub returns-in-Err-Full-clause-full : goal.returns-in-Err-Full-clause-full
returns-in-Err-Full-clause-full g c =
    let all = rw c.in-Err-Full.field-0-is at c.in-Err-Full.ensures.why in
    let live = held-live c.self.inside.entries.items c.self.inside.pages c.self.inside.removals c.in-Err-Full.ensures.held in
    let is = ap (λ s. len s.values) c.self.view_is in
    (λ e. rw all at (sym is ∙ live), λ full. refl)

pub returns-in-Err-Full-clause-refused : goal.returns-in-Err-Full-clause-refused
returns-in-Err-Full-clause-refused g c =
    let all = rw c.in-Err-Full.field-0-is at c.in-Err-Full.ensures.why in
    let live = held-live c.self.inside.entries.items c.self.inside.pages c.self.inside.removals c.in-Err-Full.ensures.held in
    let is = ap (λ s. len s.values) c.self.view_is in
    (rw all at (sym is ∙ live), refl)

pub returns-in-Err-OutOfMemory-clause-full : goal.returns-in-Err-OutOfMemory-clause-full
returns-in-Err-OutOfMemory-clause-full g c =
    let why = rw c.in-Err-OutOfMemory.field-0-is at c.in-Err-OutOfMemory.ensures.why in
    let live = held-live c.self.inside.entries.items c.self.inside.pages c.self.inside.removals c.in-Err-OutOfMemory.ensures.held in
    let is = ap (λ s. len s.values) c.self.view_is in
    let less = first-mono c.self.inside.pages 25 (omega (arith, why)) in
    (λ e. cc, λ full. absurd (omega (arith, less, live, is, full)))

pub returns-in-Err-OutOfMemory-clause-refused : goal.returns-in-Err-OutOfMemory-clause-refused
returns-in-Err-OutOfMemory-clause-refused g c =
    let why = rw c.in-Err-OutOfMemory.field-0-is at c.in-Err-OutOfMemory.ensures.why in
    let held = c.in-Err-OutOfMemory.ensures.held in
    let live = held-live c.self.inside.entries.items c.self.inside.pages c.self.inside.removals held in
    let is = ap (λ s. len s.values) c.self.view_is in
    let less = first-mono c.self.inside.pages 25 (omega (arith, why)) in
    (omega (arith, less, live, is), rw (← c.self.view_is) (omega (arith, held)), refl)
