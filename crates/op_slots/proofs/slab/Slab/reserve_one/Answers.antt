use Rattle.std.proofs.Common.{sym, ◌∙◌}
use Rattle.op_slots.proofs.Inserting.{reserved_ok}
use Rattle.op_slots.proofs.slab.Slab.reserve_one.Goals as goal

pub invariant_of-self-2 : goal.invariant_of-self-2
invariant_of-self-2 g c = (
  c.make_place.ensures.memory,
  rw c.make_place.ensures.same
      (reserved_ok _ _ _ _ c.make_place.new.pages _ _ _ c.make_place.new.first c.self.invariant.1
      (sym c.is_err.ensures.value ∙ c.if-is_err.false) c.make_place.ensures.ok).kept,
)

pub returns-clause-ok : goal.returns-clause-ok
returns-clause-ok g c =
    rw c.make_place.ensures.same
    (reserved_ok _ _ _ _ c.make_place.new.pages _ _ _ c.make_place.new.first c.self.invariant.1
    (sym c.is_err.ensures.value ∙ c.if-is_err.false) c.make_place.ensures.ok).room

pub returns-clause-made : goal.returns-clause-made
returns-clause-made g c =
    rw (← c.self.view_is)
    (reserved_ok _ _ _ _ c.make_place.new.pages _ _ _ c.make_place.new.first c.self.invariant.1
    (sym c.is_err.ensures.value ∙ c.if-is_err.false) c.make_place.ensures.ok).made
