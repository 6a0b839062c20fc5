use Rattle.std.proofs.Common.{ap, ◌∙◌, arith}
use Rattle.std.specs.FinMap.{len}
use Rattle.op_slots.proofs.Kept.{kept-len, kept-bound, keys-below, on-pages}
use Rattle.op_slots.proofs.slab.Slab.len.Goals as goal

pub returns-clause-count : goal.returns-clause-count
returns-clause-count g c = kept-len _ _ _ _ _ _ c.self.invariant.1 ∙ ap (λ s. len s.values) c.self.view_is

pub returns-clause-bound : goal.returns-clause-bound
returns-clause-bound g c = omega (arith, kept-bound _ _ _ _ _ _ c.self.invariant.1)

pub returns-clause-keys : goal.returns-clause-keys
returns-clause-keys g c = rw (← c.self.view_is) (keys-below _ _ _ c.self.inside.removals c.self.invariant.1.laid)

pub returns-clause-pages : goal.returns-clause-pages
returns-clause-pages g c = rw (← c.self.view_is) (on-pages _ _ _ c.self.inside.removals c.self.invariant.1.laid)
