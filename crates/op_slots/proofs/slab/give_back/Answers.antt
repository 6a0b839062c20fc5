use Rattle.std.proofs.Common.{refl, ◌∙◌, arith}
use Rattle.op_slots.proofs.Removing.{dropped}
use Rattle.op_slots.proofs.slab.give_back.Goals as goal

pub returns-clause-looks : goal.returns-clause-looks
returns-clause-looks g c =
    dropped c.args.entries.now.items _ c.args.lists.now c.args.pages.now c.end_of-begin.result (record { place = 0; count = 0 }) _
    c.requires.laid (omega arith) c.end_of-begin.ensures (omega arith) (c.shrink_to.ensures.items ∙ c.truncate.ensures.items) refl
