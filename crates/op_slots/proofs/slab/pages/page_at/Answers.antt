use Rattle.op_slots.proofs.Pages.{page_of-digit}
use Rattle.op_slots.proofs.slab.pages.page_at.Goals as goal

pub overflow_sub-result : goal.overflow_sub-result
overflow_sub-result c =
    (page_of-digit c.args.key c.ilog2.result c.requires c.ilog2.ensures.power_le c.ilog2.ensures.next_power_gt).0

pub returns : goal.returns
returns c = (page_of-digit c.args.key c.ilog2.result c.requires c.ilog2.ensures.power_le c.ilog2.ensures.next_power_gt).1
