use Rattle.std.proofs.Common.{slice_index_or, sym, ◌∙◌}
use Rattle.ready_driver.proofs.Asking.{keyed-slot}
use Rattle.ready_driver.proofs.legacy.groups.ask_each.Goals as goal

pub ask-task-requires : goal.ask-task-requires
ask-task-requires g c =
    keyed-slot c.args.members.now c.args.ops.now c.loop-i.ops (slice_index_or c.args.numbers.now c.loop-i.i 0) c.in-Some.key
    c.requires.in_slots c.loop-i.invariant.tokens (sym c.key_of.ensures.key ∙ c.in-Some.is)
