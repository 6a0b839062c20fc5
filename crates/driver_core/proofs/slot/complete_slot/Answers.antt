use Rattle.std.proofs.Common.{rules, sym, ◌∙◌}
use Rattle.driver_core.proofs.Numbers.{owned-kept, owned-wake, owned-free, keeps-completed, keeps-freed}
use Rattle.driver_core.proofs.Completing.{completes-kept, completes-wake, completes-free}
use Rattle.driver_core.proofs.slot.complete_slot.Goals as goal

pub returns-in-Kept-clause-completes : goal.returns-in-Kept-clause-completes
returns-in-Kept-clause-completes g c =
    completes-kept c.args.slots.now.values c.args.completion.now c.value_mut-slot.result.now c.complete.new.self
    c.value_mut-slot.ensures.value c.complete.ensures.state (search rules) (sym c.complete.ensures.answer ∙ c.in-Kept.is)

pub returns-in-Kept-clause-numbers : goal.returns-in-Kept-clause-numbers
returns-in-Kept-clause-numbers g c =
    keeps-completed c.args.slots.now.values c.args.completion.now.word c.value_mut-slot.result.now c.complete.new.self
    c.args.completion.now.outcome c.value_mut-slot.ensures.value c.complete.ensures.state
    (owned-kept c.value_mut-slot.result.now.life (sym c.complete.ensures.answer ∙ c.in-Kept.is))

pub returns-in-Wake-clause-completes : goal.returns-in-Wake-clause-completes
returns-in-Wake-clause-completes g c =
    completes-wake c.args.slots.now.values c.args.completion.now c.value_mut-slot.result.now c.complete.new.self
    c.value_mut-slot.ensures.value c.complete.ensures.state (search rules) c.in-Wake.task (sym c.complete.ensures.answer ∙ c.in-Wake.is)

pub returns-in-Wake-clause-numbers : goal.returns-in-Wake-clause-numbers
returns-in-Wake-clause-numbers g c =
    keeps-completed c.args.slots.now.values c.args.completion.now.word c.value_mut-slot.result.now c.complete.new.self
    c.args.completion.now.outcome c.value_mut-slot.ensures.value c.complete.ensures.state
    (owned-wake c.value_mut-slot.result.now.life c.in-Wake.task (sym c.complete.ensures.answer ∙ c.in-Wake.is))

pub returns-in-Free-clause-completes : goal.returns-in-Free-clause-completes
returns-in-Free-clause-completes g c =
    completes-free c.args.slots.now.values c.args.completion.now c.value_mut-slot.result.now c.complete.new.self
    c.value_mut-slot.ensures.value c.complete.ensures.state (search rules) _ (sym c.complete.ensures.answer ∙ c.in-Free.is)
    c.remove.ensures.new

pub returns-in-Free-clause-numbers : goal.returns-in-Free-clause-numbers
returns-in-Free-clause-numbers g c =
    keeps-freed c.args.slots.now.values c.args.completion.now.word c.value_mut-slot.result.now c.complete.new.self
    c.args.completion.now.outcome c.value_mut-slot.ensures.value c.complete.ensures.state _
    (owned-free c.value_mut-slot.result.now.life (sym c.complete.ensures.answer ∙ c.in-Free.is)) c.remove.ensures.new
