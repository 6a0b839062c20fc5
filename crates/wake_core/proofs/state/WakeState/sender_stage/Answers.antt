use Rattle.std.proofs.Common.{ap, ◌∙◌}
use Rattle.wake_core.specs.declared.senders.SenderSlot.{SenderSlot}
use Rattle.wake_core.specs.SenderTable.{sender_of}
use Rattle.wake_core.specs.WakeState.{Wake}
use Rattle.wake_core.proofs.SlotLemmas.{stage-slot}
use Rattle.wake_core.proofs.state.WakeState.sender_stage.Goals as goal

pub returns : goal.returns
returns g c =
    ap (λ (slot : SenderSlot). slot.stage) c.get.ensures
    ∙ stage-slot c.self.inside.queue.items c.self.inside.senders c.args.sender
    ∙ ap (λ (w : Wake). (sender_of w.senders c.args.sender).stage) c.self.view_is
