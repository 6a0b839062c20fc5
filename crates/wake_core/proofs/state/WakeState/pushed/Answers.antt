use Rattle.std.proofs.Common.{ap, ◌∙◌}
use Rattle.wake_core.specs.declared.senders.SenderSlot.{SenderSlot}
use Rattle.wake_core.specs.SenderTable.{sender_of}
use Rattle.wake_core.specs.WakeState.{Wake}
use Rattle.wake_core.proofs.SlotLemmas.{pushed-slot}
use Rattle.wake_core.proofs.state.WakeState.pushed.Goals as goal

pub returns : goal.returns
returns g c =
    ap (λ (slot : SenderSlot). slot.pushed) c.get.ensures
    ∙ pushed-slot c.self.inside.queue.items c.self.inside.senders c.args.sender
    ∙ ap (λ (w : Wake). (sender_of w.senders c.args.sender).pushed) c.self.view_is
