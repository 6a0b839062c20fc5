use Rattle.std.proofs.Common.{ap, sym, subst, ◌∙◌}
use Rattle.wake_core.specs.declared.senders.SenderStage.{SenderStage}
use Rattle.wake_core.specs.SenderSlot.{seen}
use Rattle.wake_core.specs.WakeSafety.{WakeSafety}
use Rattle.wake_core.specs.WakeState.{Wake, CanReadFlag, with_sender_at, after_read_flag}
use Rattle.wake_core.proofs.SafetyLemmas.{safe_read_flag}
use Rattle.wake_core.proofs.SlotLemmas.{placed}
use Rattle.wake_core.proofs.ViewLemmas.{seen-stage}
use Rattle.wake_core.proofs.state.WakeState.read_flag.Goals as goal

pub set_stage-requires : goal.set_stage-requires
set_stage-requires g c =
    let pushed = subst (λ (w : Wake). CanReadFlag w c.args.sender) (sym c.self.view_is) c.requires in
    placed c.self.inside.queue.items c.self.inside.senders c.args.sender (λ idle. cc)

pub invariant_of-self : goal.invariant_of-self
invariant_of-self g c =
    let parts = c.self.inside in
    let was = seen parts.queue.items parts.flag parts.token parts.senders parts.pushes.total parts.drains.total parts.stage in
    let same = seen-stage parts.queue.items parts.flag parts.token parts.senders parts.pushes.total parts.drains.total parts.stage
    c.args.sender c.stage_after.result c.set_stage.new.self c.set_stage.ensures
    ∙ ap (λ (to : SenderStage). with_sender_at was c.args.sender to) c.stage_after.ensures in
    subst WakeSafety (sym same) (safe_read_flag was c.args.sender c.self.invariant)

pub returns-clause-state : goal.returns-clause-state
returns-clause-state g c =
    let parts = c.self.inside in
    let was = seen parts.queue.items parts.flag parts.token parts.senders parts.pushes.total parts.drains.total parts.stage in
    seen-stage parts.queue.items parts.flag parts.token parts.senders parts.pushes.total parts.drains.total parts.stage
    c.args.sender c.stage_after.result c.set_stage.new.self c.set_stage.ensures
    ∙ ap (λ (to : SenderStage). with_sender_at was c.args.sender to) c.stage_after.ensures
    ∙ ap (λ (w : Wake). after_read_flag w c.args.sender) c.self.view_is
