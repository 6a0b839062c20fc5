use Rattle.std.proofs.Common.{ap, sym, subst, ◌∙◌, true}
use Rattle.wake_core.specs.declared.senders.SenderStage.TheVariants.{Idle}
use Rattle.wake_core.specs.SenderSlot.{seen}
use Rattle.wake_core.specs.WakeSafety.{WakeSafety}
use Rattle.wake_core.specs.WakeState.{Wake, CanSetToken, after_set_token}
use Rattle.wake_core.proofs.SafetyLemmas.{safe_set_token}
use Rattle.wake_core.proofs.SlotLemmas.{placed}
use Rattle.wake_core.proofs.ViewLemmas.{seen-stage}
use Rattle.wake_core.proofs.state.WakeState.set_token.Goals as goal

pub set_stage-requires : goal.set_stage-requires
set_stage-requires g c =
    let called = subst (λ (w : Wake). CanSetToken w c.args.sender) (sym c.self.view_is) c.requires in
    placed c.self.inside.queue.items c.self.inside.senders c.args.sender (λ idle. cc)

pub invariant_of-self : goal.invariant_of-self
invariant_of-self g c =
    let parts = c.self.inside in
    let was = seen parts.queue.items parts.flag parts.token parts.senders parts.pushes.total parts.drains.total parts.stage in
    let same = seen-stage parts.queue.items parts.flag true parts.senders parts.pushes.total parts.drains.total parts.stage
    c.args.sender Idle c.set_stage.new.self c.set_stage.ensures in
    subst WakeSafety (sym same) (safe_set_token was c.args.sender c.self.invariant)

pub returns : goal.returns
returns g c =
    let parts = c.self.inside in
    seen-stage parts.queue.items parts.flag true parts.senders parts.pushes.total parts.drains.total parts.stage
    c.args.sender Idle c.set_stage.new.self c.set_stage.ensures
    ∙ ap (λ (w : Wake). after_set_token w c.args.sender) c.self.view_is
