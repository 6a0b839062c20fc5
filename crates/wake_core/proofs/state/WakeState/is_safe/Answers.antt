use Rattle.std.proofs.Common.{◌≡◌, ◌+◌, length, subst}
use Rattle.wake_core.specs.SenderSlot.{seen}
use Rattle.wake_core.specs.WakeState.{Wake}
use Rattle.wake_core.proofs.NumberLemmas.{level_of_safe}
use Rattle.wake_core.proofs.state.WakeState.is_safe.Goals as goal

pub returns-clause-level : goal.returns-clause-level
returns-clause-level g c =
    let parts = c.self.inside in
    let was = seen parts.queue.items parts.flag parts.token parts.senders parts.pushes.total parts.drains.total parts.stage in
    subst (λ (w : Wake). w.drains + length w.queue ≡ w.pushes) c.self.view_is (level_of_safe was c.self.invariant)
