use Rattle.std.proofs.Common.{◌≡◌, [], ◌+◌, length, ◌∙◌, ap, sym, subst, arith}
use Rattle.wake_core.specs.SenderSlot.{states_of, seen}
use Rattle.wake_core.specs.SenderTable.{sender_of}
use Rattle.wake_core.specs.WakerList.{IsInOrder}
use Rattle.wake_core.specs.WakeSafety.{WakeSafety}
use Rattle.wake_core.specs.WakeState.{after_drain_rest}
use Rattle.wake_core.proofs.SafetyLemmas.{safe_drain}
use Rattle.wake_core.proofs.ViewLemmas.{seen-drain}
use Rattle.wake_core.proofs.state.WakeState.drain_rest.Goals as goal

pub invariant_of-self : goal.invariant_of-self
invariant_of-self g c =
    let parts = c.self.inside in
    let was = seen parts.queue.items parts.flag parts.token parts.senders parts.pushes.total parts.drains.total parts.stage in
    let none : c.replace-queue.new.dest.items ≡ [] = ap (λ v. v.items) c.replace-queue.ensures.after ∙ c.new-empty.ensures.items in
    let drains : c.add.new.self.total ≡ parts.drains.total + length parts.queue.items =
    omega (arith, c.add.ensures.total, c.len-count.ensures) in
    let same = seen-drain parts.queue.items parts.flag parts.token parts.senders parts.pushes.total parts.drains.total parts.stage
    c.replace-queue.new.dest.items c.add.new.self.total none drains in
    subst WakeSafety (sym same) (safe_drain was parts.stage c.self.invariant c.self.invariant.flag_fits)

pub returns-clause-state : goal.returns-clause-state
returns-clause-state g c =
    let parts = c.self.inside in
    let none : c.replace-queue.new.dest.items ≡ [] = ap (λ v. v.items) c.replace-queue.ensures.after ∙ c.new-empty.ensures.items in
    let drains : c.add.new.self.total ≡ parts.drains.total + length parts.queue.items =
    omega (arith, c.add.ensures.total, c.len-count.ensures) in
    seen-drain parts.queue.items parts.flag parts.token parts.senders parts.pushes.total parts.drains.total parts.stage
    c.replace-queue.new.dest.items c.add.new.self.total none drains
    ∙ ap after_drain_rest c.self.view_is

pub returns-clause-order : goal.returns-clause-order
returns-clause-order g c =
    let parts = c.self.inside in
    let senders = states_of parts.queue.items parts.senders in
    let same : parts.queue.items ≡ c.from_vec.result = sym (c.from_vec.ensures ∙ ap (λ v. v.items) c.replace-queue.ensures.value) in
    subst IsInOrder same (λ s. ((sender_of senders s).drained, (sender_of senders s).pushed, (c.self.invariant.numbers_run_on s).numbers))
