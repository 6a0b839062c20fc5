use Rattle.std.proofs.Common.{◌≡◌, ◌++◌, ◌∷◌, [], List, ap, sym, subst, ◌∙◌, arith}
use Rattle.wake_core.specs.declared.senders.SenderSlot.{SenderSlot}
use Rattle.wake_core.specs.declared.waker.Waker.{Waker}
use Rattle.wake_core.specs.SenderSlot.{new_slot, seen}
use Rattle.wake_core.specs.SenderTable.{entry_of}
use Rattle.wake_core.specs.Waker.{waker}
use Rattle.wake_core.specs.WakeSafety.{WakeSafety}
use Rattle.wake_core.specs.WakeState.{Wake, CanPush, after_push}
use Rattle.wake_core.proofs.SafetyLemmas.{safe_push}
use Rattle.wake_core.proofs.SlotLemmas.{pushed-slot}
use Rattle.wake_core.proofs.ViewLemmas.{seen-push}
use Rattle.wake_core.proofs.state.WakeState.push.Goals as goal

pub overflow_add-slot : goal.overflow_add-slot
overflow_add-slot g c =
    let parts = c.self.inside in
    let can = subst (λ (w : Wake). CanPush w c.args.sender) (sym c.self.view_is) c.requires.admitted in
    let room = can.room in
    let same =
    ap (λ (slot : SenderSlot). slot.pushed) c.get-number.ensures ∙ pushed-slot parts.queue.items parts.senders c.args.sender in
    omega arith

pub invariant_of-self-2 : goal.invariant_of-self-2
invariant_of-self-2 g c =
    let parts = c.self.inside in
    let was = seen parts.queue.items parts.flag parts.token parts.senders parts.pushes.total parts.drains.total parts.stage in
    let number = c.get-number.result.pushed in
    let next : number ≡ (entry_of new_slot parts.senders c.args.sender).pushed =
    ap (λ (slot : SenderSlot). slot.pushed) c.get-number.ensures in
    let added = waker c.args.sender number c.args.task in
    let queue : c.push_reserved.new.self.items ≡ parts.queue.items ++ added ∷ [] =
    c.push_reserved.ensures.items ∙ ap (λ (ws : List Waker). ws ++ added ∷ []) c.reserve.ensures.items in
    let same = seen-push parts.queue.items parts.flag parts.token parts.senders parts.pushes.total parts.drains.total parts.stage
    c.args.sender c.args.task number
    c.push_reserved.new.self.items c.put.new.self c.add.new.self.total next queue c.in_ok-put.ensures.ok c.add.ensures.total in
    let can = subst (λ (w : Wake). CanPush w c.args.sender) (sym c.self.view_is) c.requires.admitted in
    subst WakeSafety (sym same) (safe_push was c.args.sender c.args.task c.self.invariant can)

pub returns-clause-ok : goal.returns-clause-ok
returns-clause-ok g c =
    let parts = c.self.inside in
    let number = c.get-number.result.pushed in
    let next : number ≡ (entry_of new_slot parts.senders c.args.sender).pushed =
    ap (λ (slot : SenderSlot). slot.pushed) c.get-number.ensures in
    let added = waker c.args.sender number c.args.task in
    let queue : c.push_reserved.new.self.items ≡ parts.queue.items ++ added ∷ [] =
    c.push_reserved.ensures.items ∙ ap (λ (ws : List Waker). ws ++ added ∷ []) c.reserve.ensures.items in
    seen-push parts.queue.items parts.flag parts.token parts.senders parts.pushes.total parts.drains.total parts.stage
    c.args.sender c.args.task number
    c.push_reserved.new.self.items c.put.new.self c.add.new.self.total next queue c.in_ok-put.ensures.ok c.add.ensures.total
    ∙ ap (λ (w : Wake). after_push w c.args.sender c.args.task) c.self.view_is
