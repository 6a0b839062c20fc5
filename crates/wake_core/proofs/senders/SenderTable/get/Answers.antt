use Rattle.std.proofs.Common.{ap, sym, ◌∙◌}
use Rattle.wake_core.specs.SenderSlot.{new_slot}
use Rattle.wake_core.specs.SenderTable.{entry_of}
use Rattle.wake_core.proofs.TableLemmas.{get_or-entry_of, entry_of-past}
use Rattle.wake_core.proofs.senders.SenderTable.get.Goals as goal

pub returns-in-Some : goal.returns-in-Some
returns-in-Some c =
    let found = c.in-Some.ensures.lookup in
    found.3.1 new_slot
    ∙ get_or-entry_of new_slot c.deref.result.now c.args.number
    ∙ ap (λ xs. entry_of new_slot xs c.args.number) (c.deref.ensures.value ∙ c.self.view_is)

pub returns-in-None : goal.returns-in-None
returns-in-None c =
    let past = c.in-None.ensures.lookup in
    c.made.ensures
    ∙ sym (entry_of-past new_slot c.deref.result.now c.args.number past.3)
    ∙ ap (λ xs. entry_of new_slot xs c.args.number) (c.deref.ensures.value ∙ c.self.view_is)
