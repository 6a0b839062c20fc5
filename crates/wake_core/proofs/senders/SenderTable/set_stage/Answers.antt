use Rattle.std.proofs.Common.{◌≡◌, ◌<◌, length, List, ◌∙◌, ap, sym, subst}
use Rattle.wake_core.specs.declared.senders.SenderSlot.{SenderSlot}
use Rattle.wake_core.specs.SenderSlot.{new_slot}
use Rattle.wake_core.specs.SenderTable.{entry_of, with_entry}
use Rattle.wake_core.proofs.TableLemmas.{get_or-placed, slice_set-with_entry}
use Rattle.wake_core.proofs.senders.SenderTable.set_stage.Goals as goal

pub returns : goal.returns
returns c =
    let table = c.self.inside.items.items in
    let placed = subst (λ (xs : List SenderSlot). c.args.number < length xs) (sym c.self.view_is) c.requires in
    let was : c.index_mut.result.now ≡ entry_of new_slot table c.args.number =
    c.index_mut.ensures.value ∙ get_or-placed new_slot c.index_mut.result.now table c.args.number placed in
    let at = λ (slot : SenderSlot). (let made : SenderSlot = record slot { stage = c.args.stage } in made) in
    slice_set-with_entry new_slot table c.args.number (at c.index_mut.result.now) placed
    ∙ ap (λ slot. with_entry new_slot table c.args.number (at slot)) was
    ∙ ap (λ xs. with_entry new_slot xs c.args.number (at (entry_of new_slot xs c.args.number))) c.self.view_is
