use Rattle.std.proofs.Common.{◌≡◌, ◌++◌, ◌∷◌, [], ◌+◌, ◌-◌, replicate, length, arith, ◌∙◌, ap}
use Rattle.wake_core.specs.SenderSlot.{new_slot}
use Rattle.wake_core.specs.SenderTable.{with_entry}
use Rattle.wake_core.proofs.TableLemmas.{slice_set-with_entry, append-with_entry}
use Rattle.wake_core.proofs.senders.SenderTable.put.Goals as goal

pub returns-then-number-len-clause-ok : goal.returns-then-number-len-clause-ok
returns-then-number-len-clause-ok c =
    slice_set-with_entry new_slot _ _ _ (omega arith) ∙ ap (λ xs. with_entry new_slot xs c.args.number c.args.slot) c.self.view_is

pub returns-clause-ok : goal.returns-clause-ok
returns-clause-ok c =
    let table = c.self.inside.items.items in
    let more = c.args.number - c.len-len.result in
    let len = c.len-len.ensures in
    let extended = c.extend.ensures.items ∙ ap (λ xs. xs ++ replicate more new_slot) c.reserve.ensures.items in
    let written : c.push_reserved.new.self.items ≡ (table ++ replicate more new_slot) ++ c.args.slot ∷ [] =
    c.push_reserved.ensures.items ∙ ap (λ xs. xs ++ c.args.slot ∷ []) extended in
    let past : c.args.number ≡ length table + more = omega arith in
    written
    ∙ append-with_entry new_slot table c.args.number more c.args.slot past
    ∙ ap (λ xs. with_entry new_slot xs c.args.number c.args.slot) c.self.view_is
