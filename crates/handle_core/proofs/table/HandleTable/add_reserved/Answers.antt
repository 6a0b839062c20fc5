use Rattle.std.proofs.Common.{◌-◌, ap, arith}
use Rattle.handle_core.specs.Table.{Table}
use Rattle.handle_core.proofs.Tables.{updated, ok-says}
use Rattle.handle_core.proofs.Kept.{kept-updated}
use Rattle.handle_core.proofs.table.HandleTable.add_reserved.Goals as goal

pub returns : goal.returns
returns c =
    let room = ap (λ (t : Table). t.spare) c.self.view_is in
    let some = c.insert.ensures.succeeds (omega (arith, room, c.requires.room, c.self.invariant.room)) in
    ap (λ (t : Table). record { holders = t.holders; spare = t.spare - 1 })
    (updated c.self.inside.handles _ _ c.self.view_is c.insert.new.self _ _ (ok-says _ some c.insert.ensures.updates))

pub invariant_of-self : goal.invariant_of-self
invariant_of-self c =
    let room = ap (λ (t : Table). t.spare) c.self.view_is in
    let some = c.insert.ensures.succeeds (omega (arith, room, c.requires.room, c.self.invariant.room)) in
    kept-updated c.self.inside.handles _ c.self.invariant c.insert.new.self _ _ (ok-says _ some c.insert.ensures.updates)
    c.insert.ensures.spare c.requires.somebody
