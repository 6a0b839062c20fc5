use Rattle.std.proofs.Common.{sym, subst}
use Rattle.driver_core.specs.Op.{Holds}
use Rattle.driver_core.specs.Slot.{EndsSlot}
use Rattle.driver_core.specs.Ops.{Ops}
use Rattle.driver_core.proofs.SlotTokens.{end-spends, numbered-spent}
use Rattle.driver_core.proofs.operations.Operations.end_op.Goals as goal

pub invariant_of-self : goal.invariant_of-self
invariant_of-self g c =
    let old : Ops g.row.B.Denot = record { slots = c.self.inside.slots; given = c.self.inside.given } in
    let holds : Holds old c.args.op = subst (λ o. Holds o c.args.op) (sym c.self.view_is) c.requires in
    let ends =
    subst (λ k. EndsSlot old.slots.values k c.args.outcome c.end_at.new.slots.values c.end_at.result) c.spend.ensures c.end_at.ensures in
    numbered-spent old.slots.values c.end_at.new.slots.values old.given c.args.op c.self.invariant
    (end-spends old.slots.values c.args.op holds c.args.outcome c.end_at.new.slots.values c.end_at.result ends)

pub returns-clause-token : goal.returns-clause-token
returns-clause-token g c =
    let old : Ops g.row.B.Denot = record { slots = c.self.inside.slots; given = c.self.inside.given } in
    let holds : Holds old c.args.op = subst (λ o. Holds o c.args.op) (sym c.self.view_is) c.requires in
    let ends =
    subst (λ k. EndsSlot old.slots.values k c.args.outcome c.end_at.new.slots.values c.end_at.result) c.spend.ensures c.end_at.ensures in
    rw (← c.self.view_is) (end-spends old.slots.values c.args.op holds c.args.outcome c.end_at.new.slots.values c.end_at.result ends)
