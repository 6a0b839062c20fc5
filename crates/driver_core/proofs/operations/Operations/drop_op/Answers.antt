use Rattle.std.proofs.Common.{sym, subst}
use Rattle.driver_core.specs.Op.{Holds}
use Rattle.driver_core.specs.Slot.{DropsAt}
use Rattle.driver_core.specs.Ops.{Ops}
use Rattle.driver_core.proofs.Requests.{drop-requests}
use Rattle.driver_core.proofs.SlotTokens.{drop-spends, numbered-spent}
use Rattle.driver_core.proofs.operations.Operations.drop_op.Goals as goal

pub invariant_of-self : goal.invariant_of-self
invariant_of-self g c =
    let old : Ops g.row.B.Denot = record { slots = c.self.inside.slots; given = c.self.inside.given } in
    let holds : Holds old c.args.op = subst (λ o. Holds o c.args.op) (sym c.self.view_is) c.requires in
    let drops = subst (λ k. DropsAt old.slots.values k c.drop_at.new.slots.values c.drop_at.result) c.spend.ensures c.drop_at.ensures in
    numbered-spent old.slots.values c.drop_at.new.slots.values old.given c.args.op c.self.invariant
    (drop-spends old.slots.values c.args.op holds c.drop_at.new.slots.values c.drop_at.result drops)

pub returns-clause-tokens : goal.returns-clause-tokens
returns-clause-tokens g c =
    let old : Ops g.row.B.Denot = record { slots = c.self.inside.slots; given = c.self.inside.given } in
    let holds : Holds old c.args.op = subst (λ o. Holds o c.args.op) (sym c.self.view_is) c.requires in
    let drops = subst (λ k. DropsAt old.slots.values k c.drop_at.new.slots.values c.drop_at.result) c.spend.ensures c.drop_at.ensures in
    rw (← c.self.view_is) (drop-spends old.slots.values c.args.op holds c.drop_at.new.slots.values c.drop_at.result drops)

pub returns-clause-requests : goal.returns-clause-requests
returns-clause-requests g c =
    let old : Ops g.row.B.Denot = record { slots = c.self.inside.slots; given = c.self.inside.given } in
    let holds : Holds old c.args.op = subst (λ o. Holds o c.args.op) (sym c.self.view_is) c.requires in
    let drops = subst (λ k. DropsAt old.slots.values k c.drop_at.new.slots.values c.drop_at.result) c.spend.ensures c.drop_at.ensures in
    rw (← c.self.view_is) (drop-requests old.slots.values c.drop_at.new.slots.values c.args.op c.drop_at.result holds drops)
