use Rattle.std.proofs.Common.{refl, sym, ap, subst}
use Rattle.op_slots.specs.declared.lifecycle.Lifecycle.TheVariants.{Submitted}
use Rattle.driver_core.specs.declared.slot.Slot.{Slot}
use Rattle.driver_core.specs.Requests.{request_in, StaysHeld}
use Rattle.driver_core.proofs.Requests.{request-added, stays-added}
use Rattle.driver_core.proofs.SlotTokens.{adds-this, adds-kept, adds-only, numbered-more}
use Rattle.driver_core.proofs.operations.Operations.submit.Goals as goal

pub invariant_of-self : goal.invariant_of-self
invariant_of-self g c =
    let given = c.self.inside.given in
    let slot : Slot g.row.B.Denot = record { serial = given; request = c.args.request; life = Submitted } in
    numbered-more c.self.inside.slots.values c.insert.new.self.values given c.in-Ok.key slot c.in-Ok.ensures.fresh refl refl
    c.in-Ok.ensures.ok c.self.invariant c.in-Ok.ensures.below

pub returns-clause-token : goal.returns-clause-token
returns-clause-token g c =
    let given = c.self.inside.given in
    let old = c.self.inside.slots.values in
    let new = c.insert.new.self.values in
    let op = c.make-op.result in
    let slot : Slot g.row.B.Denot = record { serial = given; request = c.args.request; life = Submitted } in
    let key = ap (λ o. o.key) c.make-op.ensures in
    let number = ap (λ o. o.number) c.make-op.ensures in
    rw (← c.self.view_is) (record {
      this = adds-this old new given c.in-Ok.key slot c.in-Ok.ensures.fresh refl refl c.in-Ok.ensures.ok op key number;
      kept = adds-kept old new given c.in-Ok.key slot c.in-Ok.ensures.fresh refl refl c.in-Ok.ensures.ok;
      only = λ other held. adds-only old new given c.in-Ok.key slot c.in-Ok.ensures.fresh refl refl c.in-Ok.ensures.ok op other key number
          held;
      number = number;
      next = refl;
    })

pub returns-clause-request : goal.returns-clause-request
returns-clause-request g c =
    let slot : Slot g.row.B.Denot = record { serial = c.self.inside.given; request = c.args.request; life = Submitted } in
    request-added c.self.inside.slots.values c.insert.new.self.values c.in-Ok.key c.make-op.result.key slot c.in-Ok.ensures.ok
    (ap (λ o. o.key) c.make-op.ensures)

pub returns-clause-requests : goal.returns-clause-requests
returns-clause-requests g c =
    let slot : Slot g.row.B.Denot = record { serial = c.self.inside.given; request = c.args.request; life = Submitted } in
    rw (← c.self.view_is) (subst (λ m. StaysHeld request_in c.self.inside.slots.values m) (sym c.in-Ok.ensures.ok)
    (stays-added request_in c.self.inside.slots.values c.in-Ok.key slot c.in-Ok.ensures.fresh))
