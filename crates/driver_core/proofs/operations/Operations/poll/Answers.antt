use Rattle.std.proofs.Common.{Option, refl, sym, subst}
use Rattle.driver_core.specs.declared.op.Done.{Done}
use Rattle.driver_core.specs.Op.{Holds, PollsTokens}
use Rattle.driver_core.specs.Slot.{PollsAt}
use Rattle.driver_core.specs.Ops.{Ops}
use Rattle.driver_core.specs.Requests.{ReturnsRequest}
use Rattle.driver_core.proofs.Requests.{poll-requests, poll-returns}
use Rattle.driver_core.proofs.SlotTokens.{tokens-kept, poll-keeps, poll-spends, numbered-kept, numbered-spent}
use Rattle.driver_core.proofs.operations.Operations.poll.Goals.{in-None, in-Some}
use Rattle.driver_core.proofs.operations.Operations.poll.Goals as goal

pub invariant_of-self : goal.invariant_of-self
invariant_of-self g c =
    let old : Ops g.row.B.Denot = record { slots = c.self.inside.slots; given = c.self.inside.given } in
    let new = c.poll_at.new.slots.values in
    let holds : Holds old c.args.op = subst (λ o. Holds o c.args.op) (sym c.self.view_is) c.requires in
    let polls = subst (λ k. PollsAt old.slots.values k c.args.task new c.poll_at.result) c.key.ensures c.poll_at.ensures in
    elim c.match-poll_at.branch [
      | in-None w ↦ numbered-kept old.slots.values new old.given c.self.invariant
          (poll-keeps old.slots.values c.args.op holds c.args.task new
          (subst (λ (r : Option (Done g.row.B.Denot)). PollsAt old.slots.values c.args.op.key c.args.task new r) w.in-None.is polls))
      | in-Some w ↦ numbered-spent old.slots.values new old.given c.args.op c.self.invariant
          (poll-spends old.slots.values c.args.op holds c.args.task new w.in-Some.done
          (subst (λ (r : Option (Done g.row.B.Denot)). PollsAt old.slots.values c.args.op.key c.args.task new r) w.in-Some.is polls))
    ]

pub returns-clause-tokens : goal.returns-clause-tokens
returns-clause-tokens g c =
    let old : Ops g.row.B.Denot = record { slots = c.self.inside.slots; given = c.self.inside.given } in
    let after : Ops g.row.B.Denot = record { slots = c.poll_at.new.slots; given = c.self.inside.given } in
    let new = c.poll_at.new.slots.values in
    let holds : Holds old c.args.op = subst (λ o. Holds o c.args.op) (sym c.self.view_is) c.requires in
    let polls = subst (λ k. PollsAt old.slots.values k c.args.task new c.poll_at.result) c.key.ensures c.poll_at.ensures in
    rw (← c.self.view_is) (elim c.match-poll_at.branch [
      | in-None w ↦ subst (λ r. PollsTokens old after c.args.op r) (sym w.result-is) (
        refl,
        tokens-kept old.slots.values new
            (poll-keeps old.slots.values c.args.op holds c.args.task new
            (subst (λ (r : Option (Done g.row.B.Denot)). PollsAt old.slots.values c.args.op.key c.args.task new r) w.in-None.is polls)),
      )
      | in-Some w ↦ subst (λ r. PollsTokens old after c.args.op r) (sym w.result-is)
          (poll-spends old.slots.values c.args.op holds c.args.task new w.in-Some.done
          (subst (λ (r : Option (Done g.row.B.Denot)). PollsAt old.slots.values c.args.op.key c.args.task new r) w.in-Some.is polls))
    ])

pub returns-clause-request : goal.returns-clause-request
returns-clause-request g c =
    let old : Ops g.row.B.Denot = record { slots = c.self.inside.slots; given = c.self.inside.given } in
    let new = c.poll_at.new.slots.values in
    let holds : Holds old c.args.op = subst (λ o. Holds o c.args.op) (sym c.self.view_is) c.requires in
    let polls = subst (λ k. PollsAt old.slots.values k c.args.task new c.poll_at.result) c.key.ensures c.poll_at.ensures in
    rw (← c.self.view_is) (elim c.match-poll_at.branch [
      | in-None w ↦ subst (λ r. ReturnsRequest old c.args.op r) (sym w.result-is) tt
      | in-Some w ↦ subst (λ r. ReturnsRequest old c.args.op r) (sym w.result-is)
          (poll-returns old.slots.values new c.args.op c.args.task w.in-Some.done holds
          (subst (λ (r : Option (Done g.row.B.Denot)). PollsAt old.slots.values c.args.op.key c.args.task new r) w.in-Some.is polls))
    ])

pub returns-clause-requests : goal.returns-clause-requests
returns-clause-requests g c =
    let old : Ops g.row.B.Denot = record { slots = c.self.inside.slots; given = c.self.inside.given } in
    let holds : Holds old c.args.op = subst (λ o. Holds o c.args.op) (sym c.self.view_is) c.requires in
    let new = c.poll_at.new.slots.values in
    let polls = subst (λ k. PollsAt old.slots.values k c.args.task new c.poll_at.result) c.key.ensures c.poll_at.ensures in
    rw (← c.self.view_is) (poll-requests old.slots.values new c.args.op c.args.task c.poll_at.result holds polls)
