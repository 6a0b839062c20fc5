use Rattle.std.proofs.Common.{sym, ◌∙◌, ap, subst}
use Rattle.std.specs.FinMap.{remove}
use Rattle.machine.proofs.Amended.{length-amended}
use Rattle.driver_core.proofs.Numbers.{owner}
use Rattle.ready_driver.specs.LegacyStep.{freed}
use Rattle.ready_driver.specs.Polling.{SlotsStand, asked_at}
use Rattle.ready_driver.proofs.Ended.{freed-asked, dropped-stand}
use Rattle.ready_driver.proofs.Named.{gone-canceled}
use Rattle.ready_driver.proofs.polling.drop_op.Goals as goal

pub returns-clause-drops : goal.returns-clause-drops
returns-clause-drops g c = λ D stand. (
    let mid = c.cancel.ensures.cancels D stand in
    let holds = (c.cancel.ensures.tokens c.args.op).0 c.requires in
    let own = owner c.cancel.new.ops.slots.values c.args.op.key c.args.op.number holds in record {
      given = c.drop_op.ensures.given ∙ c.cancel.ensures.given ∙ stand.given ∙ sym (length-amended _ D.slots c.args.op.number);
      slots = subst (SlotsStand g.B.IoBufMut.buffer c.drop_op.new.self.slots.values) (freed-asked D c.args.op.number)
          (subst (λ m. SlotsStand g.B.IoBufMut.buffer m (freed (asked_at D c.args.op.number) c.args.op.number))
          (sym (c.in-Free.ensures.drops own.slot own.there).1)
          (dropped-stand g.B.IoBufMut.buffer (asked_at D c.args.op.number) c.cancel.new.ops.slots.values c.args.op.key c.args.op.number
          mid.slots holds));
    })

pub returns-clause-slots : goal.returns-clause-slots
returns-clause-slots g c =
    let holds = (c.cancel.ensures.tokens c.args.op).0 c.requires in
    let own = owner c.cancel.new.ops.slots.values c.args.op.key c.args.op.number holds in
    (c.in-Free.ensures.drops own.slot own.there).1 ∙ ap (λ m. remove m c.args.op.key) c.cancel.ensures.slots
    ∙ gone-canceled c.args.ops.now.slots.values c.args.op.key
