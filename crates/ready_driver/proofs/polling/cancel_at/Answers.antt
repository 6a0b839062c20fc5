use Rattle.std.proofs.Common.{refl, sym, ◌∙◌}
use Rattle.machine.proofs.Amended.{length-amended}
use Rattle.ready_driver.proofs.Ended.{lands, canceled-stand}
use Rattle.ready_driver.proofs.polling.cancel_at.Goals as goal

pub returns-in-Some-clause-cancels : goal.returns-in-Some-clause-cancels
returns-in-Some-clause-cancels g c = λ D stand. record {
  given = c.complete.ensures.given ∙ stand.given ∙ sym (length-amended _ D.slots c.args.number);
  slots = canceled-stand c.args.ops.now.slots.values c.complete.new.self.slots.values c.args.key c.args.number _ _ c.requires
      refl c.complete.ensures.completes g.B.IoBufMut.buffer D refl stand.slots;
}

pub returns-in-Some-clause-landed : goal.returns-in-Some-clause-landed
returns-in-Some-clause-landed g c =
    lands c.args.ops.now.slots.values c.complete.new.self.slots.values c.args.key c.args.number _ _ c.requires refl
    c.complete.ensures.completes

pub returns-in-None-clause-cancels : goal.returns-in-None-clause-cancels
returns-in-None-clause-cancels g c = λ D stand. record {
  given = c.complete.ensures.given ∙ stand.given ∙ sym (length-amended _ D.slots c.args.number);
  slots = canceled-stand c.args.ops.now.slots.values c.complete.new.self.slots.values c.args.key c.args.number _ _ c.requires
      refl c.complete.ensures.completes g.B.IoBufMut.buffer D refl stand.slots;
}
