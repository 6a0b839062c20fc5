use Rattle.std.proofs.Common.{◌+◌, refl, sym, ◌∙◌, ap, subst}
use Rattle.std.proofs.lemmas.List.{length-append}
use Rattle.machine.specs.Request.{plain_request}
use Rattle.driver_core.specs.Operations.{new_slot}
use Rattle.ready_driver.specs.Polling.{SlotsStand, joined_at}
use Rattle.ready_driver.proofs.Slots.{slots-joined}
use Rattle.ready_driver.proofs.polling.submit.Goals as goal

pub returns-clause-submits : goal.returns-clause-submits
returns-clause-submits g c = λ D group stand. record {
  given = c.submit.ensures.submits.given ∙ ap (λ k. k + 1) stand.given ∙ sym (length-append D.slots _);
  slots = subst (λ m. SlotsStand g.B.IoBufMut.buffer m (joined_at D (plain_request g.B.IoBufMut.buffer c.args.request) group))
      (sym c.submit.ensures.submits.slots)
      (slots-joined g.B.IoBufMut.buffer c.args.ops.now.slots.values D c.submit.result.key c.args.request group
      (new_slot c.args.ops.now c.args.request) stand.slots c.submit.ensures.submits.free stand.given refl tt);
}
