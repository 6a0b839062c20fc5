use Rattle.std.proofs.Common.{◌≡◌, length, sym, ap, subst, ◌∙◌, arith}
use Rattle.machine.specs.Lists.{amended}
use Rattle.ring_core.specs.Bound.{unbound}
use Rattle.ring_core.specs.Ranks.{kept}
use Rattle.ring_core.specs.Flights.{words_of}
use Rattle.ring_core.specs.Links.{AreLinked}
use Rattle.machine.proofs.Amended.{amended-past}
use Rattle.ring_core.proofs.Binding.{kept-amended, words-unbound}
use Rattle.ring_core.proofs.Keeping.{in_flight, length-kept}
use Rattle.ring_core.proofs.flights.Flights.unbind.Goals as goal

pub returns-then-place-self : goal.returns-then-place-self
returns-then-place-self c =
    let same = c.self.invariant.1.together in
    let count = c.self.invariant.1.count in
    let kept_ones = length-kept c.self.inside.ranks.flags c.self.inside.items.items (omega arith) in
    let shown : length (kept c.self.inside.ranks.flags c.self.inside.items.items) ≡ length c.args.self.now.flights =
    ap (λ v. length v.flights) c.self.view_is in
    let past = c.if-place-self.true in
    ap (in_flight c.args.self.now.room) (amended-past unbound c.args.self.now.flights c.args.place (omega arith))

pub invariant_of-self : goal.invariant_of-self
invariant_of-self c = (
  subst (AreLinked c.self.inside.links c.self.inside.ranks.flags)
      (sym (ap words_of c.unbind_at.ensures.items ∙ words-unbound c.self.inside.items.items c.select-slot.result)) c.self.invariant.0,
  record { together = omega arith; count = c.self.invariant.1.count; memory = omega arith; enough = c.self.invariant.1.enough },
  c.self.invariant.2,
)

pub returns : goal.returns
returns c =
    let flags = c.self.inside.ranks.flags in
    let items = c.self.inside.items.items in
    ap (in_flight c.self.inside.room)
    (ap (kept flags) c.unbind_at.ensures.items
    ∙ kept-amended unbound flags items c.select-slot.result c.select-slot.ensures.kept
    ∙ ap (λ n. amended (kept flags items) n unbound) c.select-slot.ensures.rank)
    ∙ ap (λ v. in_flight v.room (amended v.flights c.args.place unbound)) c.self.view_is
