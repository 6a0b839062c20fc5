use Rattle.std.proofs.Common.{map, sym, ap, subst, ◌∙◌, arith}
use Rattle.ring_core.specs.Ring.{marked_by}
use Rattle.ring_core.specs.Ranks.{kept}
use Rattle.ring_core.specs.Flights.{words_of}
use Rattle.ring_core.specs.Links.{AreLinked}
use Rattle.ring_core.proofs.Keeping.{in_flight, kept-map, marks-nothing, marks-one, linked-none, linked-one, words-map, words-amended}
use Rattle.ring_core.proofs.flights.Flights.mark.Goals as goal

pub invariant_of-self : goal.invariant_of-self
invariant_of-self c = (
  subst (AreLinked c.self.inside.links c.self.inside.ranks.flags)
      (sym (ap words_of c.mark_at.ensures.items ∙ words-amended c.args.word c.in-At.slot c.self.inside.items.items)) c.self.invariant.0,
  record { together = omega arith; count = c.self.invariant.1.count; memory = omega arith; enough = c.self.invariant.1.enough },
  c.self.invariant.2,
)

pub invariant_of-self-in-Anywhere : goal.invariant_of-self-in-Anywhere
invariant_of-self-in-Anywhere c = (
  subst (AreLinked c.self.inside.links c.self.inside.ranks.flags)
      (sym (ap words_of c.mark_all.ensures.items ∙ words-map c.args.word c.self.inside.items.items)) c.self.invariant.0,
  record { together = omega arith; count = c.self.invariant.1.count; memory = omega arith; enough = c.self.invariant.1.enough },
  c.self.invariant.2,
)

pub returns-in-At : goal.returns-in-At
returns-in-At c =
    let flags = c.self.inside.ranks.flags in
    let items = c.self.inside.items.items in
    let link = c.in-At.ensures in
    ap (in_flight c.self.inside.room)
    (ap (kept flags) c.mark_at.ensures.items
    ∙ marks-one c.args.word flags items c.in-At.slot
    (linked-one _ flags items c.args.word c.in-At.slot c.self.invariant.0 link.0 link.1 link.2))
    ∙ ap (λ v. in_flight v.room (map (marked_by c.args.word) v.flights)) c.self.view_is

pub returns-in-Nowhere : goal.returns-in-Nowhere
returns-in-Nowhere c =
    let flags = c.self.inside.ranks.flags in
    let items = c.self.inside.items.items in
    let none = c.in-Nowhere.ensures in
    sym c.self.view_is
    ∙ ap (in_flight c.self.inside.room)
    (marks-nothing c.args.word flags items (linked-none _ flags items c.args.word c.self.invariant.0 none.0 none.1 none.2))
    ∙ ap (λ v. in_flight v.room (map (marked_by c.args.word) v.flights)) c.self.view_is

pub returns-in-Anywhere : goal.returns-in-Anywhere
returns-in-Anywhere c =
    ap (in_flight c.self.inside.room)
    (ap (kept c.self.inside.ranks.flags) c.mark_all.ensures.items
    ∙ kept-map (marked_by c.args.word) c.self.inside.ranks.flags c.self.inside.items.items)
    ∙ ap (λ v. in_flight v.room (map (marked_by c.args.word) v.flights)) c.self.view_is
