use Rattle.std.proofs.Common.{arith, ◌≡◌, ◌∙◌, ◌+◌, ◌≤◌, ◌∷◌, [], List, ℕ, length, length-append, drop, ap, sym, subst}
use Rattle.std.specs.Prelude.{All}
use Rattle.std.proofs.lemmas.List.Elements.{All-push}
use Rattle.rent_buf.specs.Ranges.{Range, Ranging, places}
use Rattle.rent_buf.proofs.Places.{length-added}
use Rattle.rent_buf.proofs.ranges.Ranges.add.Goals as goal

pub invariant_of-self-2 : goal.invariant_of-self-2
invariant_of-self-2 c =
    let s = c.self.inside in let items = c.in_ok-push.ensures.items in
    let first : s.first ≤ length c.push.new.self.items = omega
    (arith, ap length items, length-append s.ranges.items ((c.args.part, 0, c.args.len) ∷ []), c.self.invariant.0) in
    let ordered : 0 ≤ c.args.len = omega arith in
    let added = length-added s.ranges.items s.first c.args.part c.args.len c.self.invariant.0 in (
      first,
      subst (All (λ (r : Range). r.1 ≤ r.2)) (sym items)
          (All-push (λ (r : Range). r.1 ≤ r.2) s.ranges.items (c.args.part, 0, c.args.len) c.self.invariant.1 ordered),
      ap (λ (n : ℕ). n + c.args.len) c.self.invariant.2 ∙ sym added ∙ ap (λ (l : List Range). length (places (drop s.first l))) (sym items),
    )

pub returns-clause-whole : goal.returns-clause-whole
returns-clause-whole c =
    let s = c.self.inside in
    let whole : length (places (drop s.first s.ranges.items)) ≡ s.len = subst (λ (v : Ranging). length (places v.ranges) ≡ v.len)
    (sym c.self.view_is) c.requires.whole in
    ap (λ (l : List Range). length (places (drop s.first l))) c.in_ok-push.ensures.items
    ∙ length-added s.ranges.items s.first c.args.part c.args.len c.self.invariant.0 ∙ ap (λ (n : ℕ). n + c.args.len) whole
