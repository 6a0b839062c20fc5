use Rattle.std.proofs.Common.{arith, ◌≡◌, ◌∙◌, ◌+◌, ◌-◌, ◌<◌, ◌≤◌, ℕ, List, length, length-drop, length-set, drop, ap, sym, subst}
use Rattle.std.specs.Prelude.{slice_set}
use Rattle.std.proofs.lemmas.List.Elements.{All-set}
use Rattle.rent_buf.specs.Ranges.{Range, Ranging, places, consumed}
use Rattle.rent_buf.proofs.Consumed.{consumed-none, consumed-cut-at, consumed-behind-at}
use Rattle.rent_buf.proofs.Places.{some-left, places-cut-at, places-behind-at}
use Rattle.rent_buf.proofs.ranges.Ranges.take_front.Goals as goal

left-there : (ranges : List Range) (first len most : ℕ) (view : Ranging) → record { ranges = drop first ranges; len = len } ≡ view
    → 0 < most → most ≤ length (places view.ranges) → first < length ranges
left-there ranges first len most view is some within =
    let here : most ≤ length (places (drop first ranges)) = subst (λ (v : Ranging). most ≤ length (places v.ranges)) (sym is) within in
    some-left ranges first (omega arith)

pub overflow_sub-count : goal.overflow_sub-count
overflow_sub-count c =
    let s = c.self.inside in
    let there = left-there s.ranges.items s.first s.len c.args.most c.args.self.now c.self.view_is c.requires.some c.requires.within in
    subst (λ (r : Range). r.1 ≤ r.2) (sym c.index.ensures) (c.self.invariant.1 s.first c.index.result.now there)

pub invariant_of-self : goal.invariant_of-self
invariant_of-self c =
    let s = c.self.inside in let range = c.index.result.now in
    let there = left-there s.ranges.items s.first s.len c.args.most c.args.self.now c.self.view_is c.requires.some c.requires.within in
    let small : c.args.most < range.2 - range.1 = omega (arith, c.if-most-count.true) in
    let cut : range.1 + c.args.most ≤ range.2 = omega arith in
    let count = length-set s.ranges.items s.first (range.0, range.1 + c.args.most, range.2) in
    let kept = length-drop c.args.most (places (drop s.first s.ranges.items)) in
    let are = places-cut-at s.ranges.items s.first c.args.most range there c.index.ensures small in
    let old = c.self.invariant.2 in (
      omega arith,
      All-set (λ (r : Range). r.1 ≤ r.2) s.ranges.items s.first (range.0, range.1 + c.args.most, range.2) cut
          c.self.invariant.1,
      ap (λ (n : ℕ). n - c.args.most) old ∙ sym kept ∙ ap length (sym are),
    )

pub returns-then-most-count-clause-places : goal.returns-then-most-count-clause-places
returns-then-most-count-clause-places c =
    let s = c.self.inside in let range = c.index.result.now in
    let there = left-there s.ranges.items s.first s.len c.args.most c.args.self.now c.self.view_is c.requires.some c.requires.within in
    places-cut-at s.ranges.items s.first c.args.most range there c.index.ensures (omega (arith, c.if-most-count.true))
    ∙ ap (λ (v : Ranging). drop c.args.most (places v.ranges)) c.self.view_is

pub invariant_of-self-2 : goal.invariant_of-self-2
invariant_of-self-2 c =
    let s = c.self.inside in let range = c.index.result.now in
    let there = left-there s.ranges.items s.first s.len c.args.most c.args.self.now c.self.view_is c.requires.some c.requires.within in
    let kept = length-drop (range.2 - range.1) (places (drop s.first s.ranges.items)) in
    let are = places-behind-at s.ranges.items s.first range there c.index.ensures in
    (omega arith, c.self.invariant.1, ap (λ (n : ℕ). n - (range.2 - range.1)) c.self.invariant.2 ∙ sym kept ∙ ap length (sym are))

pub returns-clause-places : goal.returns-clause-places
returns-clause-places c =
    let s = c.self.inside in let range = c.index.result.now in
    let there = left-there s.ranges.items s.first s.len c.args.most c.args.self.now c.self.view_is c.requires.some c.requires.within in
    places-behind-at s.ranges.items s.first range there c.index.ensures
    ∙ ap (λ (v : Ranging). drop (range.2 - range.1) (places v.ranges)) c.self.view_is

pub returns-then-most-count-clause-ranges : goal.returns-then-most-count-clause-ranges
returns-then-most-count-clause-ranges c =
    let s = c.self.inside in let range = c.index.result.now in
    let there = left-there s.ranges.items s.first s.len c.args.most c.args.self.now c.self.view_is c.requires.some c.requires.within in
    let after = drop s.first (slice_set s.ranges.items s.first (range.0, range.1 + c.args.most, range.2)) in
    ap (λ (v : Ranging). consumed v.ranges c.args.most) (sym c.self.view_is)
    ∙ consumed-cut-at s.ranges.items s.first c.args.most range there c.index.ensures c.requires.some (omega (arith, c.if-most-count.true))
    ∙ sym (consumed-none after (c.args.most - c.args.most) (omega arith))

pub returns-clause-ranges : goal.returns-clause-ranges
returns-clause-ranges c =
    let s = c.self.inside in let range = c.index.result.now in
    let there = left-there s.ranges.items s.first s.len c.args.most c.args.self.now c.self.view_is c.requires.some c.requires.within in
    ap (λ (v : Ranging). consumed v.ranges c.args.most) (sym c.self.view_is)
    ∙ consumed-behind-at s.ranges.items s.first c.args.most range there c.index.ensures c.requires.some
    (omega (arith, c.if-most-count.false))
