use Rattle.std.proofs.Common.{◌≡◌, [], ◌∷◌, ◌++◌, true, length, sym, ap, subst, ◌∙◌, arith}
use Rattle.ring_core.specs.Ring.{fresh_flight}
use Rattle.ring_core.specs.Ranks.{kept, kept_first}
use Rattle.ring_core.specs.Flights.{words_of}
use Rattle.ring_core.specs.Links.{AreLinked}
use Rattle.ring_core.proofs.Counting.{kept-one-more}
use Rattle.ring_core.proofs.Keeping.{in_flight, length-kept, kept-joined, linked-more}
use Rattle.ring_core.proofs.flights.Flights.push_reserved.Goals as goal

pub make_way-requires-clause-room : goal.make_way-requires-clause-room
make_way-requires-clause-room c =
    let same = c.self.invariant.1.together in
    let enough = c.self.invariant.1.enough in
    let kept_ones = length-kept c.self.inside.ranks.flags c.self.inside.items.items (omega arith) in
    let shown : length (kept c.self.inside.ranks.flags c.self.inside.items.items) ≡ length c.args.self.now.flights =
    ap (λ v. length v.flights) c.self.view_is in
    let room : c.self.inside.room ≡ c.args.self.now.room = ap (λ v. v.room) c.self.view_is in
    let some = c.requires in
    omega arith

pub link-requires-clause-linked : goal.link-requires-clause-linked
link-requires-clause-linked c =
    let same = c.make_way.ensures.together in
    subst (λ items. AreLinked c.make_way.new.links c.make_way.new.ranks.flags (words_of items)) (sym c.push_reserved.ensures.items)
    (linked-more _ _ c.make_way.new.items.items _ (omega arith) c.make_way.ensures.linked)

pub overflow_add-self : goal.overflow_add-self
overflow_add-self c =
    let count = c.self.invariant.1.count in
    let same = c.self.invariant.1.together in
    let kept_ones = length-kept c.self.inside.ranks.flags c.self.inside.items.items (omega arith) in
    let shown : length (kept c.self.inside.ranks.flags c.self.inside.items.items) ≡ length c.args.self.now.flights =
    ap (λ v. length v.flights) c.self.view_is in
    let room : c.self.inside.room ≡ c.args.self.now.room = ap (λ v. v.room) c.self.view_is in
    let some = c.requires in
    omega arith

pub invariant_of-self : goal.invariant_of-self
invariant_of-self c =
    let same = c.make_way.ensures.together in
    let count = c.self.invariant.1.count in
    let enough = c.self.invariant.1.enough in
    let memory = c.self.invariant.1.memory in
    let before = length-kept c.self.inside.ranks.flags c.self.inside.items.items (let t = c.self.invariant.1.together in omega arith) in
    let now = length-kept c.make_way.new.ranks.flags c.make_way.new.items.items (omega arith) in
    let kept_same = ap length c.make_way.ensures.kept in
    let one_more = kept-one-more c.make_way.new.ranks.flags in
    let longer = ap length c.link.ensures.flags in
    let counted = ap (λ flags. kept_first (length flags) flags) c.link.ensures.flags in
    let room = c.link.ensures.room in
    let room_before = c.make_way.ensures.room in
    let items = c.push_reserved.ensures.len in
    let capacity = c.push_reserved.ensures.capacity in
    let capacity_before = c.make_way.ensures.capacity in (
      c.link.ensures.linked,
      record { together = omega arith; count = omega arith; memory = omega arith; enough = omega arith },
      λ spot none. cc,
    )

pub returns : goal.returns
returns c =
    let same = c.make_way.ensures.together in
    ap (in_flight c.self.inside.room)
    (ap (λ flags. kept flags c.push_reserved.new.self.items) c.link.ensures.flags
    ∙ ap (kept (c.make_way.new.ranks.flags ++ true ∷ [])) c.push_reserved.ensures.items
    ∙ kept-joined c.make_way.new.ranks.flags c.make_way.new.items.items _ (omega arith)
    ∙ ap (λ flights. flights ++ fresh_flight c.args.entry c.args.bound ∷ []) c.make_way.ensures.kept)
    ∙ ap (λ v. in_flight v.room (v.flights ++ fresh_flight c.args.entry c.args.bound ∷ [])) c.self.view_is
