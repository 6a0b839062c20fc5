use Rattle.std.proofs.Common.{◌≡◌, ℕ, false, length, set, remove, sym, ap, subst, ◌∙◌, arith}
use Rattle.std.proofs.Math.ListN.{length-set}
use Rattle.ring_core.specs.Ranks.{kept, kept_first}
use Rattle.ring_core.specs.Flights.{words_of}
use Rattle.ring_core.specs.Links.{AreLinked}
use Rattle.ring_core.proofs.Counting.{kept-less}
use Rattle.ring_core.proofs.Keeping.{in_flight, length-kept, kept-released, linked-released, length-none}
use Rattle.ring_core.proofs.flights.Flights.remove.Goals as goal

pub slot_at-slot-requires-clause-some : goal.slot_at-slot-requires-clause-some
slot_at-slot-requires-clause-some c =
    let same = c.self.invariant.1.together in
    let kept_ones = length-kept c.self.inside.ranks.flags c.self.inside.items.items (omega arith) in
    let shown : length (kept c.self.inside.ranks.flags c.self.inside.items.items) ≡ length c.args.self.now.flights =
    ap (λ v. length v.flights) c.self.view_is in
    let some = c.requires in
    omega arith

pub overflow_sub-self : goal.overflow_sub-self
overflow_sub-self c =
    let same = c.self.invariant.1.together in
    let count = c.self.invariant.1.count in
    let kept_ones = length-kept c.self.inside.ranks.flags c.self.inside.items.items (omega arith) in
    let shown : length (kept c.self.inside.ranks.flags c.self.inside.items.items) ≡ length c.args.self.now.flights =
    ap (λ v. length v.flights) c.self.view_is in
    let some = c.requires in
    omega arith

pub restart-requires : goal.restart-requires
restart-requires c =
    let count = c.self.invariant.1.count in
    let none = c.if-self-eq0.true in
    let less = kept-less c.self.inside.ranks.flags c.slot_at-slot.result c.slot_at-slot.ensures.is_kept in
    ap (λ ranks. kept_first (length ranks.flags) ranks.flags) c.release.ensures
    ∙ (let zero : ◌≡◌ {A = ℕ} (kept_first (length (set c.self.inside.ranks.flags c.slot_at-slot.result false))
    (set c.self.inside.ranks.flags c.slot_at-slot.result false)) 0 = omega arith in zero)

pub invariant_of-self-else-self-eq0 : goal.invariant_of-self-else-self-eq0
invariant_of-self-else-self-eq0 c =
    let flags = c.self.inside.ranks.flags in
    let slot = c.slot_at-slot.result in
    let same = c.self.invariant.1.together in
    let count = c.self.invariant.1.count in
    let less = kept-less flags slot c.slot_at-slot.ensures.is_kept in
    let shorter = length-set flags slot false in
    let released = ap (λ ranks. length ranks.flags) c.release.ensures in
    let left = ap (λ ranks. kept_first (length ranks.flags) ranks.flags) c.release.ensures in
    let room = ap (λ ranks. ranks.room) c.release.ensures in (
      subst (λ ranks. AreLinked c.self.inside.links ranks.flags (words_of c.self.inside.items.items)) (sym c.release.ensures)
          (linked-released _ flags _ slot c.self.invariant.0),
      record { together = omega arith; count = omega arith; memory = omega arith; enough = omega arith },
      λ spot none. cc,
    )

pub returns-then-self-eq0 : goal.returns-then-self-eq0
returns-then-self-eq0 c =
    let flags = c.self.inside.ranks.flags in
    let items = c.self.inside.items.items in
    let slot = c.slot_at-slot.result in
    let together = c.self.invariant.1.together in
    let count = c.self.invariant.1.count in
    let none = c.if-self-eq0.true in
    let less = kept-less flags slot c.slot_at-slot.ensures.is_kept in
    let shorter = length-set flags slot false in
    let left = length-kept (set flags slot false) items (omega arith) in
    ap (in_flight c.self.inside.room)
    (ap (λ ranks. kept ranks.flags c.clear.new.self.items) c.restart.ensures
    ∙ length-none (kept (set flags slot false) items) (omega arith)
    ∙ kept-released flags items slot c.slot_at-slot.ensures.is_kept (omega arith)
    ∙ ap (remove (kept flags items)) c.slot_at-slot.ensures.rank)
    ∙ ap (λ v. in_flight v.room (remove v.flights c.args.place)) c.self.view_is

pub returns-else-self-eq0 : goal.returns-else-self-eq0
returns-else-self-eq0 c =
    let flags = c.self.inside.ranks.flags in
    let items = c.self.inside.items.items in
    let together = c.self.invariant.1.together in
    ap (in_flight c.self.inside.room)
    (ap (λ ranks. kept ranks.flags items) c.release.ensures
    ∙ kept-released flags items c.slot_at-slot.result c.slot_at-slot.ensures.is_kept (omega arith)
    ∙ ap (remove (kept flags items)) c.slot_at-slot.ensures.rank)
    ∙ ap (λ v. in_flight v.room (remove v.flights c.args.place)) c.self.view_is
