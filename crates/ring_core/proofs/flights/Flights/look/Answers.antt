use Rattle.std.proofs.Common.{◌≡◌, length, slice_get, refl, ap, sym, ◌∙◌, arith}
use Rattle.std.proofs.lemmas.Option.{slice_get_past, slice_get_read}
use Rattle.ring_core.specs.Ranks.{kept}
use Rattle.ring_core.proofs.Keeping.{length-kept, get-kept}
use Rattle.ring_core.proofs.flights.Flights.look.Goals as goal

pub returns-then-place-self-clause-value : goal.returns-then-place-self-clause-value
returns-then-place-self-clause-value c =
    let same = c.self.invariant.1.together in
    let count = c.self.invariant.1.count in
    let kept_ones = length-kept c.self.inside.ranks.flags c.self.inside.items.items (omega arith) in
    let shown : length (kept c.self.inside.ranks.flags c.self.inside.items.items) ≡ length c.args.self.now.flights =
    ap (λ v. length v.flights) c.self.view_is in
    let past = c.if-place-self.true in
    sym (slice_get_past _ c.args.place (omega arith))

pub returns-clause-value : goal.returns-clause-value
returns-clause-value c =
    let flags = c.self.inside.ranks.flags in
    let items = c.self.inside.items.items in
    let same = c.self.invariant.1.together in
    sym (get-kept flags items c.select-slot.result c.index.result.now c.select-slot.ensures.kept
    (slice_get_read items _ c.select-slot.result c.index.result.now refl
    (let within = c.select-slot.ensures.within in omega arith) c.index.ensures))
    ∙ ap (slice_get (kept flags items)) c.select-slot.ensures.rank
    ∙ ap (λ v. slice_get v.flights c.args.place) c.self.view_is
