use Rattle.std.proofs.Common.{length, ap, sym, ◌∙◌, arith}
use Rattle.ring_core.proofs.Keeping.{length-kept}
use Rattle.ring_core.proofs.flights.Flights.len.Goals as goal

pub returns : goal.returns
returns c =
    c.self.invariant.1.count
    ∙ sym (length-kept _ c.self.inside.items.items (let same = c.self.invariant.1.together in omega arith))
    ∙ ap (λ v. length v.flights) c.self.view_is
