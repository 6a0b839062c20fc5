use Rattle.std.proofs.Common.{refl, arith}
use Rattle.ring_core.proofs.Counting.{sum-within, step-over}
use Rattle.ring_core.proofs.ranks.find.Goals as goal

pub search-init : goal.search-init
search-init c = record { within = sum-within c.args.start c.args.counts.now.items (let less = c.requires in omega arith); sum = refl }

pub search-preserved : goal.search-preserved
search-preserved c =
    let over = step-over c.args.counts.now.items c.search.at c.search.rest _ c.index.result.now c.search.invariant.sum c.requires
    c.search.invariant.within c.index.ensures (omega arith) in
    record { within = over.0; sum = over.1 }
