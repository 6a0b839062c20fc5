use Rattle.std.proofs.Common.{refl, Some, ap, ◌∙◌, arith}
use Rattle.std.proofs.lemmas.Option.{slice_get_read}
use Rattle.ring_core.proofs.Counting.{kept-within, slot-over}
use Rattle.ring_core.proofs.ranks.find_kept.Goals as goal
use Rattle.ring_core.proofs.ranks.find_kept.Goals.{then-index+else-rest-eq0, else-index}

pub search-init : goal.search-init
search-init c = record { within = kept-within c.args.start c.args.flags.now.items (let less = c.requires in omega arith); sum = refl }

pub search-preserved : goal.search-preserved
search-preserved c =
    let here = slice_get_read c.args.flags.now.items _ c.search.at c.index.result.now refl c.search.invariant.within c.index.ensures in
    elim c.if-index.branch [
      | then-index+else-rest-eq0 w ↦ (
          let over = slot-over _ _ c.search.rest _ _ c.if-index.rest c.search.invariant.sum c.requires (here ∙ ap Some w.if-index.true)
          (omega arith) in
          record { within = over.0; sum = over.1 })
      | else-index w ↦ (
          let over = slot-over _ _ c.search.rest _ _ c.if-index.rest c.search.invariant.sum c.requires (here ∙ ap Some w.if-index.false)
          (omega arith) in
          record { within = over.0; sum = over.1 })
    ]
