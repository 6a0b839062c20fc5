use Rattle.std.proofs.Common.{◌∙◌, ap, ◌++◌, ◌-◌, replicate, arith}
use Rattle.std.specs.Prelude.{vec_len}
use Rattle.std.proofs.lemmas.List.{take_all}
use Rattle.ring_core.specs.Ranks.{sum_first}
use Rattle.ring_core.proofs.Counting.{sum-behind}
use Rattle.ring_core.proofs.ranks.lengthen.Goals as goal

pub returns-clause-sums : goal.returns-clause-sums
returns-clause-sums c n =
    let more = c.args.count - vec_len c.args.counts.now in
    let whole = take_all c.args.count c.args.counts.now.items (omega arith) in
    ap (sum_first n) (c.in_ok-resize.ensures.items ∙ ap (λ xs. xs ++ replicate more 0) whole)
    ∙ sum-behind n more c.args.counts.now.items
